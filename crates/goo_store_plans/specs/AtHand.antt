-- What the tables have for a look-up that comes before a commit.
use Rattle.std.specs.Prelude.{◌≡◌, ◌⊎◌, ◌+◌, ◌≤◌, ◌^◌, ℕ, ℤ, pos, List, Some, IsSome}
use Rattle.std.specs.FinMap.{get}
use Rattle.std.specs.List.{Any}
use Rattle.sqlite_keyed.specs.Keyed.{next_key}
use Rattle.goo_types.specs.declared.lot_fields.LotFields.{LotFields}
use Rattle.goo_spec.specs.Lots.{key_of}
use Rattle.goo_tables_rows.specs.Rows.{Tables, lot_key, declaration_key}
use Rattle.goo_spec_tables.specs.States.{state_of}
use Rattle.goo_store_plans.specs.declared.lot_numbers.NumberedLot.{NumberedLot}

-- so many further rows get numbers that a column keeps: one above the last, and so on, below 2^63
abbrev pub HasRoom : {X : Type 0} → ℕ → (X → ℤ) → List X → Type 0
HasRoom count key rows = (n : ℕ) → pos n ≡ next_key key rows → n + count ≤ 2 ^ 63

-- the device is registered
abbrev pub IsRegistered : Tables → List ℕ → Type 0
IsRegistered t gsrn = IsSome (get (state_of t).devices gsrn)

-- the device is registered, and no number has passed what a column keeps
pub record HasStanding (t : Tables) (gsrn : List ℕ) : Type 0 where
  pub device : IsRegistered t gsrn
  pub declarations : HasRoom 0 declaration_key t.declarations
  pub lots : HasRoom 0 lot_key t.lots

-- the lot is one of those that are added, or the registry knows it
abbrev pub IsAtHand : List NumberedLot → Tables → LotFields → Type 0
IsAtHand added t lot = Any (λ x. x.lot ≡ lot) added ⊎ (get (state_of t).lots (key_of lot) ≡ Some lot)
