-- What the tables hold for a declaration.
use Rattle.std.specs.Prelude.{◌≡◌, ℕ, pos, List, Some}
use Rattle.std.specs.FinMap.{get}
use Rattle.sqlite_keyed.specs.Keyed.{next_key}
use Rattle.goo_tables_rows.specs.Rows.{Tables, lot_key, declaration_key}
use Rattle.goo_spec_tables.specs.States.{state_of}
use Rattle.goo_store_plans.specs.declared.standing.DeclarationBasis.{DeclarationBasis}

-- the device under its number, and the numbers that a declaration and a lot get
pub record IsStanding (t : Tables) (gsrn : List ℕ) (x : DeclarationBasis) : Type 0 where
  pub device : get (state_of t).devices gsrn ≡ Some x.device
  pub number : pos x.number ≡ next_key declaration_key t.declarations
  pub next_lot : pos x.next_lot ≡ next_key lot_key t.lots
