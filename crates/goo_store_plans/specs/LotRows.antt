-- Rows of lots that are put in, beside their numbers.
use Rattle.std.specs.Prelude.{◌≡◌, ◌≤◌, ℕ, ◌+◌, ◌||◌, pos, Bool, List, ◌++◌, fold, Option, Some, None}
use Rattle.std.specs.List.{list_any}
use Rattle.std.specs.FinMap.{contains_key}
use Rattle.std.specs.Ordering.{eq_by_cmp}
use Rattle.sqlite_keyed.specs.Keyed.{IsKeyedBy, insert_by, next_key}
use Rattle.goo_types.specs.declared.part.Part.{Part}
use Rattle.goo_spec.specs.Lots.{key_of}
use Rattle.goo_spec.specs.State.{text_cmp}
use Rattle.goo_tables_rows.specs.Rows as row
use Rattle.goo_tables_rows.specs.Rows.{Lot, lot_key}
use Rattle.goo_spec_tables.specs.Places.{lot_of}
use Rattle.goo_spec_tables.specs.Texts.{day_of, support_of}
use Rattle.goo_store_plans.specs.Found.{key_in}
use Rattle.goo_store_plans.specs.LotNumbers.{AreJustWith}
use Rattle.goo_store_plans.specs.NewLots.{known_lots, AreNewLots}
use Rattle.goo_store_plans.specs.declared.known_rows.LotKey.{LotKey}
use Rattle.goo_store_plans.specs.declared.lot_numbers.NumberedLot.{NumberedLot}
use Rattle.goo_store_values.specs.declared.plants.Plant.{Plant}

-- one above the number of the last row, and 1 where there is none
abbrev pub next_lot : Option Lot → ℕ
next_lot None = 1
next_lot (Some l) = l.id + 1

abbrev pub next_declaration : Option row.Declaration → ℕ
next_declaration None = 1
next_declaration (Some d) = d.id + 1

abbrev pub next_correction : Option row.Correction → ℕ
next_correction None = 1
next_correction (Some c) = c.id + 1

-- the row has the number and states the lot
pub record HasNumber (l : Lot) (x : NumberedLot) : Type 0 where
  pub number : l.id ≡ x.number
  pub states : lot_of l ≡ x.lot

-- the columns of a plant, with its limits
pub record IsRowOfPlant (p : row.Plant) (x : Plant) : Type 0 where
  pub country : p.country ≡ x.country
  pub site : p.site ≡ x.site
  pub tech : p.tech ≡ x.tech
  pub source : p.source ≡ x.source
  pub capacity_w : p.capacity_w ≡ x.capacity_w
  pub capacity_limit : p.capacity_w ≤ 100000000000
  pub commissioned : day_of p.commissioned ≡ x.commissioned
  pub support : support_of p.support ≡ x.support

-- the lots with these rows
abbrev pub with_rows : List Lot → List Lot → List Lot
with_rows lots new = fold (insert_by lot_key) lots new

-- whether a lot of this key is among some
abbrev pub is_among : List NumberedLot → List ℕ → Bool
is_among xs key = list_any (λ x. eq_by_cmp text_cmp key (key_of x.lot)) xs

-- whether a lot of this key is among those that are missing
abbrev pub is_among_missing : List LotKey → List ℕ → Bool
is_among_missing ks key = list_any (λ k. eq_by_cmp text_cmp key (key_in k)) ks

-- What holds while the lots of a notice's parts are gathered: the rows that are new, beside the numbered lots, and the next number;
-- whatever is put in for the parts that are left stands behind.
pub record AreGathered (lots : List Lot) (all left : List Part) (new : List Lot) (numbered : List NumberedLot) (next : ℕ) : Type 0 where
  pub rise : IsKeyedBy lot_key (with_rows lots new)
  pub next_is : pos next ≡ next_key lot_key (with_rows lots new)
  pub members : (k : List ℕ) → contains_key (known_lots (with_rows lots new)) k ≡ (contains_key (known_lots lots) k || is_among numbered k)
  pub numbers : AreJustWith lots numbered (with_rows lots new)
  pub done : (more : List Lot) → AreNewLots (with_rows lots new) left more → AreNewLots lots all (new ++ more)
