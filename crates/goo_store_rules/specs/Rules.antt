-- All rules, over all that was read.
use Rattle.std.specs.Prelude.{◌≡◌, ◌↔◌, ◌&&◌, ℕ, pos, true, List, None, All, filter}
use Rattle.std.specs.Ordering.{int_eq}
use Rattle.sqlite.specs.Effect.{Database}
use Rattle.sqlite_typed.specs.Tests.{bytes_eq}
use Rattle.goo_tables_rows.specs.Once.{IsOnce}
use Rattle.goo_tables_rows.specs.Rows.{Tables, Kept, Device, Lot, lot_in}
use Rattle.goo_tables_rows.specs.Stands.{Stands}
use Rattle.goo_spec_tables.specs.Kept.{AreKeptIn}
use Rattle.goo_store_open.specs.Found.{AreOf}
use Rattle.goo_store_open.specs.declared.finding.Found.{Found}
use Rattle.goo_store_rules.specs.Keeping.{has_good_values, has_good_corrections, has_its_numbers, has_its_names, has_its_places, has_its_notices, has_its_declarations, has_its_carriers}
use Rattle.goo_store_rules.specs.Lots.{IsGoodLot}
use Rattle.goo_store_rules.specs.Production.{KeepsProduction}
use Rattle.goo_store_rules.specs.WellKept.{are_joined}

-- rules of rows by themselves, and of their numbers
pub record KeepsValues (x : Found) : Type 0 where
  pub values : has_good_values x ≡ true
  pub corrections : has_good_corrections x ≡ true
  pub numbers : has_its_numbers x ≡ true
  pub lots : All (λ row. IsGoodLot (lot_in row)) x.rows.production.lots.items

-- rules of what rows name
pub record KeepsNames (x : Found) : Type 0 where
  pub names : has_its_names x ≡ true
  pub places : has_its_places x ≡ true
  pub notices : has_its_notices x ≡ true
  pub declared : has_its_declarations x ≡ true
  pub carriers : has_its_carriers x ≡ true

-- in version 2 no piece is left to join
abbrev pub KeepsWhole : ℕ → Found → Type 0
KeepsWhole number x = number ≡ 2 → are_joined None x.rows.production.pieces.items ≡ true

-- the rules of a version
pub record KeepsRules (number : ℕ) (x : Found) : Type 0 where
  pub values : KeepsValues x
  pub whole : KeepsWhole number x
  pub names : KeepsNames x
  pub production : KeepsProduction x.meta.code x.rows.production

-- no two devices have one number, and no two lots one origin, device and first day: a database's indexes see to it
pub record HaveOwnKeys (t : Tables) : Type 0 where
  pub devices : (gsrn : List ℕ) → IsOnce (filter (λ (k : Kept Device). bytes_eq k.1.gsrn gsrn) t.devices)
  pub lots : (origin : ℕ) (device first_day : List ℕ) → IsOnce (filter (λ (l : Lot). int_eq (pos l.origin) (pos origin) && (bytes_eq l.device device && bytes_eq l.first_day first_day)) t.lots)

-- what was read of a database of a version keeps the rules that are judged just where its tables keep those of a registry
abbrev pub RulesAreThose : Type 0
RulesAreThose = (number : ℕ) (db : Database) (t : Tables) (x : Found) → Stands db t → HaveOwnKeys t → AreOf t x → t.meta.version ≡ number → KeepsRules number x ↔ AreKeptIn number t
