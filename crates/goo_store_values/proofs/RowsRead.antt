-- The rows that a statement finds in tables that keep the rules are rows that are read.
use Rattle.std.proofs.Common.{◌≡◌, pos, Bool, true, false, cond, IfSome, List, [], ◌∷◌, find, All, Option, Some, None, option_map, sym, subst, ◌∙◌, arith}
use Rattle.std.specs.List.{list_all}
use Rattle.std.proofs.lemmas.Iterator.Adapters.{option_map_id}
use Rattle.std.proofs.lemmas.List.Elements.{All-nil, All-cons, All-head, All-tail}
use Rattle.sqlite.specs.Effect.{Database}
use Rattle.sqlite.specs.declared.types.Value.TheVariants.{Int}
use Rattle.sqlite_keyed.proofs.RuleLemmas.{first_of_both, second_of_both}
use Rattle.goo_tables_rows.specs.Readable.{meta_readable, numbered_meta_readable}
use Rattle.goo_tables_rows.specs.Rows.{Tables, meta_columns}
use Rattle.goo_tables_rows.specs.Stands.{Stands}
use Rattle.goo_store_open.specs.Reading.{CanBeRead}
use Rattle.goo_spec_tables.specs.Kept.{AreKept, IsKeptLot}
use Rattle.goo_spec_tables.specs.Readable.{is_lot}
use Rattle.goo_store_rules.proofs.CanBeRead.{each_with, each_kept}
use Rattle.goo_store_values.specs.Reading.{IsReadableLot}

-- ---- a row that was found is one of the rows

module _ {A B X : Type 0} (part : A → B) (of : X → B) (Q : B → Type 0) (test : A → Bool) where
  pub found_part : (xs : List A) → All (λ a. Q (part a)) xs → (row : Option X) → option_map of row ≡ option_map part (find test xs) → IfSome row (λ r. Q (of r))
  found_part [] all None is = tt
  found_part [] all (Some r) is = absurd cc
  found_part (x ∷ xs) all row is = go (test x) row is (found_part xs (All-tail (λ a. Q (part a)) x xs all))
    where
      go : (b : Bool) (o : Option X) → option_map of o ≡ option_map part (cond b (Some x) (find test xs)) → ((o : Option X) → option_map of o ≡ option_map part (find test xs) → IfSome o (λ r. Q (of r))) → IfSome o (λ r. Q (of r))
      go false o same later = later o same
      go true None same later = tt
      go true (Some r) same later = let one : part x ≡ of r = cc in subst Q one (All-head (λ a. Q (part a)) x xs all)

-- where the rows are found as they are
pub found_row : {A X : Type 0} (of : X → A) (Q : A → Type 0) (test : A → Bool) (xs : List A) → All Q xs → (row : Option X) → option_map of row ≡ find test xs → IfSome row (λ r. Q (of r))
found_row of Q test xs all row is = found_part (λ a. a) of Q test xs all row (is ∙ sym (option_map_id (find test xs)))

-- rows that pass a test are such rows
pub each_so : {A : Type 0} (p : A → Bool) (Q : A → Type 0) → ((a : A) → p a ≡ true → Q a) → (xs : List A) → list_all p xs ≡ true → All Q xs
each_so p Q so [] all = All-nil Q
each_so p Q so (x ∷ xs) all = All-cons Q x xs (so x (first_of_both (p x) (list_all p xs) all)) (each_so p Q so xs (second_of_both (p x) (list_all p xs) all))

-- ---- what `CanBeRead` says of the row of the registry

pub meta_read : (t : Tables) → CanBeRead t → meta_readable (meta_columns t.meta)
meta_read t can =
    let h : numbered_meta_readable (Int (pos 1) ∷ meta_columns t.meta) = All-head numbered_meta_readable (Int (pos 1) ∷ meta_columns t.meta) [] can.meta in
    (omega arith, h.2, h.3, h.4, h.5, h.6, h.7, h.8, h.9)

-- ---- what the rules of the tables say of the rows that are found

module _ (db : Database) (t : Tables) (stands : Stands db t) (kept : AreKept t) where
  pub lots_kept : All IsReadableLot t.lots
  lots_kept = each_with is_lot IsKeptLot IsReadableLot (λ l it good. record { values = good; days = it.valid }) t.lots (each_kept t.lots stands.lots.rise kept.lots) kept.readable.lots
