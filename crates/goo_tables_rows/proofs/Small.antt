-- A small row without a float is stored, and so is what each index of its table takes of it.
use Rattle.std.proofs.Common.{◌≡◌, ℕ, zero, suc, ◌+◌, ◌==◌, ◌<◌, ◌≤◌, inl, inr, Bool, true, false, not, List, [], ◌∷◌, map, filter, length, length-append, sum_by, nat_le, refl, sym, ap, subst, ◌∙◌, arith}
use Rattle.std.specs.List.{AllByRecursion, list_all}
use Rattle.std.specs.Float.{NotNan}
use Rattle.std.proofs.lemmas.Bool.{and_parts}
use Rattle.std.proofs.lemmas.Bool.Decides.{nat_tests}
use Rattle.std.proofs.lemmas.List.{length-map}
use Rattle.std.proofs.lemmas.Nat.Bits.{bit_at-zero}
use Rattle.sqlite.specs.declared.types.Value.{Value}
use Rattle.sqlite.specs.declared.types.Value.TheVariants.{Null, Int, Real, Text, Blob}
use Rattle.sqlite.specs.Order.{Row, column, number, bytes}
use Rattle.sqlite.specs.Table.{Table}
use Rattle.sqlite.specs.Tree.{rowid}
use Rattle.sqlite_rules.specs.Edit.{IsOversized}
use Rattle.sqlite_rules.proofs.ListLemmas.{all_has, test_has, has_kept}
use Rattle.sqlite_schema.specs.declared.schema.Index.{Index}
use Rattle.sqlite_schema.specs.Rules.{table_reals, index_reals}
use Rattle.sqlite_sql.specs.Catalog.{entry_of}
use Rattle.sqlite_trees.specs.View.{IsStorable}
use Rattle.sqlite_typed.proofs.RowLemmas.{int_is_number, zero_is_number, no_nan}
use Rattle.goo_tables_rows.specs.Columns.{registry_schema, registry_indexes}
use Rattle.goo_tables_rows.specs.Refused.{IsSmall}

abbrev pub is_real : Value → Bool
is_real Null = false
is_real (Int n) = false
is_real (Real x) = true
is_real (Text t) = false
is_real (Blob b) = false

is_number : (v : Value) → not (is_real v) ≡ true → NotNan (number v)
is_number Null h = zero_is_number
is_number (Int n) h = int_is_number n
is_number (Real x) h = absurd (let e = h in cc)
is_number (Text t) h = zero_is_number
is_number (Blob b) h = zero_is_number

abbrev pub has_no_float : Row → Bool
has_no_float = list_all (λ v. not (is_real v))

are_numbers : (row : Row) → has_no_float row ≡ true → AllByRecursion (λ v. NotNan (number v)) row
are_numbers [] h = tt
are_numbers (v ∷ vs) h = let parts = and_parts _ _ h in (is_number v parts.0, are_numbers vs parts.1)

no_float_at : (row : Row) (at : ℕ) → has_no_float row ≡ true → not (is_real (column row at)) ≡ true
no_float_at [] at h = refl
no_float_at (v ∷ vs) zero h = (and_parts _ _ h).0
no_float_at (v ∷ vs) (suc at) h = no_float_at vs at (and_parts _ _ h).1

no_float_in : (row : Row) (places : List ℕ) → has_no_float row ≡ true → has_no_float (entry_of places row) ≡ true
no_float_in row [] h = rw (no_float_at row 0 h) refl
no_float_in row (p ∷ places) h = rw (no_float_at row p h) (no_float_in row places h)

no_reals : (places : List ℕ) → index_reals 0 places ≡ 0
no_reals [] = refl
no_reals (p ∷ places) = rw (bit_at-zero p, no_reals places) refl

stored : (row : Row) → has_no_float row ≡ true → 0 < length row → length row ≤ 2001 → IsSmall row → IsStorable 0 row
stored row plain some few small = record {
  typed = λ c h. absurd (let bad : 0 ≡ 1 = sym (bit_at-zero c) ∙ h in cc);
  columns = (some, few);
  numbers = no_nan row (are_numbers row plain);
  short = small;
}

abbrev weight : Row → ℕ
weight row = sum_by (λ v. 18 + length (bytes v)) row

-- an entry is no heavier than the row
abbrev IsLighter : Row → Index → Type 0
IsLighter row i = weight (entry_of i.columns row) ≤ weight row

pub is_stored : (table : Table) (row : Row) → table_reals table ≡ 0 → has_no_float row ≡ true → (1 < length row) × (length row ≤ 2001) → AllByRecursion (IsLighter row) (filter (λ i. i.table == table.tree) registry_indexes)
    → IsSmall row → ¬ IsOversized registry_schema table row
is_stored table row bare plain long lighter small (inl big) = big (subst (λ n. IsStorable n row) (sym bare) (stored row plain (omega (arith, long.0)) long.1 small), long.0)
is_stored table row bare plain long lighter small (inr (i, has, same, big)) =
    let here : (i.table == table.tree) ≡ true = (let e = same in grind (arith, nat_tests)) in
    let light = all_has (IsLighter row) _ i lighter (has_kept (λ (j : Index). j.table == table.tree) registry_indexes i has here) in
    let few : length i.columns ≤ 2000 = (let e = test_has (λ (j : Index). nat_le (length j.columns) 2000) registry_indexes i refl has in grind (arith, nat_tests)) in
    let long : length (entry_of i.columns row) ≡ length i.columns + 1 = length-append (map (column row) i.columns) (rowid row ∷ []) ∙ ap (λ n. n + 1) (length-map i.columns (column row)) in
    big (subst (λ n. IsStorable n (entry_of i.columns row)) (sym (ap (λ n. index_reals n i.columns) bare ∙ no_reals i.columns))
    (stored (entry_of i.columns row) (no_float_in row i.columns plain) (omega (arith, long)) (omega (arith, long, few)) (omega (arith, light, small))))
