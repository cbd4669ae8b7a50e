-- A stored row as its values, one for each column of its table.
use Rattle.std.proofs.Common.{◌≡◌, ◌≤◌, ℕ, zero, suc, List, [], ◌∷◌, length, Some, true, refl, ap, subst, ◌∙◌, arith}
use Rattle.sqlite.specs.declared.types.Value.{Value}
use Rattle.sqlite.specs.declared.types.Value.TheVariants.{Null, Int, Real, Text, Blob}
use Rattle.sqlite.specs.Order.{Row, column}
use Rattle.sqlite.specs.Table.{Table}
use Rattle.sqlite_schema.specs.declared.schema.Column.{Column}
use Rattle.sqlite_schema.specs.Rules.{are_typed}
use Rattle.goo_tables_rows.specs.Met.{Keyed, whole}
use Rattle.goo_tables_rows.proofs.Meeting.{IsTyped, typed_length}

-- so many values from a place on
abbrev pub values : Row → ℕ → ℕ → Row
values r from zero = []
values r from (suc n) = column r from ∷ values r (suc from) n

later_values : (v : Value) (vs : Row) (from n : ℕ) → values vs from n ≡ values (v ∷ vs) (suc from) n
later_values v vs from zero = refl
later_values v vs from (suc n) = ap (λ l. column vs from ∷ l) (later_values v vs (suc from) n)

-- a row that is no longer, and whose value there is not NULL
pub as_values : (vs : Row) (last : ℕ) → length vs ≤ suc last → ¬ (Null ≡ column vs last) → vs ≡ values vs 0 (suc last)
as_values [] zero short some = absurd (some refl)
as_values [] (suc last) short some = absurd (some refl)
as_values (v ∷ []) zero short some = refl
as_values (v ∷ w ∷ vs) zero short some = absurd (omega arith)
as_values (v ∷ vs) (suc last) short some = ap (λ l. v ∷ l) (as_values vs last (omega arith) some ∙ later_values v vs 0 (suc last))

module _ (table : Table) (last : ℕ) (width : length table.columns ≡ suc last) (k : Keyed) (fits : IsTyped table.key table.columns k) (some : ¬ (Null ≡ column k.1 last)) where
  as_columns : k.1 ≡ values k.1 0 (suc last)
  as_columns = as_values k.1 last (omega (arith, width, typed_length table.key 0 table.columns k.1 fits)) some

  pub whole_is : whole k ≡ Int k.0 ∷ values k.1 0 (suc last)
  whole_is = ap (λ l. Int k.0 ∷ l) as_columns

  pub values_typed : are_typed table.key 0 table.columns (values k.1 0 (suc last)) ≡ true
  values_typed = subst (λ vs. are_typed table.key 0 table.columns vs ≡ true) as_columns fits

-- where the first column stands for the rowid, its own place holds NULL
pub null_at_key : (columns : List Column) (vs : Row) → are_typed (Some 0) 0 columns vs ≡ true → column vs 0 ≡ Null
null_at_key columns [] fits = refl
null_at_key [] (v ∷ vs) fits = absurd cc
null_at_key (c ∷ columns) (Null ∷ vs) fits = refl
null_at_key (c ∷ columns) (Int n ∷ vs) fits = absurd (let h = fits in cc)
null_at_key (c ∷ columns) (Real x ∷ vs) fits = absurd (let h = fits in cc)
null_at_key (c ∷ columns) (Text t ∷ vs) fits = absurd (let h = fits in cc)
null_at_key (c ∷ columns) (Blob b ∷ vs) fits = absurd (let h = fits in cc)
