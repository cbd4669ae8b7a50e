-- A row that agrees with no other in the columns of a unique index may be put in.
use Rattle.std.proofs.Common.{◌≡◌, ℕ, ℤ, Bool, true, false, not, ◌&&◌, List, [], ◌∷◌, filter, Less, Equal, Greater, refl, sym, ◌∙◌, arith, int_eq, true≢false}
use Rattle.std.specs.List.{AllByRecursion}
use Rattle.std.specs.Ordering.{match_ordering}
use Rattle.std.proofs.lemmas.Int.{ints}
use Rattle.sqlite.specs.declared.types.Value.TheVariants.{Int, Text}
use Rattle.sqlite.specs.Order.{Row}
use Rattle.sqlite.specs.Tree.{rowid, put_row}
use Rattle.sqlite_rules.proofs.KeyLemmas.{agree_back}
use Rattle.sqlite_schema.specs.Rules.{agree, equal, differ, clashes}
use Rattle.sqlite_sql.specs.declared.ops.CompareOp.TheVariants.{Eq, Ne}
use Rattle.sqlite_typed.proofs.TestLemmas.{at_ints, at_texts}
use Rattle.sqlite_value.specs.Keys.{plain, first_key}
use Rattle.sqlite_value.specs.declared.keys.Collation.TheVariants.{Binary}
use Rattle.sqlite_typed.specs.Tests.{bytes_eq}
use Rattle.sqlite_value.specs.Order.{value_cmp}
use Rattle.sqlite_keyed.proofs.ListLemmas.{all-filter, all_weaker, all_both, any_from_none, none_from_any}
use Rattle.goo_tables_rows.proofs.Obeying.{AreUnique, unique_among}

all-put_row : (P : Row → Type 0) (new : Row) (rows : List Row) → P new → AllByRecursion P rows → AllByRecursion P (put_row new rows)
all-put_row P new [] h all = (h, tt)
all-put_row P new (r ∷ rows) h all =
    elim (value_cmp (rowid r) (rowid new)) as (λ o. AllByRecursion P (match_ordering o (r ∷ put_row new rows) (new ∷ rows) (new ∷ r ∷ rows)))
    [ Less ↦ (all.0, all-put_row P new rows h all.1) | Equal ↦ (h, all.1) | Greater ↦ (h, all) ]

first_false : (a b : Bool) → a ≡ false → (a && b) ≡ false
first_false a b h = rw h refl

second_false : (a b : Bool) → b ≡ false → (a && b) ≡ false
second_false true b h = h
second_false false b h = refl

unclash : (b : Bool) → (not b && true) ≡ true → b ≡ false
unclash true h = absurd (true≢false (sym h))
unclash false h = refl

clear : (b : Bool) → b ≡ false → (not b && true) ≡ true
clear b h = rw h refl

module _ (places : List ℕ) (new : Row) (n : ℤ) (is : rowid new ≡ Int n) where
  abbrev agrees : Row → Row → Bool
  agrees other row = agree plain places other places row

  itself : differ (rowid new) (rowid new) ≡ false
  itself = rw is (at_ints false Ne n n ∙ grind (arith, ints))

  turned : (row : Row) (b : Bool) → agrees new row ≡ b → agrees row new ≡ false → agrees new row ≡ false
  turned row false e apart = e
  turned row true e apart = absurd (true≢false (sym (agree_back plain places places new row e) ∙ apart))

  put_apart : (rows : List Row) → AllByRecursion (λ r. agrees r new ≡ false) rows → AllByRecursion (λ r. clashes plain places rows r ≡ false) rows
      → AllByRecursion (λ r. clashes plain places (put_row new rows) r ≡ false) (put_row new rows)
  put_apart rows free none =
      all-put_row (λ r. clashes plain places (put_row new rows) r ≡ false) new rows
      (any_from_none _ (put_row new rows) (all-put_row (λ o. (agrees o new && differ (rowid o) (rowid new)) ≡ false) new rows (second_false _ _ itself) (all_weaker _ (λ o. (agrees o new && differ (rowid o) (rowid new)) ≡ false) (λ o h. first_false _ _ h) rows free)))
      (all_both (λ r. clashes plain places rows r ≡ false) (λ r. agrees r new ≡ false) (λ r. clashes plain places (put_row new rows) r ≡ false)
      (λ r none apart. any_from_none _ (put_row new rows) (all-put_row (λ o. (agrees o r && differ (rowid o) (rowid r)) ≡ false) new rows (first_false _ _ (turned r (agrees new r) refl apart)) (none_from_any _ rows none))) rows none free)

  -- in a table with such an index and no other
  module _ (tree : ℕ) (indexed : (rows : List Row) (row : Row) → unique_among rows tree row ≡ (not (clashes plain places rows row) && true)) where
    pub stays_apart : (rows : List Row) → AllByRecursion (λ r. agrees r new ≡ false) rows → AreUnique tree rows → AreUnique tree (put_row new rows)
    stays_apart rows free was =
        let none = all_weaker (λ r. unique_among rows tree r ≡ true) (λ r. clashes plain places rows r ≡ false) (λ r h. unclash _ (sym (indexed rows r) ∙ h)) rows was in
        all_weaker _ (λ r. unique_among (put_row new rows) tree r ≡ true) (λ r h. indexed (put_row new rows) r ∙ clear _ h) (put_row new rows) (put_apart rows free none)

-- some rows are taken out
pub fewer_unique : (places : List ℕ) (tree : ℕ) → ((rows : List Row) (row : Row) → unique_among rows tree row ≡ (not (clashes plain places rows row) && true)) → (q : Row → Bool) (rows : List Row) → AreUnique tree rows → AreUnique tree (filter q rows)
fewer_unique places tree indexed q rows was =
    all-filter (λ r. unique_among (filter q rows) tree r ≡ true) q rows
    (all_weaker (λ r. unique_among rows tree r ≡ true) (λ r. unique_among (filter q rows) tree r ≡ true)
    (λ r h. indexed (filter q rows) r ∙ (let none = unclash _ (sym (indexed rows r) ∙ h) in clear _ (any_from_none _ (filter q rows) (all-filter _ q rows (none_from_any _ rows none))))) rows was)

-- ---- what the values of two rows say of that

first_binary : (first_key plain).collation ≡ Binary
unfolding first_key
first_binary = refl

pub same_text : (s t : List ℕ) → equal (first_key plain).collation (Text s) (Text t) ≡ bytes_eq s t
same_text s t = rw first_binary (at_texts false Eq s t)

pub same_number : (m n : ℤ) → equal (first_key plain).collation (Int m) (Int n) ≡ int_eq m n
same_number m n = rw first_binary (at_ints false Eq m n)

pub one_apart : (a : Bool) → a ≡ false → (a && true) ≡ false
one_apart a h = first_false a true h

pub two_apart : (a b : Bool) → (a && b) ≡ false → (a && (b && true)) ≡ false
two_apart true b h = one_apart b h
two_apart false b h = refl

pub three_apart : (a b c : Bool) → (a && (b && c)) ≡ false → (a && (b && (c && true))) ≡ false
three_apart true b c h = two_apart b c h
three_apart false b c h = refl
