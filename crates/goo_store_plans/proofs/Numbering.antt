-- Rows under numbers that are given one after another.
use Rattle.std.proofs.Common.{◌≡◌, ℕ, pos, ◌≤◌, ◌&&◌, List, true, false, map, find, is_some, Option, Some, None, refl, ap, sym, ◌∙◌, arith}
use Rattle.std.specs.FinMap.{FinMap, get, insert, from_entries, nat_cmp-IsAntisymmetric}
use Rattle.std.specs.Cmp.{nat_cmp_total}
use Rattle.std.specs.Ordering.{int_eq, nat_cmp}
use Rattle.std.proofs.lemmas.Bool.{le-leb}
use Rattle.sqlite_keyed.specs.Keyed.{has_key, insert_by}
use Rattle.sqlite_keyed.proofs.RuleLemmas.{first_of_both, second_of_both}
use Rattle.sqlite_keyed.proofs.SliceLemmas.{is_some-map}
use Rattle.goo_types.specs.Day.{day_reading}
use Rattle.goo_spec.specs.Sound.{AreBelow}
use Rattle.goo_tables_rows.specs.Rows.{Meta}
use Rattle.goo_spec_tables.specs.Readable.{is_meta, is_code, is_between, reads}
use Rattle.goo_spec_tables.proofs.Inserted.{map_inserted}
use Rattle.goo_spec_tables.proofs.Known.{get-known, number_test}

-- the next number isn't given yet
pub next_free : {X : Type 0} (next : ℕ) (m : FinMap nat_cmp X) → AreBelow next m → get m next ≡ None
next_free {X} next m below = go (get m next) refl
  where
    go : (o : Option X) → get m next ≡ o → o ≡ None
    go None is = refl
    go (Some x) is = absurd (omega (arith, below next (ap is_some is)))

-- a row more under a number that isn't given yet
pub numbered : {A X : Type 0} (number : A → ℕ) (value : A → X) (x : A) (xs : List A) → get (from_entries {R = nat_cmp} (map (λ a. (number a, value a)) xs)) (number x) ≡ None
    → from_entries {R = nat_cmp} (map (λ a. (number a, value a)) (insert_by (λ a. pos (number a)) xs x)) ≡ insert (from_entries (map (λ a. (number a, value a)) xs)) (number x) (value x)
numbered number value x xs none =
    let found = get-known nat_cmp_total (λ a. (number a, value a)) (number x) (λ a. int_eq (pos (number a)) (pos (number x))) (λ a. number_test (number a) (number x)) xs in
    let fresh : has_key (λ a. pos (number a)) xs (pos (number x)) ≡ false = sym (is_some-map value (find (λ a. int_eq (pos (number a)) (pos (number x))) xs)) ∙ ap is_some (sym found ∙ none) in
    map_inserted nat_cmp_total (λ a. pos (number a)) (λ a. (number a, value a)) x nat_cmp-IsAntisymmetric xs fresh none

between : (low high n : ℕ) → low ≤ n → n ≤ high → is_between low high n ≡ true
between low high n least most = λ i. le-leb low n least i && le-leb n high most i

-- the row of the registry with other next numbers
pub counters_read : (m : Meta) → is_meta m ≡ true → (serial account cancellation withdrawal notice : ℕ) → (1 ≤ serial) × (serial ≤ 1000000000000) → (1 ≤ account) × (account ≤ 1000000000) → (1 ≤ cancellation) × (cancellation ≤ 1000000000)
    → (1 ≤ withdrawal) × (withdrawal ≤ 1000000000) → (1 ≤ notice) × (notice ≤ 1000000000)
    → is_meta (record m { next_serial = serial; next_account = account; next_cancellation = cancellation; next_withdrawal = withdrawal; next_notice = notice }) ≡ true
counters_read m read serial account cancellation withdrawal notice a b c d e =
    let rest = second_of_both (is_code m.code) _ read in
    λ i. first_of_both (is_code m.code) _ read i && (first_of_both (reads (day_reading m.today)) _ rest i && (between 1 1000000000000 serial a.0 a.1 i
    && (between 1 1000000000 account b.0 b.1 i && (between 1 1000000000 cancellation c.0 c.1 i && (between 1 1000000000 withdrawal d.0 d.1 i && between 1 1000000000 notice e.0 e.1 i)))))

-- the row of the registry on another day
pub today_read : (m : Meta) → is_meta m ≡ true → (today : List ℕ) → reads (day_reading today) ≡ true → is_meta (record m { today = today }) ≡ true
today_read m read today day =
    let rest = second_of_both (is_code m.code) _ read in
    λ i. first_of_both (is_code m.code) _ read i && (day i && second_of_both (reads (day_reading m.today)) _ rest i)
