-- What rows say of a number, and what is known under it.
use Rattle.std.proofs.Common.{◌≡◌, ℕ, ℤ, pos, ◌<ℤ◌, ◌&&◌, ◌||◌, List, [], ◌∷◌, Bool, true, false, cond, map, find, is_some, Option, Some, None, option_map, refl, sym, ap, subst, ◌∙◌, arith}
use Rattle.std.specs.declared.cmp.Ordering.{Ordering}
use Rattle.std.specs.List.{list_any, AllByRecursion}
use Rattle.std.specs.Option.{option_map_or}
use Rattle.std.specs.Ordering.{eq_by_cmp, nat_cmp, int_eq}
use Rattle.std.specs.Cmp.{IsTotalOrder, nat_cmp_total, unsigned_tied}
use Rattle.std.specs.FinMap.{get, contains_key, from_entries}
use Rattle.std.proofs.lemmas.Bool.{eqb-true, ne_eqb, and_right, or_from}
use Rattle.std.proofs.lemmas.Int.{ints}
use Rattle.sqlite_keyed.proofs.SliceLemmas.{any_is_found}
use Rattle.goo_tables_rows.specs.Rows.{Account, account_key}
use Rattle.goo_tables_rows.specs.Stands.{Keeps}
use Rattle.goo_spec_tables.specs.States.{account_of, known_account}
use Rattle.goo_spec_tables.proofs.Known.{get-known, number_test, number_is}

-- the row of a number
abbrev pub row_under : {X : Type 0} → (X → ℤ) → List X → ℕ → Option X
row_under key xs n = find (λ x. int_eq (key x) (pos n)) xs

alone : (a : Bool) → (a && true) || false ≡ a
alone true = refl
alone false = refl

skipped : (a r : Bool) → (a && false) || r ≡ r
skipped true r = refl
skipped false r = refl

-- in a table in the order of its numbers, a row of this number passes where the only one of this number does
module _ {X : Type 0} (number : X → ℕ) (test : X → Bool) (n : ℕ) where
  abbrev key : X → ℤ
  key x = pos (number x)

  abbrev has : X → Bool
  has x = test x && eq_by_cmp nat_cmp n (number x)

  none_past : (xs : List X) → AllByRecursion (λ y. pos n <ℤ key y) xs → list_any has xs ≡ false
  none_past [] above = refl
  none_past (x ∷ xs) above =
      let later = above.0 in
      let other : eq_by_cmp nat_cmp n (number x) ≡ false = unsigned_tied n (number x) ∙ ne_eqb n (number x) (λ same. grind (arith, ints)) in
      or_from (has x) (list_any has xs) (and_right (test x) (eq_by_cmp nat_cmp n (number x)) other) (none_past xs above.1)

  pub any_keyed : (rows : List _) (to_row : X → _) (xs : List X) → Keeps rows to_row key xs → list_any has xs ≡ option_map_or test (row_under key xs n) false
  any_keyed rows to_row [] it = refl
  any_keyed rows to_row (x ∷ xs) it =
      go (int_eq (key x) (pos n)) (eq_by_cmp nat_cmp n (number x)) refl (number_test (number x) n) (any_keyed (map to_row xs) to_row xs (record { are = refl; rise = it.rise.1 }))
    where
      go : (b c : Bool) → int_eq (key x) (pos n) ≡ b → int_eq (key x) (pos n) ≡ c → list_any has xs ≡ option_map_or test (row_under key xs n) false
          → (test x && c) || list_any has xs ≡ option_map_or test (cond b (Some x) (row_under key xs n)) false
      go true true here same rest =
          let number_here = eqb-true (number x) n (sym (number_is (number x) n) ∙ here) in
          ap (λ r. (test x && true) || r) (none_past xs (subst (λ k. AllByRecursion (λ y. pos k <ℤ key y) xs) number_here it.rise.0)) ∙ alone (test x)
      go true false here same rest = absurd cc
      go false true here same rest = absurd cc
      go false false here same rest = skipped (test x) (list_any has xs) ∙ rest

pub still_some : {X Y : Type 0} (f : X → Y) (o : Option X) → is_some (option_map f o) ≡ is_some o
still_some f None = refl
still_some f (Some x) = refl

-- a row has the key where the map has it
module _ {A K X : Type 0} {R : K → K → Ordering} (o : IsTotalOrder R) (entry : A → K × X) (q : K) where
  pub there : (xs : List A) → list_any (λ a. eq_by_cmp R q (entry a).0) xs ≡ contains_key (from_entries {R = R} (map entry xs)) q
  there xs =
      any_is_found (λ a. eq_by_cmp R q (entry a).0) xs ∙ sym (still_some (λ a. (entry a).1) (find (λ a. eq_by_cmp R q (entry a).0) xs))
      ∙ sym (ap is_some (get-known o entry q (λ a. eq_by_cmp R q (entry a).0) (λ a. refl) xs))

-- the account of a number is that of the row of this number
pub account_at : (xs : List Account) (n : ℕ) → get (from_entries {R = nat_cmp} (map known_account xs)) n ≡ option_map account_of (row_under account_key xs n)
account_at xs n = get-known nat_cmp_total known_account n (λ a. int_eq (pos a.number) (pos n)) (λ a. number_test a.number n) xs
