-- What is found among rows, and rows that are the only ones of their kind.
use Rattle.std.proofs.Common.{◌≡◌, ◌<ℤ◌, ℤ, Bool, true, false, not, cond, ◌&&◌, ◌||◌, List, [], ◌∷◌, map, filter, find, Some, None, inl, inr, int_eq, refl, sym, ap, subst, ◌∙◌, arith}
use Rattle.std.specs.List.{AllByRecursion, list_any, list_all}
use Rattle.std.proofs.lemmas.Bool.{or_left, or_right}
use Rattle.std.proofs.lemmas.Cmp.{int_eq_equiv}
use Rattle.std.proofs.lemmas.Int.{ints}
use Rattle.sqlite_keyed.proofs.ListLemmas.{all_weaker, all_both}
use Rattle.goo_tables_rows.specs.Once.{IsOnce}
use Rattle.goo_tables_rows.specs.Stands.{Keeps}

pub list_any-map : {X Y : Type 0} (p : Y → Bool) (f : X → Y) (xs : List X) → list_any p (map f xs) ≡ list_any (λ x. p (f x)) xs
list_any-map p f [] = refl
list_any-map p f (x ∷ xs) = ap (λ b. p (f x) || b) (list_any-map p f xs)

pub none_all : {A : Type 0} (test : A → Bool) (xs : List A) → list_all (λ a. not (test a)) xs ≡ not (list_any test xs)
none_all test [] = refl
none_all test (x ∷ xs) = ap (λ b. not (test x) && b) (none_all test xs) ∙ neither (test x) (list_any test xs)
  where
    neither : (a b : Bool) → (not a && not b) ≡ not (a || b)
    neither true b = refl
    neither false b = refl

-- ---- what is found

-- what is found passes the test, and has what all have
pub found_both : {A : Type 0} (test : A → Bool) (P : A → Type 0) (xs : List A) (x : A) → find test xs ≡ Some x → AllByRecursion P xs → (test x ≡ true) × P x
found_both test P [] x is all = absurd cc
found_both {A} test P (y ∷ ys) x is all = go (test y) refl is (λ rest. found_both test P ys x rest all.1)
  where
    go : (b : Bool) → test y ≡ b → cond b (Some y) (find test ys) ≡ Some x → (find test ys ≡ Some x → (test x ≡ true) × P x) → (test x ≡ true) × P x
    go true e found rest = let same : y ≡ x = cc in (ap test (sym same) ∙ e, subst P same all.0)
    go false e found rest = rest found

none_found : {A : Type 0} (test : A → Bool) (xs : List A) → filter test xs ≡ [] → find test xs ≡ None
none_found test [] none = refl
none_found {A} test (x ∷ xs) none = go (test x) none (none_found test xs)
  where
    go : (b : Bool) → cond b (x ∷ filter test xs) (filter test xs) ≡ [] → (filter test xs ≡ [] → find test xs ≡ None) → cond b (Some x) (find test xs) ≡ None
    go true e rest = absurd cc
    go false e rest = rest e

only_one : {A : Type 0} (x : A) (xs : List A) → IsOnce (x ∷ xs) → xs ≡ []
only_one x xs (inl none) = absurd cc
only_one x xs (inr one) = let is = one.1 in cc

module _ {A : Type 0} (same : A → A → Bool) (itself : (a : A) → same a a ≡ true) where
  pub any_itself : (xs : List A) → AllByRecursion (λ a. list_any (same a) xs ≡ true) xs
  any_itself [] = tt
  any_itself (x ∷ xs) = (or_left (same x x) (list_any (same x) xs) (itself x), all_weaker (λ a. list_any (same a) xs ≡ true) _ (λ a is. or_right (same a x) (list_any (same a) xs) is) xs (any_itself xs))

  -- rows that are the only ones of their kind are found by it
  pub each_found : (xs : List A) → ((a : A) → IsOnce (filter (same a) xs)) → AllByRecursion (λ a. find (same a) xs ≡ Some a) xs
  each_found [] once = tt
  each_found (x ∷ xs) once = (ap (λ b. cond b (Some x) (find (same x) xs)) (itself x), all_weaker (λ a. find (same a) xs ≡ Some a) _ later xs (each_found xs (λ a. fewer a (same a x) (once a))))
    where
      fewer : (a : A) (b : Bool) → IsOnce (cond b (x ∷ filter (same a) xs) (filter (same a) xs)) → IsOnce (filter (same a) xs)
      fewer a true is = inl (only_one x (filter (same a) xs) is)
      fewer a false is = is

      later : (a : A) → find (same a) xs ≡ Some a → find (same a) (x ∷ xs) ≡ Some a
      later a is = go (same a x) (once a)
        where
          go : (b : Bool) → IsOnce (cond b (x ∷ filter (same a) xs) (filter (same a) xs)) → cond b (Some x) (find (same a) xs) ≡ Some a
          go true one = let none = none_found (same a) xs (only_one x (filter (same a) xs) one) in absurd cc
          go false one = is

-- rows in the order of a key are found by it
module _ {A : Type 0} (key : A → ℤ) where
  apart : (a b : ℤ) → a <ℤ b → int_eq a b ≡ false
  apart a b low = grind (arith, ints)

  pub each_keyed : {to_row : _} {rows : _} (xs : List A) → Keeps rows to_row key xs → AllByRecursion (λ a. find (λ b. int_eq (key b) (key a)) xs ≡ Some a) xs
  each_keyed [] keeps = tt
  each_keyed {to_row} {rows} (x ∷ xs) keeps = (
    ap (λ b. cond b (Some x) (find (λ b. int_eq (key b) (key x)) xs)) (int_eq_equiv.refl (key x)),
    all_both (λ a. key x <ℤ key a) (λ a. find (λ b. int_eq (key b) (key a)) xs ≡ Some a) _ (λ a low is. ap (λ b. cond b (Some x) (find (λ b. int_eq (key b) (key a)) xs)) (apart (key x) (key a) low) ∙ is) xs keeps.rise.0
        (each_keyed {to_row = to_row} {rows = map to_row xs} xs (record { are = refl; rise = keeps.rise.1 })),
  )
