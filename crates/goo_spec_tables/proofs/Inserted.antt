-- A row more in a table, seen as a finite map.
use Rattle.std.proofs.Common.{◌≡◌, ℤ, ◌&&◌, List, [], ◌∷◌, Bool, true, false, cond, map, find, is_some, Option, Some, None, refl, ap, sym, ◌∙◌, true≢false}
use Rattle.std.specs.declared.cmp.Ordering.{Ordering}
use Rattle.std.specs.declared.cmp.Ordering.TheVariants.{Less, Equal, Greater}
use Rattle.std.specs.List.{list_all}
use Rattle.std.specs.Ordering.{eq_by_cmp, int_eq, int_cmp, is_eq, match_ordering}
use Rattle.std.specs.Cmp.{IsTotalOrder, eq_by_cmp_equiv}
use Rattle.std.specs.FinMap.{get, insert, from_entries, get-from_entries, get-insert, same_map, IsAntisymmetric}
use Rattle.std.specs.FinMap.Entries as entries
use Rattle.sqlite_keyed.specs.Keyed.{insert_by, has_key}
use Rattle.sqlite_keyed.proofs.RuleLemmas.{first_of_both, second_of_both}

-- no row has the key, so none has it in front
pub here_too : {A : Type 0} (b : Bool) (a : A) (rest : Option A) → is_some (cond b (Some a) rest) ≡ false → (b ≡ false) × (is_some rest ≡ false)
here_too true a rest none = absurd (true≢false none)
here_too false a rest none = (refl, none)

module _ {A : Type 0} (key : A → ℤ) (p : A → Bool) (x : A) (passes : p x ≡ true) where
  -- a test that all rows pass, and the new one
  pub all_inserted : (xs : List A) → list_all p xs ≡ true → list_all p (insert_by key xs x) ≡ true
  all_inserted [] all = λ i. passes i && true
  all_inserted (y ∷ ys) all = go (int_cmp (key y) (key x)) (all_inserted ys (second_of_both (p y) (list_all p ys) all))
    where
      go : (r : Ordering) → list_all p (insert_by key ys x) ≡ true → list_all p (match_ordering r (y ∷ insert_by key ys x) (x ∷ ys) (x ∷ y ∷ ys)) ≡ true
      go Less rest = λ i. first_of_both (p y) (list_all p ys) all i && rest i
      go Equal rest = λ i. passes i && second_of_both (p y) (list_all p ys) all i
      go Greater rest = λ i. passes i && all i

-- which of two tests comes first doesn't matter, where they can't both hold
pub swapped : {X : Type 0} (a b : Bool) (x y z : Option X) → (a ≡ true → b ≡ true → ⊥) → cond a x (cond b y z) ≡ cond b y (cond a x z)
swapped true true x y z apart = absurd (apart refl refl)
swapped true false x y z apart = refl
swapped false b x y z apart = refl

module _ {A K X : Type 0} {R : K → K → Ordering} (o : IsTotalOrder R) (key : A → ℤ) (entry : A → K × X) (x : A) where
  none_first : (y : A) (ys : List A) → entries.find R (entry x).0 (map entry (y ∷ ys)) ≡ None → (eq_by_cmp R (entry x).0 (entry y).0 ≡ false) × (entries.find R (entry x).0 (map entry ys) ≡ None)
  none_first y ys none = go (eq_by_cmp R (entry x).0 (entry y).0) none
    where
      go : (b : Bool) → cond b (Some (entry y).1) (entries.find R (entry x).0 (map entry ys)) ≡ None → (b ≡ false) × (entries.find R (entry x).0 (map entry ys) ≡ None)
      go true is = absurd cc
      go false is = (refl, is)

  apart : (q : K) (y : A) → eq_by_cmp R (entry x).0 (entry y).0 ≡ false → eq_by_cmp R q (entry y).0 ≡ true → eq_by_cmp R q (entry x).0 ≡ true → ⊥
  apart q y other one two = true≢false (sym one ∙ ((eq_by_cmp_equiv o).congr q (entry x).0 (entry y).0 two) ∙ other)

  find-inserted : (xs : List A) → has_key key xs (key x) ≡ false → entries.find R (entry x).0 (map entry xs) ≡ None → (q : K)
      → entries.find R q (map entry (insert_by key xs x)) ≡ cond (eq_by_cmp R q (entry x).0) (Some (entry x).1) (entries.find R q (map entry xs))
  find-inserted [] fresh none q = refl
  find-inserted (y ∷ ys) fresh none q =
      let parts = here_too (int_eq (key y) (key x)) y (find (λ a. int_eq (key a) (key x)) ys) fresh in
      let rest = none_first y ys none in
      go (int_cmp (key y) (key x)) parts.0 (find-inserted ys parts.1 rest.1 q) rest.0
    where
      go : (r : Ordering) → is_eq r ≡ false → entries.find R q (map entry (insert_by key ys x)) ≡ cond (eq_by_cmp R q (entry x).0) (Some (entry x).1) (entries.find R q (map entry ys))
          → eq_by_cmp R (entry x).0 (entry y).0 ≡ false
          → entries.find R q (map entry (match_ordering r (y ∷ insert_by key ys x) (x ∷ ys) (x ∷ y ∷ ys))) ≡ cond (eq_by_cmp R q (entry x).0) (Some (entry x).1) (entries.find R q (map entry (y ∷ ys)))
      go Less not_eq later other =
          ap (cond (eq_by_cmp R q (entry y).0) (Some (entry y).1)) later
          ∙ swapped (eq_by_cmp R q (entry y).0) (eq_by_cmp R q (entry x).0) (Some (entry y).1) (Some (entry x).1) (entries.find R q (map entry ys)) (apart q y other)
      go Equal not_eq later other = absurd (true≢false not_eq)
      go Greater not_eq later other = refl

  -- a row with a new key and a new number is one entry more
  pub map_inserted : IsAntisymmetric R → (xs : List A) → has_key key xs (key x) ≡ false → get (from_entries {R = R} (map entry xs)) (entry x).0 ≡ None
      → from_entries {R = R} (map entry (insert_by key xs x)) ≡ insert (from_entries (map entry xs)) (entry x).0 (entry x).1
  map_inserted exact xs fresh none =
      same_map o exact _ _ (λ q.
      get-from_entries o (map entry (insert_by key xs x)) q
      ∙ find-inserted xs fresh (sym (get-from_entries o (map entry xs) (entry x).0) ∙ none) q
      ∙ ap (cond (eq_by_cmp R q (entry x).0) (Some (entry x).1)) (sym (get-from_entries o (map entry xs) q))
      ∙ sym (get-insert o (from_entries (map entry xs)) (entry x).0 (entry x).1 q))
