-- Rows under keys of their own, seen as a finite map.
use Rattle.std.proofs.Common.{◌≡◌, Bool, true, List, map, find, Option, Some, None, option_map, is_some, refl, sym, ap, subst, ◌∙◌, true≢false}
use Rattle.std.specs.declared.cmp.Ordering.{Ordering}
use Rattle.std.specs.List.{AllByRecursion, list_any, list_all}
use Rattle.std.specs.Ordering.{eq_by_cmp}
use Rattle.std.specs.Cmp.{IsTotalOrder, eq_by_cmp_equiv, Equal-is}
use Rattle.std.specs.FinMap.{FinMap, IsAntisymmetric, get, contains_key, from_entries}
use Rattle.sqlite_keyed.proofs.ListLemmas.{all_weaker, all_from_test, test_from_all}
use Rattle.goo_spec_tables.proofs.Known.{get-known}
use Rattle.goo_store_rules.proofs.EachRow.{found_both, any_itself}
use Rattle.goo_store_rules.proofs.RowsByKey.{there}

module _ {A K V : Type 0} {R : K → K → Ordering} (o : IsTotalOrder R) (key : A → K) (value : A → V) where
  abbrev pub known : List A → FinMap R V
  known xs = from_entries (map (λ a. (key a, value a)) xs)

  -- what is known under a key is in the first row that has it
  pub row_known : (xs : List A) (q : K) → get (known xs) q ≡ option_map value (find (λ a. eq_by_cmp R q (key a)) xs)
  row_known xs q = get-known o (λ a. (key a, value a)) q (λ a. eq_by_cmp R q (key a)) (λ a. refl) xs

  -- a key is known where a row has it
  pub is_there : (xs : List A) (q : K) → contains_key (known xs) q ≡ list_any (λ a. eq_by_cmp R q (key a)) xs
  is_there xs q = sym (there o (λ a. (key a, value a)) q xs)

  -- the row of what is known
  pub row_of : (P : A → Type 0) (xs : List A) → AllByRecursion P xs → (q : K) (v : V) → get (known xs) q ≡ Some v
      → (a : A) × (eq_by_cmp R q (key a) ≡ true) × (value a ≡ v) × P a
  row_of P xs all q v is = go (find (λ b. eq_by_cmp R q (key b)) xs) refl (sym (row_known xs q) ∙ is)
    where
      go : (f : Option A) → find (λ b. eq_by_cmp R q (key b)) xs ≡ f → option_map value f ≡ Some v → (a : A) × (eq_by_cmp R q (key a) ≡ true) × (value a ≡ v) × P a
      go None found e = absurd cc
      go (Some a) found e = let both = found_both (λ b. eq_by_cmp R q (key b)) P xs a found all in (a, both.0, cc, both.1)

  -- each row that is found by its key is known under it
  pub all_known : (xs : List A) → AllByRecursion (λ a. find (λ b. eq_by_cmp R (key a) (key b)) xs ≡ Some a) xs
      → AllByRecursion (λ a. get (known xs) (key a) ≡ Some (value a)) xs
  all_known xs found = all_weaker _ _ (λ a is. row_known xs (key a) ∙ ap (option_map value) is) xs found

  -- what all rows have, all that is known has
  pub of_known : (p : V → Bool) (xs : List A) → list_all (λ a. p (value a)) xs ≡ true → (q : K) (v : V) → get (known xs) q ≡ Some v → p v ≡ true
  of_known p xs all q v is = let it = row_of (λ a. p (value a) ≡ true) xs (all_from_test (λ a. p (value a)) xs all) q v is in subst (λ w. p w ≡ true) it.2 it.3

  -- and where each row is known, the other way round
  pub of_rows : (p : V → Bool) (xs : List A) → AllByRecursion (λ a. get (known xs) (key a) ≡ Some (value a)) xs
      → ((q : K) (v : V) → get (known xs) q ≡ Some v → p v ≡ true) → list_all (λ a. p (value a)) xs ≡ true
  of_rows p xs known_all so = test_from_all (λ a. p (value a)) xs (all_weaker _ _ (λ a is. so (key a) (value a) is) xs known_all)

  -- the same of the keys alone
  pub of_keys : IsAntisymmetric R → (p : K → Bool) (xs : List A) → list_all (λ a. p (key a)) xs ≡ true → (q : K) → contains_key (known xs) q ≡ true → p q ≡ true
  of_keys exact p xs all q is = go (get (known xs) q) refl is
    where
      go : (g : Option V) → get (known xs) q ≡ g → is_some g ≡ true → p q ≡ true
      go None e there = absurd (true≢false (sym there))
      go (Some v) e there =
          let it = row_of (λ a. p (key a) ≡ true) xs (all_from_test (λ a. p (key a)) xs all) q v e in
          ap p (exact q (key it.0) ((Equal-is (R q (key it.0))).0 it.1)) ∙ it.3

  pub of_row_keys : (p : K → Bool) (xs : List A) → ((q : K) → contains_key (known xs) q ≡ true → p q ≡ true) → list_all (λ a. p (key a)) xs ≡ true
  of_row_keys p xs so =
      test_from_all (λ a. p (key a)) xs
      (all_weaker _ _ (λ a is. so (key a) (is_there xs (key a) ∙ is)) xs (any_itself (λ a b. eq_by_cmp R (key a) (key b)) (λ a. (eq_by_cmp_equiv o).refl (key a)) xs))
