-- Sums by device, as more is added to them.
use Rattle.std.proofs.Common.{◌≡◌, ◌<◌, ◌+◌, ℕ, Bool, true, false, cond, List, [], ◌∷◌, ◌++◌, take, length, get_or, Some, refl, sym, ap, ◌∙◌, arith}
use Rattle.std.specs.Prelude.{sum_by}
use Rattle.std.specs.Str.{bytes_eq}
use Rattle.std.specs.BTreeMap.{BTreeMap, get}
use Rattle.std.specs.Ordering.{eq_by_cmp}
use Rattle.std.specs.Cmp.Lexicographic.{texts_ties}
use Rattle.std.proofs.lemmas.List.{take_more}
use Rattle.std.proofs.lemmas.List.Sums.{sum_by_push}
use Rattle.std.proofs.lemmas.Slice.Eq.{bytes_eq-Decides}
use Rattle.goo_spec.specs.State.{text_cmp}
use Rattle.goo_store_rules.specs.Summing.{amount, sum_at}

module _ (m : BTreeMap (List ℕ) ℕ) (device : List ℕ) (sum more : ℕ) (adds : sum ≡ sum_at m device + more) where
  by_test : (q : List ℕ) (b : Bool) → (b ≡ true → q ≡ device) → amount (cond b (Some sum) (get text_cmp m q)) ≡ sum_at m q + cond b more 0
  by_test q true is = adds ∙ ap (λ d. sum_at m d + more) (sym (is refl))
  by_test q false is = omega arith

  -- what is put under a device is added to it alone
  pub added : (n : BTreeMap (List ℕ) ℕ) → ((q : List ℕ) → get text_cmp n q ≡ cond (eq_by_cmp text_cmp device q) (Some sum) (get text_cmp m q))
      → (q : List ℕ) → sum_at n q ≡ sum_at m q + cond (bytes_eq device q) more 0
  added n put q =
      ap amount (put q) ∙ ap (λ b. amount (cond b (Some sum) (get text_cmp m q))) (sym (texts_ties device q))
      ∙ by_test q (bytes_eq device q) (λ is. sym ((bytes_eq-Decides device q).0 is))

-- one place more of a list
pub one_more : {X : Type 0} (f : X → ℕ) (xs : List X) (i : ℕ) (x : X) (old new : ℕ) → i < length xs → x ≡ get_or xs i x → old ≡ sum_by f (take i xs) → new ≡ old + f x → new ≡ sum_by f (take (i + 1) xs)
one_more f xs i x old new low at before is =
    is ∙ ap (λ n. n + f x) before ∙ sym (sum_by_push f (take i xs) x)
    ∙ ap (sum_by f) (sym (take_more xs i x low ∙ ap (λ y. take i xs ++ y ∷ []) (sym at)))
