-- One more text or number among those that are there.
use Rattle.std.proofs.Common.{◌≡◌, ◌<◌, ◌+◌, ℕ, Bool, true, false, cond, ◌||◌, List, [], ◌∷◌, ◌++◌, map, take, length, get_or, refl, sym, ap, ◌∙◌}
use Rattle.std.proofs.lemmas.List.{take_more, map-append}
use Rattle.std.specs.List.{list_any}
use Rattle.std.specs.Ordering.{eq_by_cmp}
use Rattle.std.specs.Cmp.{IsTotalOrder, eq_by_cmp_equiv, then_total, on_total, nat_cmp_total}
use Rattle.std.specs.declared.cmp.Ordering.{Ordering}
use Rattle.std.specs.Cmp.Lexicographic.{nat_list_cmp_total}
use Rattle.goo_spec.specs.State.{text_cmp}
use Rattle.goo_store_rules.specs.WellKept.{pair_cmp, text_pair_cmp}

later : (x c r : Bool) → x || cond c true r ≡ cond c true (x || r)
later true true r = refl
later true false r = refl
later false true r = refl
later false false r = refl

alone : (c : Bool) → c || false ≡ cond c true false
alone true = refl
alone false = refl

pub any-push : {X : Type 0} (p : X → Bool) (xs : List X) (x : X) → list_any p (xs ++ x ∷ []) ≡ cond (p x) true (list_any p xs)
any-push p [] x = alone (p x)
any-push p (y ∷ ys) x = ap (λ b. p y || b) (any-push p ys x) ∙ later (p y) (p x) (list_any p ys)

module _ {K : Type 0} {R : K → K → Ordering} (o : IsTotalOrder R) where
  -- one more key
  pub key_noted : {X Y : Type 0} (f : X → Y) (key : Y → K) (xs : List X) (i : ℕ) (x : X) (q : K) (old new : Bool) → i < length xs → x ≡ get_or xs i x
      → old ≡ list_any (λ y. eq_by_cmp R q (key y)) (map f (take i xs)) → new ≡ cond (eq_by_cmp R (key (f x)) q) true old
      → new ≡ list_any (λ y. eq_by_cmp R q (key y)) (map f (take (i + 1) xs))
  key_noted {Y = Y} f key xs i x q old new low at before is =
      let test : Y → Bool = λ y. eq_by_cmp R q (key y) in
      let more : take (i + 1) xs ≡ take i xs ++ x ∷ [] = take_more xs i x low ∙ ap (λ z. take i xs ++ z ∷ []) (sym at) in
      let all : map f (take (i + 1) xs) ≡ map f (take i xs) ++ f x ∷ [] = ap (map f) more ∙ map-append f (take i xs) (x ∷ []) in
      is ∙ ap (λ b. cond b true old) ((eq_by_cmp_equiv o).symm (key (f x)) q) ∙ ap (cond (test (f x)) true) before ∙ sym (any-push test (map f (take i xs)) (f x)) ∙ ap (list_any test) (sym all)

  -- the same of the rows themselves
  pub row_noted : {X : Type 0} (key : X → K) (xs : List X) (i : ℕ) (none : X) (q : K) (old new : Bool) → i < length xs
      → old ≡ list_any (λ y. eq_by_cmp R q (key y)) (take i xs) → new ≡ cond (eq_by_cmp R (key (get_or xs i none)) q) true old
      → new ≡ list_any (λ y. eq_by_cmp R q (key y)) (take (i + 1) xs)
  row_noted {X} key xs i none q old new low before is =
      let test : X → Bool = λ y. eq_by_cmp R q (key y) in
      let x = get_or xs i none in
      is ∙ ap (λ b. cond b true old) ((eq_by_cmp_equiv o).symm (key x) q) ∙ ap (cond (test x) true) before ∙ sym (any-push test (take i xs) x) ∙ ap (list_any test) (sym (take_more xs i none low))

pub text_noted : {X Y : Type 0} (f : X → Y) (key : Y → List ℕ) (xs : List X) (i : ℕ) (x : X) (q : List ℕ) (old new : Bool) → i < length xs → x ≡ get_or xs i x
    → old ≡ list_any (λ y. eq_by_cmp text_cmp q (key y)) (map f (take i xs)) → new ≡ cond (eq_by_cmp text_cmp (key (f x)) q) true old
    → new ≡ list_any (λ y. eq_by_cmp text_cmp q (key y)) (map f (take (i + 1) xs))
text_noted = key_noted nat_list_cmp_total

pub pair_total : IsTotalOrder pair_cmp
pair_total = then_total (on_total (λ (p : ℕ × ℕ). p.0) nat_cmp_total) (on_total (λ (p : ℕ × ℕ). p.1) nat_cmp_total)

pub text_pair_total : IsTotalOrder text_pair_cmp
text_pair_total = then_total (on_total (λ (p : List ℕ × List ℕ). p.0) nat_list_cmp_total) (on_total (λ (p : List ℕ × List ℕ). p.1) nat_list_cmp_total)
