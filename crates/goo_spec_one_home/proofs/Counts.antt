-- How a count over the registries, or over the notices, changes.
use Rattle.std.proofs.Common.{◌≡◌, ℕ, ◌+◌, ◌==◌, List, [], ◌∷◌, Bool, true, false, cond, ◌||◌, refl, sym, ap, ap₂, subst, arith}
use Rattle.std.proofs.lemmas.Bool.{eqb-true, eq-eqb, or_parts}
use Rattle.goo_spec_one_home.specs.World.{put, contains, AreDistinct, one, count}
use Rattle.goo_spec.specs.State.{State}

pub count-same : {A : Type 0} (p q : A → Bool) (xs : List A) → ((x : A) → p x ≡ q x) → count p xs ≡ count q xs
count-same p q [] same = refl
count-same p q (x ∷ xs) same = ap₂ (λ b n. one b + n) (same x) (count-same p q xs same)

-- ---- one registry is put in place of what was there

put_by : {A : Type 0} (p : ℕ → State → A) (state : ℕ → State) (c : ℕ) (s : State) (d : ℕ) (b : Bool) → (d == c) ≡ b → p c s ≡ p c (state c) → p d (cond b s (state d)) ≡ p d (state d)
put_by p state c s d true is same = subst (λ (x : ℕ). p x s ≡ p x (state x)) (sym (eqb-true d c is)) same
put_by p state c s d false is same = refl

-- what a registry has is the same after it, where the new one has it too
pub put-same : {A : Type 0} (p : ℕ → State → A) (state : ℕ → State) (c : ℕ) (s : State) (d : ℕ) → p c s ≡ p c (state c) → p d (put state c s d) ≡ p d (state d)
put-same p state c s d same = put_by p state c s d (d == c) refl same

pub put-here : (state : ℕ → State) (c : ℕ) (s : State) → put state c s c ≡ s
put-here state c s = rw (eq-eqb c c refl)

pub put-other : (state : ℕ → State) (c : ℕ) (s : State) (d : ℕ) → (d == c) ≡ false → put state c s d ≡ state d
put-other state c s d is = rw is

count-put_absent : (p : ℕ → State → Bool) (state : ℕ → State) (c : ℕ) (s : State) (codes : List ℕ) → contains c codes ≡ false
    → count (λ d. p d (put state c s d)) codes ≡ count (λ d. p d (state d)) codes
count-put_absent p state c s [] none = refl
count-put_absent p state c s (x ∷ xs) none =
    let parts = or_parts (x == c) (contains c xs) none in
    ap₂ (λ b n. one b + n) (ap (p x) (put-other state c s x parts.0)) (count-put_absent p state c s xs parts.1)

abbrev pub Moves : (ℕ → State → Bool) → (ℕ → State) → ℕ → State → List ℕ → Type 0
Moves p state c s codes = count (λ d. p d (put state c s d)) codes + one (p c (state c)) ≡ count (λ d. p d (state d)) codes + one (p c s)

moves_first : (p : ℕ → State → Bool) (state : ℕ → State) (c : ℕ) (s : State) (xs : List ℕ) → contains c xs ≡ false → Moves p state c s (c ∷ xs)
moves_first p state c s xs none =
    let rest = count-put_absent p state c s xs none in
    let head : one (p c (put state c s c)) ≡ one (p c s) = ap (λ (t : State). one (p c t)) (put-here state c s) in
    omega arith

moves_later : (p : ℕ → State → Bool) (state : ℕ → State) (c : ℕ) (s : State) (x : ℕ) (xs : List ℕ) → (x == c) ≡ false → Moves p state c s xs → Moves p state c s (x ∷ xs)
moves_later p state c s x xs is rest =
    let head : one (p x (put state c s x)) ≡ one (p x (state x)) = ap (λ (t : State). one (p x t)) (put-other state c s x is) in
    omega arith

count-put_at : (p : ℕ → State → Bool) (state : ℕ → State) (c : ℕ) (s : State) (x : ℕ) (xs : List ℕ) (b : Bool) → (x == c) ≡ b → AreDistinct (x ∷ xs) → (b || contains c xs) ≡ true
    → (contains c xs ≡ true → Moves p state c s xs) → Moves p state c s (x ∷ xs)
count-put_at p state c s x xs true is distinct some rest =
    let e = eqb-true x c is in
    subst (λ (y : ℕ). Moves p state c s (y ∷ xs)) (sym e) (moves_first p state c s xs (subst (λ (y : ℕ). contains y xs ≡ false) e distinct.0))
count-put_at p state c s x xs false is distinct some rest = moves_later p state c s x xs is (rest some)

pub count-put : (p : ℕ → State → Bool) (state : ℕ → State) (c : ℕ) (s : State) (codes : List ℕ) → AreDistinct codes → contains c codes ≡ true → Moves p state c s codes
count-put p state c s [] distinct some = absurd cc
count-put p state c s (x ∷ xs) distinct some = count-put_at p state c s x xs (x == c) refl distinct some (count-put p state c s xs distinct.1)

put_has_by : (P : ℕ → State → Type 0) (state : ℕ → State) (c : ℕ) (s : State) (d : ℕ) (b : Bool) → (d == c) ≡ b → P c s → P d (state d) → P d (cond b s (state d))
put_has_by P state c s d true is here there = subst (λ (x : ℕ). P x s) (sym (eqb-true d c is)) here
put_has_by P state c s d false is here there = there

-- what each registry has, and the new one too, each has after it
pub put-has : (P : ℕ → State → Type 0) (state : ℕ → State) (c : ℕ) (s : State) → P c s → ((d : ℕ) → P d (state d)) → (d : ℕ) → P d (put state c s d)
put-has P state c s here each d = put_has_by P state c s d (d == c) refl here (each d)
