-- What an accepted notice takes from those under way.
use Rattle.std.proofs.Common.{◌≡◌, ℕ, zero, suc, ◌+◌, ◌<◌, List, [], ◌∷◌, Bool, true, false, not, ◌&&◌, ◌||◌, Some, refl, sym, ap, subst, ◌∙◌, arith}
use Rattle.std.proofs.lemmas.Bool.{eq-eqb, and_from}
use Rattle.std.proofs.lemmas.Bool.Decides.{nat_tests}
use Rattle.goo_types.specs.Notice.{NoticeContents}
use Rattle.goo_types.specs.Number.{code_of}
use Rattle.goo_spec.specs.State.{State}
use Rattle.std.specs.FinMap.{get}
use Rattle.goo_spec.specs.Import.{names}
use Rattle.goo_spec_one_home.specs.World.{put, nth, one, count, contains, is_under_way, lot_of, HaveLot, AllHaveLot}
use Rattle.goo_spec_one_home.proofs.Counts.{put-here}
use Rattle.goo_spec_one_home.proofs.Effects.{has, is_called}
use Rattle.goo_spec_one_home.proofs.Keeps.{IsNew, AreNamed, AreGiven, under_way-same}

pub still : (b : Bool) → (b && true) ≡ b
still true = refl
still false = refl

no_more : (b : Bool) → (b && false) ≡ false
no_more true = refl
no_more false = refl

called_itself : (m : NoticeContents) → is_called m m.sender m.number ≡ true
called_itself m = and_from _ _ (eq-eqb m.sender m.sender refl) (eq-eqb m.number m.number refl)

other_way : (m x : NoticeContents) → is_called x m.sender m.number ≡ false → is_called m x.sender x.number ≡ false
other_way m x h = grind (arith, nat_tests)

pub new_at : (x m : NoticeContents) (xs : List NoticeContents) (k : ℕ) → nth xs k ≡ Some m → IsNew x xs → is_called x m.sender m.number ≡ false
new_at x m [] k e h = absurd cc
new_at x m (y ∷ ys) zero e h = let same : y ≡ m = cc in subst (λ (z : NoticeContents). is_called x z.sender z.number ≡ false) same h.0
new_at x m (y ∷ ys) (suc k) e h = new_at x m ys k e h.1

pub given_at : (state : ℕ → State) (m : NoticeContents) (xs : List NoticeContents) (k : ℕ) → nth xs k ≡ Some m → AreGiven state xs → m.number < (state m.sender).next_notice
given_at state m [] k e h = absurd cc
given_at state m (y ∷ ys) zero e h = let same : y ≡ m = cc in subst (λ (z : NoticeContents). z.number < (state z.sender).next_notice) same h.0
given_at state m (y ∷ ys) (suc k) e h = given_at state m ys k e h.1

pub lot_at : (state : ℕ → State) (n : ℕ) (m : NoticeContents) (xs : List NoticeContents) (k : ℕ) → nth xs k ≡ Some m → AllHaveLot state n xs → HaveLot (lot_of (get (state (code_of n)).at n)) n m.parts
lot_at state n m [] k e h = absurd cc
lot_at state n m (y ∷ ys) zero e h = let same : y ≡ m = cc in subst (λ (z : NoticeContents). HaveLot (lot_of (get (state (code_of n)).at n)) n z.parts) same h.0
lot_at state n m (y ∷ ys) (suc k) e h = lot_at state n m ys k e h.1

module _ (codes : List ℕ) (state : ℕ → State) (c : ℕ) (t : State) (m : NoticeContents) (n : ℕ)
    (accepts : (a b : ℕ) → has t a b ≡ (is_called m a b || has (state c) a b))
  where
    -- the notices under way for n, with m accepted by the registry c
    abbrev pub left : NoticeContents → Bool
    left = is_under_way codes (put state c t) n

    stays : (x : NoticeContents) → is_called m x.sender x.number ≡ false → left x ≡ is_under_way codes state n x
    stays x other = under_way-same codes state c t n x (accepts x.sender x.number ∙ ap (λ b. b || has (state c) x.sender x.number) other)

    all_stay : (xs : List NoticeContents) → IsNew m xs → count left xs ≡ count (is_under_way codes state n) xs
    all_stay [] h = refl
    all_stay (x ∷ xs) h =
        let head : one (left x) ≡ one (is_under_way codes state n x) = ap one (stays x h.0) in
        omega (arith, all_stay xs h.1)

    module _ (to : m.addressee ≡ c) (here : contains c codes ≡ true) where
      there : contains m.addressee codes ≡ true
      there = ap (λ (d : ℕ). contains d codes) to ∙ here

      arrives : left m ≡ false
      arrives =
          let state_there : put state c t m.addressee ≡ t = ap (put state c t) to ∙ put-here state c t in
          ap (λ b. names m n && not (b && has (put state c t m.addressee) m.sender m.number)) there
          ∙ ap (λ (r : State). names m n && not (has r m.sender m.number)) state_there
          ∙ ap (λ b. names m n && not b) (accepts m.sender m.number)
          ∙ ap (λ b. names m n && not (b || has (state c) m.sender m.number)) (called_itself m)
          ∙ no_more (names m n)

      was_under_way : has (state c) m.sender m.number ≡ false → is_under_way codes state n m ≡ names m n
      was_under_way none =
          ap (λ b. names m n && not (b && has (state m.addressee) m.sender m.number)) there
          ∙ ap (λ d. names m n && not (has (state d) m.sender m.number)) to
          ∙ ap (λ b. names m n && not b) none
          ∙ still (names m n)

      abbrev Falls : List NoticeContents → Type 0
      Falls xs = count left xs + one (names m n) ≡ count (is_under_way codes state n) xs

      falls_first : (xs : List NoticeContents) → has (state c) m.sender m.number ≡ false → IsNew m xs → Falls (m ∷ xs)
      falls_first xs none h =
          let after : one (left m) ≡ 0 = ap one arrives in
          let before : one (is_under_way codes state n m) ≡ one (names m n) = ap one (was_under_way none) in
          omega (arith, all_stay xs h)

      -- where the notice names n, one less is under way with n
      pub road-falls : (xs : List NoticeContents) (k : ℕ) → has (state c) m.sender m.number ≡ false → nth xs k ≡ Some m → AreNamed xs → Falls xs
      road-falls [] k none e h = absurd cc
      road-falls (x ∷ xs) zero none e h =
          let same : x ≡ m = cc in
          subst (λ (z : NoticeContents). Falls (z ∷ xs)) (sym same) (falls_first xs none (subst (λ (z : NoticeContents). IsNew z xs) same h.0))
      road-falls (x ∷ xs) (suc k) none e h =
          let head : one (left x) ≡ one (is_under_way codes state n x) = ap one (stays x (other_way m x (new_at x m xs k e h.0))) in
          omega (arith, road-falls xs k none e h.1)
