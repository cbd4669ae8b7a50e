-- What corrections tell of a device's progress, with one more.
use Rattle.std.proofs.Common.{◌≡◌, ℕ, ◌-◌, List, ◌++◌, Bool, true, false, cond, is_some, Option, Some, None, refl, ap, sym, ◌∙◌, arith}
use Rattle.std.specs.Prelude.{◌%◌, ◌&&◌, ◌∷◌, [], find}
use Rattle.std.specs.Str.{bytes_eq}
use Rattle.std.proofs.lemmas.List.Sums.{sum_by_push}
use Rattle.std.proofs.lemmas.Slice.Eq.{bytes_eq-Decides}
use Rattle.goo_types.specs.Day.{CalendarDay}
use Rattle.goo_types.specs.Range.{Numbers}
use Rattle.goo_types.specs.declared.command.Correct.{Correct}
use Rattle.goo_types.specs.declared.command.Declare.{Declare}
use Rattle.goo_types.specs.declared.reply.Reply.TheVariants.{Corrected}
use Rattle.goo_spec.specs.Correct.{correct_reply, correction_of, taken_out, with_correction, withdrawal_for}
use Rattle.goo_spec.specs.Declare.{declared_by, last_end}
use Rattle.goo_spec.specs.Energy.{begins, carry, certificate, less_of, lowered, remaining, total}
use Rattle.goo_spec.specs.Lots.{same_day}
use Rattle.goo_spec.specs.State.{State, Correction}
use Rattle.goo_spec.specs.Withdraw.{with_withdrawal}
use Rattle.goo_spec.proofs.Correcting.{with_more}
use Rattle.goo_spec.proofs.Mapping.{none_some}
use Rattle.goo_core_shelf.specs.Shelf.{progress_of}

-- ---- one more correction

module _ (s : State) (c : Correction) where
  -- what is left of a device's energy
  left_after : (q : List ℕ) → remaining (with_more s c) q ≡ remaining s q - less_of q c
  unfolding remaining total lowered
  left_after q = omega (arith, sum_by_push (less_of q) s.corrections c)

  pub carry_after : (q : List ℕ) → carry (with_more s c) q ≡ (remaining s q - less_of q c) % certificate
  unfolding carry
  carry_after q = ap (λ (n : ℕ). n % certificate) (left_after q)

  -- another device carries what it did
  carry_apart : (q : List ℕ) → bytes_eq c.device q ≡ false → carry (with_more s c) q ≡ carry s q
  unfolding carry
  carry_apart q other = ap (λ (n : ℕ). n % certificate) (let left = left_after q in let none : less_of q c ≡ 0 = ap (λ b. cond b c.less 0) other in omega (arith, left, none))

  pub progress_apart : (q : List ℕ) → bytes_eq c.device q ≡ false → progress_of (with_more s c) q ≡ progress_of s q
  progress_apart q other = λ i. record { last_day = last_end None (declared_by q s.declarations); carry = carry_apart q other i }

-- ---- what is taken out leaves the energy

module _ (s : State) (x : Correct) where
  remaining_kept : (o : Option Numbers) (q : List ℕ) → remaining (taken_out s x o) q ≡ remaining s q
  unfolding remaining total lowered with_withdrawal
  remaining_kept None q = refl
  remaining_kept (Some range) q = refl

  corrected_is : (o : Option Numbers) → with_more (taken_out s x o) (correction_of s x) ≡ record (taken_out s x o) { corrections = s.corrections ++ correction_of s x ∷ [] }
  unfolding with_withdrawal
  corrected_is None = refl
  corrected_is (Some range) = refl

  -- the correction comes last
  pub with_correction_is : with_more (taken_out s x x.range) (correction_of s x) ≡ with_correction s x
  unfolding with_correction
  with_correction_is = corrected_is x.range

  both_same : (a b : ℕ) (k l : ℕ) (m n : Option ℕ) → Corrected a k m ≡ Corrected b l n → (a ≡ b) × (m ≡ n)
  both_same a b k l m n is = (cc, cc)

  -- the reply states the withdrawal, and what is carried then
  module _ (left count : ℕ) (withdrawal : Option ℕ) (states : correct_reply s x ≡ Corrected left count withdrawal) where
    pub withdrawal_stated : withdrawal_for s x.range ≡ withdrawal
    unfolding correct_reply
    withdrawal_stated = (both_same _ _ _ _ _ _ states).1

    pub carry_stated : left ≡ carry (with_more (taken_out s x x.range) (correction_of s x)) x.device
    unfolding correct_reply
    carry_stated =
        let here : less_of x.device (correction_of s x) ≡ x.less = ap (λ b. cond b x.less 0) ((bytes_eq-Decides x.device x.device).1 refl) in
        sym (both_same _ _ _ _ _ _ states).0
        ∙ (λ i. (sym (remaining_kept x.range x.device) i - sym here i) % certificate)
        ∙ sym (carry_after (taken_out s x x.range) (correction_of s x) x.device)

-- ---- a device with a declaration has an accepted period

ends_some : (day : CalendarDay) (xs : List Declare) → is_some (last_end (Some day) xs) ≡ true
ends_some day [] = refl
ends_some day (x ∷ xs) = ends_some x.last_day xs

pub has_ended : (device : List ℕ) (day : CalendarDay) (before : Option CalendarDay) (ds : List Declare) (y : Declare) → find (begins device day) ds ≡ Some y → is_some (last_end before (declared_by device ds)) ≡ true
has_ended device day before [] y found = none_some y found
has_ended device day before (x ∷ xs) y found = go (bytes_eq x.device device) refl found (λ later. has_ended device day before xs y later)
  where
    go : (b : Bool) → bytes_eq x.device device ≡ b → cond (b && same_day x.first_day day) (Some x) (find (begins device day) xs) ≡ Some y
        → (find (begins device day) xs ≡ Some y → is_some (last_end before (declared_by device xs)) ≡ true)
        → is_some (last_end before (cond b (x ∷ declared_by device xs) (declared_by device xs))) ≡ true
    go true is here rest = ends_some x.last_day (declared_by device xs)
    go false is later rest = rest later
