-- How a certificate came to be cancelled, or expired.
use Rattle.std.proofs.Common.{◌≡◌, ℕ, Bool, true, false, List, [], ◌∷◌, Some, refl, sym, ap, ◌∙◌, inl, inr, ⊎_elim}
use Rattle.std.specs.Prelude.{◌⊎◌}
use Rattle.std.specs.FinMap.{get}
use Rattle.std.proofs.lemmas.Bool.{true≢false}
use Rattle.goo_types.specs.declared.lot_fields.LotFields.{LotFields}
use Rattle.goo_types.specs.declared.place.Place.{Place}
use Rattle.goo_types.specs.declared.place.Place.TheVariants as place
use Rattle.goo_types.specs.declared.command.Command.{Command}
use Rattle.goo_types.specs.declared.command.Command.TheVariants.{OpenHolder, OpenAccount, CloseAccount, RegisterDevice, Declare, Correct, Transfer, Cancel, Withdraw, Advance, AddPeer, Export, Import}
use Rattle.goo_types.specs.declared.request.Request.{Request}
use Rattle.goo_spec.specs.Days.{is_over}
use Rattle.goo_spec.specs.Lots.{is_expired}
use Rattle.goo_spec.specs.State.{State}
use Rattle.goo_spec.specs.Step.{outcome, next}
use Rattle.goo_spec.specs.Run.{final}
use Rattle.goo_spec.specs.Known.{is_accepted}
use Rattle.goo_spec.proofs.Mapping.{inside}
use Rattle.goo_spec_laws.specs.Ways.{Known}
use Rattle.goo_spec_laws.specs.Rights.{IsByRight, MovesByRight}
use Rattle.goo_spec_laws.specs.Authority.{OfEach, OfOne}
use Rattle.goo_spec_laws.specs.Deadlines.{CancelsInTime, Ends}

-- ---- of what is known

is_cancelled : Place → Bool
is_cancelled (place.Held a) = false
is_cancelled (place.Cancelled a k) = true
is_cancelled (place.Expired a) = false
is_cancelled (place.Withdrawn a k) = false
is_cancelled (place.Exported a k) = false

same_lot : (a b : LotFields) (p r : Place) (o : Known) → o ≡ Some (a, p) → o ≡ Some (b, r) → a ≡ b
same_lot a b p r o first second = ap (λ e. e.0) (inside (a, p) (b, r) (sym first ∙ second))

-- one place isn't another where a test tells them apart
other_place : {P : Type 0} (test : Place → Bool) (a b : LotFields) (p r : Place) (o : Known) → test p ≡ false → test r ≡ true → o ≡ Some (a, p) → o ≡ Some (b, r) → P
other_place test a b p r o fails passes first second =
    absurd (true≢false (sym passes ∙ ap (λ e. test e.1) (sym (inside (a, p) (b, r) (sym first ∙ second))) ∙ fails))

valid_lot : (s : State) (a b : LotFields) → a ≡ b → is_over a s.today ≡ false → is_over b s.today ≡ false
valid_lot s a b same valid = ap (λ l. is_over l s.today) (sym same) ∙ valid

-- ---- one command

module _ (s : State) (caller : List ℕ) (n account : ℕ) (lot : LotFields) where
  cancelled_by : (act : ℕ) (command : Command) (now : Known) → now ≡ Some (lot, place.Cancelled account act) → IsByRight s caller command n (get s.at n) now → CancelsInTime n lot s command
  unfolding is_cancelled
  cancelled_by act (OpenHolder x) now is row = row
  cancelled_by act (OpenAccount x) now is row = row
  cancelled_by act (CloseAccount x) now is row = row
  cancelled_by act (RegisterDevice x) now is row = row
  cancelled_by act (Declare x) now is row = other_place is_cancelled _ lot _ _ now refl refl row.now is
  cancelled_by act (Correct x) now is row = other_place is_cancelled row.back.lot lot _ _ now refl refl row.back.now is
  cancelled_by act (Transfer x) now is row = other_place is_cancelled row.lot lot _ _ now refl refl row.now is
  cancelled_by act (Cancel x) now is row = (row.named, valid_lot s row.lot lot (same_lot row.lot lot _ _ now row.now is) row.valid)
  cancelled_by act (Withdraw x) now is row = other_place is_cancelled row.lot lot _ _ now refl refl row.now is
  cancelled_by act (Advance x) now is row = other_place is_cancelled row.lot lot _ _ now refl refl row.now is
  cancelled_by act (AddPeer x) now is row = row
  cancelled_by act (Export x) now is row = other_place is_cancelled row.lot lot _ _ now refl refl row.now is
  cancelled_by act (Import x) now is row = other_place is_cancelled row.lot lot _ _ now refl refl row.now is

  expired_by : (command : Command) (now : Known) → now ≡ Some (lot, place.Expired account) → IsByRight s caller command n (get s.at n) now → Ends lot s command
  expired_by (OpenHolder x) now is row = row
  expired_by (OpenAccount x) now is row = row
  expired_by (CloseAccount x) now is row = row
  expired_by (RegisterDevice x) now is row = row
  expired_by (Declare x) now is row = other_place is_expired _ lot _ _ now refl refl row.now is
  expired_by (Correct x) now is row = other_place is_expired row.back.lot lot _ _ now refl refl row.back.now is
  expired_by (Transfer x) now is row = other_place is_expired row.lot lot _ _ now refl refl row.now is
  expired_by (Cancel x) now is row = other_place is_expired row.lot lot _ _ now refl refl row.now is
  expired_by (Withdraw x) now is row = other_place is_expired row.lot lot _ _ now refl refl row.now is
  expired_by (Advance x) now is row =
      let same = same_lot row.lot lot _ _ now row.now is in
      (valid_lot s row.lot lot same row.valid, ap (λ l. is_over l x.day) (sym same) ∙ row.over)
  expired_by (AddPeer x) now is row = row
  expired_by (Export x) now is row = other_place is_expired row.lot lot _ _ now refl refl row.now is
  expired_by (Import x) now is row = other_place is_expired row.lot lot _ _ now refl refl row.now is

-- ---- lists

-- what holds of a certificate in the end held at the beginning, or one of the requests made it so
module _ (n : ℕ) (to : Known) (Made : State → Request → Type 0)
    (made : (s : State) (q : Request) → (is_accepted (outcome s q) ≡ true) × IsByRight s q.caller q.command n (get s.at n) (get (next s q).at n) → get (next s q).at n ≡ to → Made s q) where
  made_first : (s : State) (q : Request) (qs : List Request) → MovesByRight s q → get (next s q).at n ≡ to → (get s.at n ≡ to) ⊎ OfOne Made s (q ∷ qs)
  made_first s q qs moves is = ⊎_elim
      (λ (same : get (next s q).at n ≡ get s.at n). inl (sym same ∙ is))
      (λ (went : (is_accepted (outcome s q) ≡ true) × IsByRight s q.caller q.command n (get s.at n) (get (next s q).at n)). inr (inl (made s q went is)))
      (moves n)

  made_so : (s : State) (qs : List Request) → OfEach MovesByRight s qs → get (final s qs).at n ≡ to → (get s.at n ≡ to) ⊎ OfOne Made s qs
  made_so s [] moves is = inl is
  made_so s (q ∷ qs) moves is = ⊎_elim
      (λ (there : get (next s q).at n ≡ to). made_first s q qs moves.0 there)
      (λ (later : OfOne Made (next s q) qs). inr (inr later))
      (made_so (next s q) qs moves.1 is)

module _ (n account : ℕ) (lot : LotFields) (s : State) (qs : List Request) (moves : OfEach MovesByRight s qs) where
  pub was_cancelled : (act : ℕ) → get (final s qs).at n ≡ Some (lot, place.Cancelled account act)
      → (get s.at n ≡ Some (lot, place.Cancelled account act)) ⊎ OfOne (λ s q. (is_accepted (outcome s q) ≡ true) × CancelsInTime n lot s q.command) s qs
  was_cancelled act is = made_so n (Some (lot, place.Cancelled account act)) (λ s q. (is_accepted (outcome s q) ≡ true) × CancelsInTime n lot s q.command)
      (λ s q went now. (went.0, cancelled_by s q.caller n account lot act q.command (get (next s q).at n) now went.1)) s qs moves is

  pub was_expired : get (final s qs).at n ≡ Some (lot, place.Expired account)
      → (get s.at n ≡ Some (lot, place.Expired account)) ⊎ OfOne (λ s q. (is_accepted (outcome s q) ≡ true) × Ends lot s q.command) s qs
  was_expired is = made_so n (Some (lot, place.Expired account)) (λ s q. (is_accepted (outcome s q) ≡ true) × Ends lot s q.command)
      (λ s q went now. (went.0, expired_by s q.caller n account lot q.command (get (next s q).at n) now went.1)) s qs moves is
