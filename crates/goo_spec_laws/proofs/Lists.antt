-- The same of lists of requests, and of one account.
use Rattle.std.proofs.Common.{◌≡◌, ◌≢◌, ℕ, ◌==◌, Bool, true, false, List, [], ◌∷◌, Some, None, refl, sym, ap, ◌∙◌, subst, inl, inr, ⊎_elim}
use Rattle.std.specs.Prelude.{◌⊎◌}
use Rattle.std.specs.FinMap.{get}
use Rattle.std.proofs.lemmas.Bool.{true≢false, eq-eqb, ne_eqb}
use Rattle.std.proofs.lemmas.List.Elements.{All-head, All-tail}
use Rattle.goo_types.specs.Place.{account_of}
use Rattle.goo_types.specs.declared.lot_fields.LotFields.{LotFields}
use Rattle.goo_types.specs.declared.place.Place.{Place}
use Rattle.goo_types.specs.declared.place.Place.TheVariants.{Held}
use Rattle.goo_types.specs.declared.place.Place.TheVariants as place
use Rattle.goo_types.specs.declared.command.Command.{Command}
use Rattle.goo_types.specs.declared.command.Command.TheVariants.{OpenHolder, OpenAccount, CloseAccount, RegisterDevice, Declare, Correct, Transfer, Cancel, Withdraw, Advance, AddPeer, Export, Import}
use Rattle.goo_types.specs.declared.request.Request.{Request}
use Rattle.goo_spec.specs.Checks.{is_holder}
use Rattle.goo_spec.specs.Lots.{is_held, is_held_by, is_exported}
use Rattle.goo_spec.specs.State.{State}
use Rattle.goo_spec.specs.Step.{outcome, next}
use Rattle.goo_spec.specs.Run.{final}
use Rattle.goo_spec.specs.Known.{is_accepted}
use Rattle.goo_spec.specs.Sound.{IsSound}
use Rattle.goo_spec.specs.Obeys.{Obeys, AllObey}
use Rattle.goo_spec.proofs.Mapping.{none_some}
use Rattle.goo_spec.proofs.Stepping.{sound_next}
use Rattle.goo_spec_laws.specs.Ways.{Known, IsAway}
use Rattle.goo_spec_laws.specs.Rights.{IsByRight, MovesByRight, is_held_in, is_in, TakesOut, BringsIn}
use Rattle.goo_spec_laws.specs.Authority.{OfEach, WasTakenOut, WasBroughtIn, WasMoved, IsMovedByRight, OnlyByRight, EachByRight}
use Rattle.goo_spec_laws.proofs.Rights.{moves_by_right}

-- ---- of what is known

account_in : Known → ℕ
account_in None = 0
account_in (Some known) = account_of known.1

held_in : Known → Bool
held_in None = false
held_in (Some known) = is_held known.1

one_account : (a b : LotFields) (k l : ℕ) (o : Known) → o ≡ Some (a, Held k) → o ≡ Some (b, Held l) → k ≡ l
unfolding account_in
one_account a b k l o first second = ap account_in (sym first ∙ second)

isnt_held : {P : Type 0} (lot other : LotFields) (k : ℕ) (place : Place) (o : Known) → is_held place ≡ false → o ≡ Some (other, place) → o ≡ Some (lot, Held k) → P
unfolding held_in
isnt_held lot other k place o isnt first second = absurd (true≢false (sym (ap held_in (sym first ∙ second) ∙ refl) ∙ isnt))

away_isnt : {P : Type 0} (lot other : LotFields) (k : ℕ) (o : Known) → IsAway other o → o ≡ Some (lot, Held k) → P
away_isnt lot other k o away is = absurd (true≢false (sym (subst (λ (o : Known). IsAway other o) is away).1))

exported_isnt : (account : ℕ) (place : Place) → is_exported place ≡ true → is_held_by account place ≡ false
exported_isnt account (place.Held a) out = absurd (true≢false (sym out))
exported_isnt account (place.Cancelled a k) out = refl
exported_isnt account (place.Expired a) out = refl
exported_isnt account (place.Withdrawn a k) out = refl
exported_isnt account (place.Exported a k) out = refl

away_from : (account : ℕ) (other : LotFields) (o : Known) → IsAway other o → is_held_in account o ≡ false
away_from account other None away = refl
away_from account other (Some known) away = exported_isnt account known.1 away.1

held_here : (account : ℕ) (lot : LotFields) (o : Known) → o ≡ Some (lot, Held account) → is_held_in account o ≡ true
held_here account lot o is = ap (is_held_in account) is ∙ eq-eqb account account refl

-- ---- one request

module _ (s : State) (caller : List ℕ) (n account : ℕ) (lot : LotFields) where
  holder_of : (giver : ℕ) (other : LotFields) → get s.at n ≡ Some (other, Held giver) → get s.at n ≡ Some (lot, Held account) → is_holder caller (get s.accounts giver) ≡ true → is_holder caller (get s.accounts account) ≡ true
  holder_of giver other was is right = subst (λ (a : ℕ). is_holder caller (get s.accounts a) ≡ true) (one_account other lot giver account (get s.at n) was is) right

  takes_out : (command : Command) (now : Known) → get s.at n ≡ Some (lot, Held account) → IsByRight s caller command n (get s.at n) now → TakesOut n account s caller command
  takes_out (OpenHolder x) now is row = row
  takes_out (OpenAccount x) now is row = row
  takes_out (CloseAccount x) now is row = row
  takes_out (RegisterDevice x) now is row = row
  takes_out (Declare x) now is row = none_some (lot, Held account) (sym row.was ∙ is)
  takes_out (Correct x) now is row = (ap (λ o. is_in o n) row.given ∙ row.back.named, row.back.right)
  takes_out (Transfer x) now is row = (one_account row.lot lot x.giver account (get s.at n) row.was is, row.named, holder_of x.giver row.lot row.was is row.right)
  takes_out (Cancel x) now is row = (one_account row.lot lot x.account account (get s.at n) row.was is, row.named, holder_of x.account row.lot row.was is row.right)
  takes_out (Withdraw x) now is row = (row.named, row.right)
  takes_out (Advance x) now is row = (row.lot, row.was ∙ ap (λ a. Some (row.lot, Held a)) (one_account row.lot lot row.account account (get s.at n) row.was is), row.over)
  takes_out (AddPeer x) now is row = row
  takes_out (Export x) now is row = (one_account row.lot lot x.giver account (get s.at n) row.was is, row.named, holder_of x.giver row.lot row.was is row.right)
  takes_out (Import x) now is row = away_isnt lot row.lot account (get s.at n) row.away is

  brings_in : (command : Command) (now : Known) → now ≡ Some (lot, Held account) → IsByRight s caller command n (get s.at n) now → BringsIn n account s caller command
  brings_in (OpenHolder x) now is row = row
  brings_in (OpenAccount x) now is row = row
  brings_in (CloseAccount x) now is row = row
  brings_in (RegisterDevice x) now is row = row
  brings_in (Declare x) now is row = (row.device, row.registered, one_account _ lot row.device.account account now row.now is, row.named)
  brings_in (Correct x) now is row = isnt_held lot row.back.lot account _ now refl row.back.now is
  brings_in (Transfer x) now is row = (one_account row.lot lot x.taker account now row.now is, row.named, row.right, row.lot, row.was)
  brings_in (Cancel x) now is row = isnt_held lot row.lot account _ now refl row.now is
  brings_in (Withdraw x) now is row = isnt_held lot row.lot account _ now refl row.now is
  brings_in (Advance x) now is row = isnt_held lot row.lot account _ now refl row.now is
  brings_in (AddPeer x) now is row = row
  brings_in (Export x) now is row = isnt_held lot row.lot account _ now refl row.now is
  brings_in (Import x) now is row = (one_account row.lot lot x.notice.account account now row.now is, row.named, row.right)

  -- what was taken out isn't held any more
  other_holder : (giver taker : ℕ) → giver ≢ taker → giver ≡ account → (taker == account) ≡ false
  other_holder giver taker other mine = ne_eqb taker account (λ (e : taker ≡ account). other (mine ∙ sym e))

  isnt_after : (command : Command) (now : Known) → get s.at n ≡ Some (lot, Held account) → IsByRight s caller command n (get s.at n) now → is_held_in account now ≡ false
  isnt_after (OpenHolder x) now is row = absurd row
  isnt_after (OpenAccount x) now is row = absurd row
  isnt_after (CloseAccount x) now is row = absurd row
  isnt_after (RegisterDevice x) now is row = absurd row
  isnt_after (Declare x) now is row = none_some (lot, Held account) (sym row.was ∙ is)
  isnt_after (Correct x) now is row = ap (is_held_in account) row.back.now
  isnt_after (Transfer x) now is row = ap (is_held_in account) row.now ∙ other_holder x.giver x.taker row.other (one_account row.lot lot x.giver account (get s.at n) row.was is)
  isnt_after (Cancel x) now is row = ap (is_held_in account) row.now
  isnt_after (Withdraw x) now is row = ap (is_held_in account) row.now
  isnt_after (Advance x) now is row = ap (is_held_in account) row.now
  isnt_after (AddPeer x) now is row = absurd row
  isnt_after (Export x) now is row = ap (is_held_in account) row.now
  isnt_after (Import x) now is row = away_isnt lot row.lot account (get s.at n) row.away is

  -- what was brought in wasn't held before
  wasnt_before : (command : Command) (now : Known) → now ≡ Some (lot, Held account) → IsByRight s caller command n (get s.at n) now → is_held_in account (get s.at n) ≡ false
  wasnt_before (OpenHolder x) now is row = absurd row
  wasnt_before (OpenAccount x) now is row = absurd row
  wasnt_before (CloseAccount x) now is row = absurd row
  wasnt_before (RegisterDevice x) now is row = absurd row
  wasnt_before (Declare x) now is row = ap (is_held_in account) row.was
  wasnt_before (Correct x) now is row = isnt_held lot row.back.lot account _ now refl row.back.now is
  wasnt_before (Transfer x) now is row =
      ap (is_held_in account) row.was ∙ ne_eqb x.giver account (λ (e : x.giver ≡ account). row.other (e ∙ sym (one_account row.lot lot x.taker account now row.now is)))
  wasnt_before (Cancel x) now is row = isnt_held lot row.lot account _ now refl row.now is
  wasnt_before (Withdraw x) now is row = isnt_held lot row.lot account _ now refl row.now is
  wasnt_before (Advance x) now is row = isnt_held lot row.lot account _ now refl row.now is
  wasnt_before (AddPeer x) now is row = absurd row
  wasnt_before (Export x) now is row = isnt_held lot row.lot account _ now refl row.now is
  wasnt_before (Import x) now is row = away_from account row.lot (get s.at n) row.away

-- ---- lists

-- a law of each request, of all of them
pub of_each : (P : State → Request → Type 0) → ((s : State) (q : Request) → IsSound s → P s q) → (s : State) (qs : List Request) → AllObey qs → IsSound s → OfEach P s qs
of_each P law s [] obey sound = tt
of_each P law s (q ∷ qs) obey sound =
    (law s q sound, of_each P law (next s q) qs (All-tail (λ p. Obeys p.command) q qs obey) (sound_next s q (All-head (λ p. Obeys p.command) q qs obey) sound))

module _ (n account : ℕ) (lot : LotFields) where
  pub left_after : (s : State) (qs : List Request) → OfEach MovesByRight s qs → get s.at n ≡ Some (lot, Held account) → (get (final s qs).at n ≡ Some (lot, Held account)) ⊎ WasTakenOut n account s qs
  left_after s [] moves is = inl is
  left_after s (q ∷ qs) moves is = ⊎_elim
      (λ (same : get (next s q).at n ≡ get s.at n). ⊎_elim
      (λ (still : get (final (next s q) qs).at n ≡ Some (lot, Held account)). inl still)
      (λ (later : WasTakenOut n account (next s q) qs). inr (inr later))
      (left_after (next s q) qs moves.1 (same ∙ is)))
      (λ (went : (is_accepted (outcome s q) ≡ true) × IsByRight s q.caller q.command n (get s.at n) (get (next s q).at n)). inr (inl (went.0, held_here account lot (get s.at n) is, isnt_after s q.caller n account lot q.command (get (next s q).at n) is went.1, takes_out s q.caller n account lot q.command (get (next s q).at n) is went.1)))
      (moves.0 n)

  came_first : (s : State) (q : Request) (qs : List Request) → MovesByRight s q → get (next s q).at n ≡ Some (lot, Held account) → (get s.at n ≡ Some (lot, Held account)) ⊎ WasBroughtIn n account s (q ∷ qs)
  came_first s q qs moves is = ⊎_elim
      (λ (same : get (next s q).at n ≡ get s.at n). inl (sym same ∙ is))
      (λ (went : (is_accepted (outcome s q) ≡ true) × IsByRight s q.caller q.command n (get s.at n) (get (next s q).at n)). inr (inl (went.0, wasnt_before s q.caller n account lot q.command (get (next s q).at n) is went.1, held_here account lot (get (next s q).at n) is, brings_in s q.caller n account lot q.command (get (next s q).at n) is went.1)))
      (moves n)

  pub came_before : (s : State) (qs : List Request) → OfEach MovesByRight s qs → get (final s qs).at n ≡ Some (lot, Held account) → (get s.at n ≡ Some (lot, Held account)) ⊎ WasBroughtIn n account s qs
  came_before s [] moves is = inl is
  came_before s (q ∷ qs) moves is = ⊎_elim
      (λ (there : get (next s q).at n ≡ Some (lot, Held account)). came_first s q qs moves.0 there)
      (λ (later : WasBroughtIn n account (next s q) qs). inr (inr later))
      (came_before (next s q) qs moves.1 is)

pub moved_after : (n : ℕ) (s : State) (qs : List Request) → OfEach MovesByRight s qs → (get (final s qs).at n ≡ get s.at n) ⊎ WasMoved n s qs
moved_after n s [] moves = inl refl
moved_after n s (q ∷ qs) moves = ⊎_elim
    (λ (same : get (next s q).at n ≡ get s.at n). ⊎_elim
    (λ (still : get (final (next s q) qs).at n ≡ get (next s q).at n). inl (still ∙ same))
    (λ (later : WasMoved n (next s q) qs). inr (inr later))
    (moved_after n (next s q) qs moves.1))
    (λ (went : (is_accepted (outcome s q) ≡ true) × IsByRight s q.caller q.command n (get s.at n) (get (next s q).at n)). inr (inl went))
    (moves.0 n)

pub each_by_right : EachByRight
each_by_right s qs obey sound = of_each MovesByRight moves_by_right s qs obey sound

pub only_by_right : OnlyByRight
only_by_right s qs obey sound =
    let moves = each_by_right s qs obey sound in
    record {
      moved = λ n. moved_after n s qs moves;
      left = λ n account lot is. left_after n account lot s qs moves is;
      came = λ n account lot is. came_before n account lot s qs moves is;
    }

-- of a state that is the last of a run
pub moved_by_right : (s t : State) (qs : List Request) → AllObey qs → IsSound s → t ≡ final s qs → IsMovedByRight s qs t
moved_by_right s t qs obey sound is = subst (λ (u : State). IsMovedByRight s qs u) (sym is) (only_by_right s qs obey sound)
