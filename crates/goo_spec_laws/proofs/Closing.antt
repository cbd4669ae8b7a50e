-- What is with an account when trade is closed stays with it.
use Rattle.std.proofs.Common.{◌≡◌, ℕ, true, false, List, [], ◌∷◌, Some, None, refl, sym, ap, ◌∙◌, subst, ⊎_elim}
use Rattle.std.specs.FinMap.{get}
use Rattle.std.proofs.lemmas.Bool.{true≢false}
use Rattle.goo_types.specs.Place.{account_of}
use Rattle.goo_types.specs.declared.lot_fields.LotFields.{LotFields}
use Rattle.goo_types.specs.declared.place.Place.{Place}
use Rattle.goo_types.specs.declared.place.Place.TheVariants.{Held}
use Rattle.goo_types.specs.declared.command.Command.{Command}
use Rattle.goo_types.specs.declared.command.Command.TheVariants.{OpenHolder, OpenAccount, CloseAccount, RegisterDevice, Declare, Correct, Transfer, Cancel, Withdraw, Advance, AddPeer, Export, Import}
use Rattle.goo_types.specs.declared.request.Request.{Request}
use Rattle.goo_spec.specs.Days.{is_closed}
use Rattle.goo_spec.specs.Lots.{is_exported}
use Rattle.goo_spec.specs.State.{State}
use Rattle.goo_spec.specs.Step.{outcome, next}
use Rattle.goo_spec.specs.Run.{final}
use Rattle.goo_spec.specs.Known.{is_accepted}
use Rattle.goo_spec_laws.specs.Ways.{Known, IsAway}
use Rattle.goo_spec_laws.specs.Rights.{IsByRight, MovesByRight}
use Rattle.goo_spec_laws.specs.Authority.{OfEach}
use Rattle.goo_spec_laws.specs.Deadlines.{IsWith}
use Rattle.goo_spec_laws.proofs.Dates.{closed_next}

with_at : (account : ℕ) (lot other : LotFields) (place : Place) (o : Known) → o ≡ Some (other, place) → IsWith account lot o → (other ≡ lot) × (account_of place ≡ account) × (is_exported place ≡ false)
with_at account lot other place o is kept = subst (λ (o : Known). IsWith account lot o) is kept

with_now : (account : ℕ) (lot other : LotFields) (place : Place) (o : Known) → o ≡ Some (other, place) → other ≡ lot → account_of place ≡ account → is_exported place ≡ false → IsWith account lot o
with_now account lot other place o is same there out = subst (λ (o : Known). IsWith account lot o) (sym is) (same, there, out)

isnt_away : {P : Type 0} (account : ℕ) (lot other : LotFields) (o : Known) → IsAway other o → IsWith account lot o → P
isnt_away account lot other None away kept = absurd kept
isnt_away account lot other (Some known) away kept = absurd (true≢false (sym away.1 ∙ kept.2))

isnt_open : {P : Type 0} (s : State) (lot other : LotFields) → other ≡ lot → is_closed lot s.today ≡ true → is_closed other s.today ≡ false → P
isnt_open s lot other same closed open_trade = absurd (true≢false (sym closed ∙ ap (λ l. is_closed l s.today) (sym same) ∙ open_trade))

module _ (s : State) (caller : List ℕ) (n account : ℕ) (lot : LotFields) (closed : is_closed lot s.today ≡ true) (kept : IsWith account lot (get s.at n)) where
  stays_with : (command : Command) (now : Known) → IsByRight s caller command n (get s.at n) now → IsWith account lot now
  stays_with (OpenHolder x) now row = absurd row
  stays_with (OpenAccount x) now row = absurd row
  stays_with (CloseAccount x) now row = absurd row
  stays_with (RegisterDevice x) now row = absurd row
  stays_with (Declare x) now row = absurd (subst (λ (o : Known). IsWith account lot o) row.was kept)
  stays_with (Correct x) now row = let was = with_at account lot row.back.lot (Held row.back.account) (get s.at n) row.back.was kept in with_now account lot row.back.lot _ now row.back.now was.0 was.1 refl
  stays_with (Transfer x) now row = let was = with_at account lot row.lot (Held x.giver) (get s.at n) row.was kept in isnt_open s lot row.lot was.0 closed row.open_trade
  stays_with (Cancel x) now row = let was = with_at account lot row.lot (Held x.account) (get s.at n) row.was kept in with_now account lot row.lot _ now row.now was.0 was.1 refl
  stays_with (Withdraw x) now row = let was = with_at account lot row.lot (Held row.account) (get s.at n) row.was kept in with_now account lot row.lot _ now row.now was.0 was.1 refl
  stays_with (Advance x) now row = let was = with_at account lot row.lot (Held row.account) (get s.at n) row.was kept in with_now account lot row.lot _ now row.now was.0 was.1 refl
  stays_with (AddPeer x) now row = absurd row
  stays_with (Export x) now row = let was = with_at account lot row.lot (Held x.giver) (get s.at n) row.was kept in isnt_open s lot row.lot was.0 closed row.open_trade
  stays_with (Import x) now row = isnt_away account lot row.lot (get s.at n) row.away kept

pub closed_stays : (n account : ℕ) (lot : LotFields) (s : State) (qs : List Request) → OfEach MovesByRight s qs → is_closed lot s.today ≡ true → IsWith account lot (get s.at n) → IsWith account lot (get (final s qs).at n)
closed_stays n account lot s [] moves closed kept = kept
closed_stays n account lot s (q ∷ qs) moves closed kept =
    let step : IsWith account lot (get (next s q).at n) = ⊎_elim
    (λ (same : get (next s q).at n ≡ get s.at n). subst (λ (o : Known). IsWith account lot o) (sym same) kept)
    (λ (went : (is_accepted (outcome s q) ≡ true) × IsByRight s q.caller q.command n (get s.at n) (get (next s q).at n)). stays_with s q.caller n account lot closed kept q.command (get (next s q).at n) went.1)
    (moves.0 n) in
    closed_stays n account lot (next s q) qs moves.1 (closed_next s q lot closed) step
