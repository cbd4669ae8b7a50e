-- Places that are final, exported certificates and lots, through a list of requests.
use Rattle.std.proofs.Common.{◌≡◌, ℕ, Bool, true, false, List, [], ◌∷◌, Some, None, refl, sym, ap, ◌∙◌, subst, inl, inr, ⊎_elim}
use Rattle.std.specs.Prelude.{◌⊎◌}
use Rattle.std.specs.FinMap.{get}
use Rattle.std.proofs.lemmas.Bool.{true≢false}
use Rattle.goo_types.specs.declared.lot_fields.LotFields.{LotFields}
use Rattle.goo_types.specs.declared.place.Place.{Place}
use Rattle.goo_types.specs.declared.place.Place.TheVariants.{Held, Cancelled, Expired, Withdrawn, Exported}
use Rattle.goo_types.specs.declared.command.Command.{Command}
use Rattle.goo_types.specs.declared.command.Command.TheVariants.{OpenHolder, OpenAccount, CloseAccount, RegisterDevice, Declare, Correct, Transfer, Cancel, Withdraw, Advance, AddPeer, Export, Import}
use Rattle.goo_types.specs.declared.request.Request.{Request}
use Rattle.goo_spec.specs.Lots.{lot_in, is_exported}
use Rattle.goo_spec.specs.State.{State}
use Rattle.goo_spec.specs.Step.{outcome, next}
use Rattle.goo_spec.specs.Run.{final}
use Rattle.goo_spec.specs.Known.{is_accepted}
use Rattle.goo_spec.proofs.Mapping.{none_some}
use Rattle.goo_spec_laws.specs.Ways.{Known, IsAway}
use Rattle.goo_spec_laws.specs.Rights.{IsByRight, MovesByRight}
use Rattle.goo_spec_laws.specs.Authority.{OfEach}
use Rattle.goo_spec_laws.specs.Final.{is_final, Imports, WasImported}

-- ---- what is known

module _ (test : Place → Bool) where
  test_in : Known → Bool
  test_in None = false
  test_in (Some known) = test known.1

  -- a place that passes a test which held ones don't isn't a held one
  isnt_held : {P : Type 0} (a b : LotFields) (k : ℕ) (place : Place) (o : Known) → test (Held k) ≡ false → test place ≡ true → o ≡ Some (a, Held k) → o ≡ Some (b, place) → P
  unfolding test_in
  isnt_held a b k place o held passes first second =
      let same : test (Held k) ≡ test place = ap test_in (sym first ∙ second) in
      absurd (true≢false (sym passes ∙ sym same ∙ held))

final_isnt_away : {P : Type 0} (place : Place) → is_final place ≡ true → is_exported place ≡ true → P
final_isnt_away (Held a) final out = absurd (true≢false (sym final))
final_isnt_away (Cancelled a k) final out = absurd (true≢false (sym out))
final_isnt_away (Expired a) final out = absurd (true≢false (sym out))
final_isnt_away (Withdrawn a k) final out = absurd (true≢false (sym out))
final_isnt_away (Exported a k) final out = absurd (true≢false (sym final))

away_at : (lot other : LotFields) (place : Place) (o : Known) → IsAway other o → o ≡ Some (lot, place) → (lot ≡ other) × (is_exported place ≡ true)
away_at lot other place o away is = subst (λ (o : Known). IsAway other o) is away

-- ---- one command

module _ (s : State) (caller : List ℕ) (n : ℕ) (lot : LotFields) (place : Place) (was : get s.at n ≡ Some (lot, place)) where
  -- none moves a certificate out of a final place
  never_from : {P : Type 0} (command : Command) (now : Known) → is_final place ≡ true → IsByRight s caller command n (get s.at n) now → P
  never_from (OpenHolder x) now final row = absurd row
  never_from (OpenAccount x) now final row = absurd row
  never_from (CloseAccount x) now final row = absurd row
  never_from (RegisterDevice x) now final row = absurd row
  never_from (Declare x) now final row = none_some (lot, place) (sym row.was ∙ was)
  never_from (Correct x) now final row = isnt_held is_final row.back.lot lot row.back.account place (get s.at n) refl final row.back.was was
  never_from (Transfer x) now final row = isnt_held is_final row.lot lot x.giver place (get s.at n) refl final row.was was
  never_from (Cancel x) now final row = isnt_held is_final row.lot lot x.account place (get s.at n) refl final row.was was
  never_from (Withdraw x) now final row = isnt_held is_final row.lot lot row.account place (get s.at n) refl final row.was was
  never_from (Advance x) now final row = isnt_held is_final row.lot lot row.account place (get s.at n) refl final row.was was
  never_from (AddPeer x) now final row = absurd row
  never_from (Export x) now final row = isnt_held is_final row.lot lot x.giver place (get s.at n) refl final row.was was
  never_from (Import x) now final row = final_isnt_away place final (away_at lot row.lot place (get s.at n) row.away was).1

  -- an import alone moves an exported one
  by_import : (command : Command) (now : Known) → is_exported place ≡ true → IsByRight s caller command n (get s.at n) now → Imports n command
  by_import (OpenHolder x) now out row = row
  by_import (OpenAccount x) now out row = row
  by_import (CloseAccount x) now out row = row
  by_import (RegisterDevice x) now out row = row
  by_import (Declare x) now out row = none_some (lot, place) (sym row.was ∙ was)
  by_import (Correct x) now out row = isnt_held is_exported row.back.lot lot row.back.account place (get s.at n) refl out row.back.was was
  by_import (Transfer x) now out row = isnt_held is_exported row.lot lot x.giver place (get s.at n) refl out row.was was
  by_import (Cancel x) now out row = isnt_held is_exported row.lot lot x.account place (get s.at n) refl out row.was was
  by_import (Withdraw x) now out row = isnt_held is_exported row.lot lot row.account place (get s.at n) refl out row.was was
  by_import (Advance x) now out row = isnt_held is_exported row.lot lot row.account place (get s.at n) refl out row.was was
  by_import (AddPeer x) now out row = row
  by_import (Export x) now out row = isnt_held is_exported row.lot lot x.giver place (get s.at n) refl out row.was was
  by_import (Import x) now out row = row.named

  -- the lot of the place before is that of the place after
  lot_by : (other : LotFields) (old new : Place) (now : Known) → get s.at n ≡ Some (other, old) → now ≡ Some (other, new) → lot_in now ≡ Some lot
  lot_by other old new now before after = ap lot_in after ∙ sym (ap lot_in before) ∙ ap lot_in was

  same_lot_after : (command : Command) (now : Known) → IsByRight s caller command n (get s.at n) now → lot_in now ≡ Some lot
  same_lot_after (OpenHolder x) now row = absurd row
  same_lot_after (OpenAccount x) now row = absurd row
  same_lot_after (CloseAccount x) now row = absurd row
  same_lot_after (RegisterDevice x) now row = absurd row
  same_lot_after (Declare x) now row = none_some (lot, place) (sym row.was ∙ was)
  same_lot_after (Correct x) now row = lot_by row.back.lot _ _ now row.back.was row.back.now
  same_lot_after (Transfer x) now row = lot_by row.lot _ _ now row.was row.now
  same_lot_after (Cancel x) now row = lot_by row.lot _ _ now row.was row.now
  same_lot_after (Withdraw x) now row = lot_by row.lot _ _ now row.was row.now
  same_lot_after (Advance x) now row = lot_by row.lot _ _ now row.was row.now
  same_lot_after (AddPeer x) now row = absurd row
  same_lot_after (Export x) now row = lot_by row.lot _ _ now row.was row.now
  same_lot_after (Import x) now row = ap lot_in row.now ∙ ap Some (sym (away_at lot row.lot place (get s.at n) row.away was).0)

-- ---- lists

abbrev Went : State → Request → ℕ → Type 0
Went s q n = (is_accepted (outcome s q) ≡ true) × IsByRight s q.caller q.command n (get s.at n) (get (next s q).at n)

module _ (n : ℕ) (lot : LotFields) (place : Place) where
  pub final_place : (s : State) (qs : List Request) → OfEach MovesByRight s qs → get s.at n ≡ Some (lot, place) → is_final place ≡ true → get (final s qs).at n ≡ Some (lot, place)
  final_place s [] moves is final_one = is
  final_place s (q ∷ qs) moves is final_one =
      let step : get (next s q).at n ≡ Some (lot, place) = ⊎_elim
      (λ (same : get (next s q).at n ≡ get s.at n). same ∙ is)
      (λ (went : Went s q n). never_from s q.caller n lot place is q.command (get (next s q).at n) final_one went.1)
      (moves.0 n) in
      final_place (next s q) qs moves.1 step final_one

  pub exported_place : (s : State) (qs : List Request) → OfEach MovesByRight s qs → get s.at n ≡ Some (lot, place) → is_exported place ≡ true → (get (final s qs).at n ≡ Some (lot, place)) ⊎ WasImported n s qs
  exported_place s [] moves is out = inl is
  exported_place s (q ∷ qs) moves is out = ⊎_elim
      (λ (same : get (next s q).at n ≡ get s.at n). ⊎_elim
      (λ (still : get (final (next s q) qs).at n ≡ Some (lot, place)). inl still)
      (λ (later : WasImported n (next s q) qs). inr (inr later))
      (exported_place (next s q) qs moves.1 (same ∙ is) out))
      (λ (went : Went s q n). inr (inl (went.0, by_import s q.caller n lot place is q.command (get (next s q).at n) out went.1)))
      (moves.0 n)

lot_next : (s : State) (q : Request) (n : ℕ) (lot : LotFields) → MovesByRight s q → (o : Known) → get s.at n ≡ o → lot_in o ≡ Some lot → lot_in (get (next s q).at n) ≡ Some lot
lot_next s q n lot moves None is has = none_some lot has
lot_next s q n lot moves (Some known) is has = ⊎_elim
    (λ (same : get (next s q).at n ≡ get s.at n). ap lot_in (same ∙ is) ∙ has)
    (λ (went : Went s q n). same_lot_after s q.caller n known.0 known.1 is q.command (get (next s q).at n) went.1 ∙ has)
    (moves n)

pub same_lots : (n : ℕ) (lot : LotFields) (s : State) (qs : List Request) → OfEach MovesByRight s qs → lot_in (get s.at n) ≡ Some lot → lot_in (get (final s qs).at n) ≡ Some lot
same_lots n lot s [] moves has = has
same_lots n lot s (q ∷ qs) moves has = same_lots n lot (next s q) qs moves.1 (lot_next s q n lot moves.0 (get s.at n) refl has)
