-- What a cancellation comes to.
use Rattle.std.proofs.Common.{◌≡◌, ◌∙◌, ℕ, List, None, refl, subst, [], ◌∷◌}
use Rattle.std.specs.FinMap.{get}
use Rattle.goo_types.specs.Piece.{at_of}
use Rattle.goo_types.specs.declared.command.Cancel.{Cancel}
use Rattle.goo_types.specs.declared.piece.Piece.{Piece}
use Rattle.goo_types.specs.declared.place.Place.TheVariants as place
use Rattle.goo_types.specs.declared.reply.Reply.TheVariants as reply
use Rattle.goo_spec.specs.Cancel.{cancel_refusal, cancel_reply, with_cancellation}
use Rattle.goo_spec.specs.Checks.{first_refusal}
use Rattle.goo_spec.specs.Lots.{Certificates, is_held_by}
use Rattle.goo_spec.specs.Maps.{count_of}
use Rattle.goo_spec.specs.State.{State}
use Rattle.goo_ranges_rows.specs.Rows.{AreRowsOf, meeting}
use Rattle.goo_ranges_rows.proofs.Framing.{absent-alike, failing-alike}
use Rattle.goo_core_moves.specs.Cancel.{entry_checks, range_checks}
use Rattle.goo_core_moves.specs.Moves.{IsMoveRuling}
use Rattle.goo_core_moves.specs.Ruling.{IsRuling, plain_meaning}
use Rattle.goo_core_rules.specs.declared.ruling.Ruling.{Ruling}
use Rattle.goo_core_moves.proofs.Rulings.{passed_early, ruled_move}

-- the checks over the range find the same on the met rows as in the state
alike : (at : Certificates) (rows : List Piece) (next : ℕ) (x : Cancel) → AreRowsOf at rows → first_refusal (range_checks (get at) next x) ≡ first_refusal (range_checks (at_of (meeting x.range rows)) next x)
alike at rows next x kept =
    rw (← absent-alike at rows x.range kept, ← failing-alike (λ lot place. is_held_by x.account place) at rows x.range kept) refl

pub ruled_cancel : (s : State) (rows met : List Piece) (caller : List ℕ) (x : Cancel) (next : ℕ) (ruling : Ruling) → AreRowsOf s.at rows
    → first_refusal (entry_checks s caller x) ≡ None → next ≡ s.next_cancellation → met ≡ meeting x.range rows
    → IsMoveRuling (first_refusal (range_checks (at_of met) next x)) (reply.Cancelled next (count_of x.range)) None x.range (place.Cancelled x.account next) met ruling
    → IsRuling (plain_meaning (cancel_refusal s caller x) (cancel_reply s x) (with_cancellation s x).at (λ rows. 1) (x.range ∷ [])) rows ruling
unfolding cancel_refusal cancel_reply with_cancellation
ruled_cancel s rows met caller x next ruling kept passed number is ruled =
    let here : IsMoveRuling (first_refusal (range_checks (at_of met) s.next_cancellation x)) (reply.Cancelled s.next_cancellation (count_of x.range)) None x.range (place.Cancelled x.account s.next_cancellation) met ruling
    = subst (λ (k : ℕ). IsMoveRuling (first_refusal (range_checks (at_of met) k x)) (reply.Cancelled k (count_of x.range)) None x.range (place.Cancelled x.account k) met ruling) number ruled in
    let late : first_refusal (range_checks (get s.at) s.next_cancellation x) ≡ first_refusal (range_checks (at_of met) s.next_cancellation x) = alike s.at rows s.next_cancellation x kept ∙ rw is refl in
    ruled_move (plain_meaning (cancel_refusal s caller x) (cancel_reply s x) (with_cancellation s x).at (λ rows. 1) (x.range ∷ [])) s.at rows met (first_refusal (range_checks (at_of met) s.next_cancellation x)) x.range (place.Cancelled x.account s.next_cancellation) ruling kept is refl
    (passed_early (entry_checks s caller x) (range_checks (get s.at) s.next_cancellation x) passed ∙ late) refl refl refl here
