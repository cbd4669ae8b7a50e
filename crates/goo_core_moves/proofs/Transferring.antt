-- What a transfer comes to.
use Rattle.std.proofs.Common.{◌≡◌, ◌∙◌, ℕ, List, None, refl, [], ◌∷◌}
use Rattle.std.specs.Prelude.{not}
use Rattle.std.specs.FinMap.{get}
use Rattle.goo_types.specs.Day.{CalendarDay}
use Rattle.goo_types.specs.Piece.{at_of}
use Rattle.goo_types.specs.Range.{Numbers}
use Rattle.goo_types.specs.declared.command.Transfer.{Transfer}
use Rattle.goo_types.specs.declared.piece.Piece.{Piece}
use Rattle.goo_types.specs.declared.place.Place.TheVariants.{Held}
use Rattle.goo_types.specs.declared.reply.Reply.TheVariants.{Moved}
use Rattle.goo_spec.specs.Checks.{first_refusal}
use Rattle.goo_spec.specs.Days.{is_closed}
use Rattle.goo_spec.specs.Lots.{Certificates, is_held_by}
use Rattle.goo_spec.specs.Maps.{count_of}
use Rattle.goo_spec.specs.State.{State}
use Rattle.goo_spec.specs.Transfer.{transfer_refusal, transfer_reply, with_transfer}
use Rattle.goo_ranges_rows.specs.Rows.{AreRowsOf, meeting}
use Rattle.goo_ranges_rows.proofs.Framing.{absent-alike, failing-alike}
use Rattle.goo_core_moves.specs.Moves.{IsMoveRuling}
use Rattle.goo_core_moves.specs.Ruling.{IsRuling, plain_meaning}
use Rattle.goo_core_moves.specs.Transfer.{entry_checks}
use Rattle.goo_core_rules.specs.Trade.{trade_checks}
use Rattle.goo_core_rules.specs.declared.ruling.Ruling.{Ruling}
use Rattle.goo_core_moves.proofs.Rulings.{passed_early, ruled_move}

-- the checks over the range find the same on the met rows as in the state
pub trade-alike : (at : Certificates) (rows : List Piece) (range : Numbers) (giver : ℕ) (today : CalendarDay) → AreRowsOf at rows
    → first_refusal (trade_checks (get at) range giver today) ≡ first_refusal (trade_checks (at_of (meeting range rows)) range giver today)
trade-alike at rows range giver today kept =
    rw (← absent-alike at rows range kept, ← failing-alike (λ lot place. is_held_by giver place) at rows range kept, ← failing-alike (λ lot place. not (is_closed lot today)) at rows range kept) refl

pub ruled_transfer : (s : State) (rows met : List Piece) (caller : List ℕ) (x : Transfer) (today : CalendarDay) (ruling : Ruling) → AreRowsOf s.at rows
    → first_refusal (entry_checks s caller x) ≡ None → today ≡ s.today → met ≡ meeting x.range rows
    → IsMoveRuling (first_refusal (trade_checks (at_of met) x.range x.giver today)) (Moved (count_of x.range)) None x.range (Held x.taker) met ruling
    → IsRuling (plain_meaning (transfer_refusal s caller x) (transfer_reply s x) (with_transfer s x).at (λ rows. 1) (x.range ∷ [])) rows ruling
unfolding transfer_refusal transfer_reply with_transfer
ruled_transfer s rows met caller x today ruling kept passed day is ruled =
    let late : first_refusal (trade_checks (get s.at) x.range x.giver s.today) ≡ first_refusal (trade_checks (at_of met) x.range x.giver today) = trade-alike s.at rows x.range x.giver s.today kept ∙ rw (is, day) refl in
    ruled_move (plain_meaning (transfer_refusal s caller x) (transfer_reply s x) (with_transfer s x).at (λ rows. 1) (x.range ∷ [])) s.at rows met (first_refusal (trade_checks (at_of met) x.range x.giver today)) x.range (Held x.taker) ruling kept is refl
    (passed_early (entry_checks s caller x) (trade_checks (get s.at) x.range x.giver s.today) passed ∙ late) refl refl refl ruled
