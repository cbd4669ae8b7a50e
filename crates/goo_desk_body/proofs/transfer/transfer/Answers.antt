use Rattle.std.proofs.Common.{rules}
use mir.Syntax.{w128}
use mir.Val.{SFits}
use Rattle.goo_notice_json.specs.Fields.{integer_in}
use Rattle.goo_notice.specs.Transfer.{transfer_of}
use Rattle.goo_desk_body.proofs.Steps.{ends, past, refused, taken}
use Rattle.goo_desk_body.proofs.transfer.transfer.Goals as goal
use Rattle.goo_desk_body.proofs.transfer.transfer.Goals.{In_ok-giver, In_ok-taker}

fits_giver : (c : In_ok-giver) → SFits w128 c.in_ok-giver.giver
fits_giver c = search rules

fits_taker : (c : In_ok-taker) → SFits w128 c.in_ok-taker.taker
fits_taker c = search rules

pub returns-in_err-of_size : goal.returns-in_err-of_size
unfolding transfer_of
returns-in_err-of_size c = ends _ _ _ _ c.from_residual.ensures.1 c.in_err-of_size.ensures

pub returns-in_err-first : goal.returns-in_err-first
unfolding transfer_of
returns-in_err-first c = past _ _ _ _ c.in_ok-of_size.ensures (ends _ _ _ _ c.from_residual-in_err-first.ensures.1 c.in_err-first.ensures)

pub returns-in_err-giver : goal.returns-in_err-giver
unfolding transfer_of
returns-in_err-giver c = past _ _ _ _ c.in_ok-of_size.ensures (past _ _ _ _ c.in_ok-first.ensures (ends _ _ _ _ c.from_residual-in_err-giver.ensures.1 c.in_err-giver.ensures))

pub returns-in_err-last : goal.returns-in_err-last
unfolding transfer_of
returns-in_err-last c = past _ _ _ _ c.in_ok-of_size.ensures (past _ _ _ _ c.in_ok-first.ensures (past _ _ _ _ c.in_ok-giver.ensures (ends _ _ _ _ c.from_residual-in_err-last.ensures.1 c.in_err-last.ensures)))

pub returns-in_err-taker : goal.returns-in_err-taker
unfolding transfer_of
returns-in_err-taker c = past _ _ _ _ c.in_ok-of_size.ensures (past _ _ _ _ c.in_ok-first.ensures (past _ _ _ _ c.in_ok-giver.ensures (past _ _ _ _ c.in_ok-last.ensures (ends _ _ _ _ c.from_residual-in_err-taker.ensures.1 c.in_err-taker.ensures))))

pub returns-in_err-account_no : goal.returns-in_err-account_no
unfolding transfer_of
returns-in_err-account_no c = past _ _ _ _ c.in_ok-of_size.ensures (past _ _ _ _ c.in_ok-first.ensures (past _ _ _ _ c.in_ok-giver.ensures (past _ _ _ _ c.in_ok-last.ensures (past _ _ _ _ c.in_ok-taker.ensures (ends _ _ _ _ c.from_residual-in_err-account_no.ensures.1 (refused (integer_in 1 999999999) _ _ (fits_giver (goal.at.returns-in_err-account_no c).In_ok-giver) c.in_err-account_no.ensures))))))

pub returns-in_err-account_no-2 : goal.returns-in_err-account_no-2
unfolding transfer_of
returns-in_err-account_no-2 c = past _ _ _ _ c.in_ok-of_size.ensures (past _ _ _ _ c.in_ok-first.ensures (past _ _ _ _ c.in_ok-giver.ensures (past _ _ _ _ c.in_ok-last.ensures (past _ _ _ _ c.in_ok-taker.ensures (past _ _ _ _ (taken (integer_in 1 999999999) _ _ (fits_giver (goal.at.returns-in_err-account_no-2 c).In_ok-giver) c.in_ok-account_no.ensures) (ends _ _ _ _ c.from_residual-in_err-account_no-2.ensures.1 (refused (integer_in 1 999999999) _ _ (fits_taker (goal.at.returns-in_err-account_no-2 c).In_ok-taker) c.in_err-account_no-2.ensures)))))))

pub returns-in_err-range : goal.returns-in_err-range
unfolding transfer_of
returns-in_err-range c = past _ _ _ _ c.in_ok-of_size.ensures (past _ _ _ _ c.in_ok-first.ensures (past _ _ _ _ c.in_ok-giver.ensures (past _ _ _ _ c.in_ok-last.ensures (past _ _ _ _ c.in_ok-taker.ensures (past _ _ _ _ (taken (integer_in 1 999999999) _ _ (fits_giver (goal.at.returns-in_err-range c).In_ok-giver) c.in_ok-account_no.ensures) (past _ _ _ _ (taken (integer_in 1 999999999) _ _ (fits_taker (goal.at.returns-in_err-range c).In_ok-taker) c.in_ok-account_no-2.ensures) (ends _ _ _ _ c.from_residual-in_err-range.ensures.1 c.in_err-range.ensures)))))))
