use Rattle.std.proofs.Common.{rules}
use mir.Syntax.{w128}
use mir.Val.{SFits}
use Rattle.goo_notice_json.specs.Fields.{integer_in}
use Rattle.goo_notice.specs.Export.{export_of}
use Rattle.goo_desk_body.proofs.Steps.{ends, past, refused, taken}
use Rattle.goo_desk_body.proofs.export.export.Goals as goal
use Rattle.goo_desk_body.proofs.export.export.Goals.{In_ok-account, In_ok-giver, In_ok-peer}

fits_giver : (c : In_ok-giver) → SFits w128 c.in_ok-giver.giver
fits_giver c = search rules

fits_peer : (c : In_ok-peer) → SFits w128 c.in_ok-peer.peer
fits_peer c = search rules

fits_account : (c : In_ok-account) → SFits w128 c.in_ok-account.account
fits_account c = search rules

pub returns-in_err-of_size : goal.returns-in_err-of_size
unfolding export_of
returns-in_err-of_size c = ends _ _ _ _ c.from_residual.ensures.1 c.in_err-of_size.ensures

pub returns-in_err-account : goal.returns-in_err-account
unfolding export_of
returns-in_err-account c = past _ _ _ _ c.in_ok-of_size.ensures (ends _ _ _ _ c.from_residual-in_err-account.ensures.1 c.in_err-account.ensures)

pub returns-in_err-first : goal.returns-in_err-first
unfolding export_of
returns-in_err-first c = past _ _ _ _ c.in_ok-of_size.ensures (past _ _ _ _ c.in_ok-account.ensures (ends _ _ _ _ c.from_residual-in_err-first.ensures.1 c.in_err-first.ensures))

pub returns-in_err-giver : goal.returns-in_err-giver
unfolding export_of
returns-in_err-giver c = past _ _ _ _ c.in_ok-of_size.ensures (past _ _ _ _ c.in_ok-account.ensures (past _ _ _ _ c.in_ok-first.ensures (ends _ _ _ _ c.from_residual-in_err-giver.ensures.1 c.in_err-giver.ensures)))

pub returns-in_err-last : goal.returns-in_err-last
unfolding export_of
returns-in_err-last c = past _ _ _ _ c.in_ok-of_size.ensures (past _ _ _ _ c.in_ok-account.ensures (past _ _ _ _ c.in_ok-first.ensures (past _ _ _ _ c.in_ok-giver.ensures (ends _ _ _ _ c.from_residual-in_err-last.ensures.1 c.in_err-last.ensures))))

pub returns-in_err-peer : goal.returns-in_err-peer
unfolding export_of
returns-in_err-peer c = past _ _ _ _ c.in_ok-of_size.ensures (past _ _ _ _ c.in_ok-account.ensures (past _ _ _ _ c.in_ok-first.ensures (past _ _ _ _ c.in_ok-giver.ensures (past _ _ _ _ c.in_ok-last.ensures (ends _ _ _ _ c.from_residual-in_err-peer.ensures.1 c.in_err-peer.ensures)))))

pub returns-in_err-account_no : goal.returns-in_err-account_no
unfolding export_of
returns-in_err-account_no c = past _ _ _ _ c.in_ok-of_size.ensures (past _ _ _ _ c.in_ok-account.ensures (past _ _ _ _ c.in_ok-first.ensures (past _ _ _ _ c.in_ok-giver.ensures (past _ _ _ _ c.in_ok-last.ensures (past _ _ _ _ c.in_ok-peer.ensures (ends _ _ _ _ c.from_residual-in_err-account_no.ensures.1 (refused (integer_in 1 999999999) _ _ (fits_giver (goal.at.returns-in_err-account_no c).In_ok-giver) c.in_err-account_no.ensures)))))))

pub returns-in_err-registry_code : goal.returns-in_err-registry_code
unfolding export_of
returns-in_err-registry_code c = past _ _ _ _ c.in_ok-of_size.ensures (past _ _ _ _ c.in_ok-account.ensures (past _ _ _ _ c.in_ok-first.ensures (past _ _ _ _ c.in_ok-giver.ensures (past _ _ _ _ c.in_ok-last.ensures (past _ _ _ _ c.in_ok-peer.ensures (past _ _ _ _ (taken (integer_in 1 999999999) _ _ (fits_giver (goal.at.returns-in_err-registry_code c).In_ok-giver) c.in_ok-account_no.ensures) (ends _ _ _ _ c.from_residual-in_err-registry_code.ensures.1 (refused (integer_in 1 99) _ _ (fits_peer (goal.at.returns-in_err-registry_code c).In_ok-peer) c.in_err-registry_code.ensures))))))))

pub returns-in_err-account_no-2 : goal.returns-in_err-account_no-2
unfolding export_of
returns-in_err-account_no-2 c = past _ _ _ _ c.in_ok-of_size.ensures (past _ _ _ _ c.in_ok-account.ensures (past _ _ _ _ c.in_ok-first.ensures (past _ _ _ _ c.in_ok-giver.ensures (past _ _ _ _ c.in_ok-last.ensures (past _ _ _ _ c.in_ok-peer.ensures (past _ _ _ _ (taken (integer_in 1 999999999) _ _ (fits_giver (goal.at.returns-in_err-account_no-2 c).In_ok-giver) c.in_ok-account_no.ensures) (past _ _ _ _ (taken (integer_in 1 99) _ _ (fits_peer (goal.at.returns-in_err-account_no-2 c).In_ok-peer) c.in_ok-registry_code.ensures) (ends _ _ _ _ c.from_residual-in_err-account_no-2.ensures.1 (refused (integer_in 1 999999999) _ _ (fits_account (goal.at.returns-in_err-account_no-2 c).In_ok-account) c.in_err-account_no-2.ensures)))))))))

pub returns-in_err-range : goal.returns-in_err-range
unfolding export_of
returns-in_err-range c = past _ _ _ _ c.in_ok-of_size.ensures (past _ _ _ _ c.in_ok-account.ensures (past _ _ _ _ c.in_ok-first.ensures (past _ _ _ _ c.in_ok-giver.ensures (past _ _ _ _ c.in_ok-last.ensures (past _ _ _ _ c.in_ok-peer.ensures (past _ _ _ _ (taken (integer_in 1 999999999) _ _ (fits_giver (goal.at.returns-in_err-range c).In_ok-giver) c.in_ok-account_no.ensures) (past _ _ _ _ (taken (integer_in 1 99) _ _ (fits_peer (goal.at.returns-in_err-range c).In_ok-peer) c.in_ok-registry_code.ensures) (past _ _ _ _ (taken (integer_in 1 999999999) _ _ (fits_account (goal.at.returns-in_err-range c).In_ok-account) c.in_ok-account_no-2.ensures) (ends _ _ _ _ c.from_residual-in_err-range.ensures.1 c.in_err-range.ensures)))))))))
