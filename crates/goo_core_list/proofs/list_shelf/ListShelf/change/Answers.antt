use Rattle.goo_spec.proofs.Correcting.{withdrawal_passes}
use Rattle.goo_spec.proofs.Allowed.{account_left, cancellation_left, withdrawal_left, notice_left, serials_left, lot_fits}
use Rattle.goo_core_list.specs.States.{state_of}
use Rattle.goo_core_list.proofs.list_shelf.ListShelf.change.Goals as goal

pub add_account-requires : goal.add_account-requires
add_account-requires c = account_left (state_of c.args.self.now) c.args.plan.now.request.caller c.in-OpenAccount.command (rw c.in-OpenAccount.is at c.requires.allowed)

pub add_declaration-requires-clause-lot : goal.add_declaration-requires-clause-lot
add_declaration-requires-clause-lot c = lot_fits (state_of c.args.self.now) c.args.plan.now.request.caller c.in-Declare.command (rw c.in-Declare.is at c.requires.allowed)

pub add_declaration-requires-clause-numbers_left : goal.add_declaration-requires-clause-numbers_left
add_declaration-requires-clause-numbers_left c = serials_left (state_of c.args.self.now) c.args.plan.now.request.caller c.in-Declare.command (rw c.in-Declare.is at c.requires.allowed)

pub add_correction-requires : goal.add_correction-requires
add_correction-requires c = λ range is.
    let s = state_of c.args.self.now in
    let caller = c.args.plan.now.request.caller in
    withdrawal_left s caller (record { range = range; reason = c.in-Correct.command.reason }) (withdrawal_passes s caller c.in-Correct.command range is (rw c.in-Correct.is at c.requires.allowed))

pub add_cancellation-requires : goal.add_cancellation-requires
add_cancellation-requires c = cancellation_left (state_of c.args.self.now) c.args.plan.now.request.caller c.in-Cancel.command (rw c.in-Cancel.is at c.requires.allowed)

pub add_withdrawal-requires : goal.add_withdrawal-requires
add_withdrawal-requires c = withdrawal_left (state_of c.args.self.now) c.args.plan.now.request.caller c.in-Withdraw.command (rw c.in-Withdraw.is at c.requires.allowed)

pub add_notice-requires-clause-numbers_left : goal.add_notice-requires-clause-numbers_left
add_notice-requires-clause-numbers_left c = notice_left (state_of c.args.self.now) c.args.plan.now.request.caller c.in-Export.command (rw c.in-Export.is at c.requires.allowed)
