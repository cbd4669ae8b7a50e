use Rattle.std.proofs.Common.{refl}
use Rattle.std.specs.Bool.{one_answer}
use Rattle.goo_spec.specs.Same.{same_command}
use Rattle.goo_spec.proofs.Same.{Decides-same_command}
use Rattle.goo_core_list.proofs.listed_reply.ListedReply.receipt.Goals as goal

pub returns-then-is : goal.returns-then-is
returns-then-is c =
    let e = one_answer c.is.result (same_command c.self.inside.command c.args.command.now) c.is.ensures (Decides-same_command _ _) in
    rw (← c.self.view_is, ← e, c.if-is.true) refl

pub returns-else-is : goal.returns-else-is
returns-else-is c =
    let e = one_answer c.is.result (same_command c.self.inside.command c.args.command.now) c.is.ensures (Decides-same_command _ _) in
    rw (← c.self.view_is, ← e, c.if-is.false) refl
