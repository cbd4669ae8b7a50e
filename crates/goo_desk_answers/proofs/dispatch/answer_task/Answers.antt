use Rattle.goo_desk_answers.proofs.DurableFacts.{applied_led}
use Rattle.goo_desk_answers.proofs.dispatch.answer_task.Goals as goal

pub returns-in-Apply-clause-crash : goal.returns-in-Apply-clause-crash
returns-in-Apply-clause-crash g c runs corruptions sure =
    rw c.in-Apply.is (applied_led (g.D.Desk.leaves c.answer_apply.new.desk) (g.D.Desk.seen c.args.desk.now).state c.args.caller.now c.args.body.now (c.answer_apply.ensures.crash corruptions sure))
