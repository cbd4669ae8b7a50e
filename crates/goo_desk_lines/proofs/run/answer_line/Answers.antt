use Rattle.std.proofs.Common.{inl}
use Rattle.goo_desk_lines.proofs.Staying.{stays_still}
use Rattle.goo_desk_lines.proofs.run.answer_line.Goals as goal

-- where nothing was applied, a crash finds what was there
pub returns-in-Err-Unreadable-clause-crash : goal.returns-in-Err-Unreadable-clause-crash
returns-in-Err-Unreadable-clause-crash g c corruptions sure o may = inl (g.met.D.Desk.settled c.args.desk.now sure o may)

pub returns-in-Err-Memory-clause-crash : goal.returns-in-Err-Memory-clause-crash
returns-in-Err-Memory-clause-crash g c corruptions sure o may = inl (g.met.D.Desk.settled c.args.desk.now sure o may)

pub returns-in-Err-Unreadable-clause-stays : goal.returns-in-Err-Unreadable-clause-stays
returns-in-Err-Unreadable-clause-stays g c corruptions sure = stays_still (g.D.Desk.seen c.args.desk.now) sure

pub returns-in-Err-Memory-clause-stays : goal.returns-in-Err-Memory-clause-stays
returns-in-Err-Memory-clause-stays g c corruptions sure = stays_still (g.D.Desk.seen c.args.desk.now) sure
