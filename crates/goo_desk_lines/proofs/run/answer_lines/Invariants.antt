use Rattle.std.proofs.Common.{◌≡◌, ◌≤◌, ◌+◌, ◌++◌, length, map, Ok}
use Rattle.goo_desk_lines.specs.Lines.{lines_of, lines_left}
use Rattle.goo_desk_lines.specs.Stops.{LeavesDesk}
use Rattle.goo_desk_lines.proofs.AnswerFacts.{Stands}
use Rattle.goo_desk_lines.proofs.run.answer_lines.Given as goal

abbrev pub invariant-loop-line : goal.invariant-loop-line
invariant-loop-line g l = record {
  order : lines_of l.fn.input ≡ map (λ line. line.now) l.yielded ++ lines_left l.line-iterator.0;
  count : l.tally.good + l.tally.bad ≤ length l.yielded;
  desk : LeavesDesk (g.D.Desk.seen l.initial.desk) (g.D.Desk.seen l.desk) (Ok l.tally);
  answered : (g.D.Desk.seen l.desk).corruptions ≡ 0
      → Stands (g.D.Desk.seen l.initial.desk).state (g.D.Desk.seen l.desk).state (g.W.Write.contents l.initial.writer) (g.W.Write.contents l.writer) (map (λ line. line.now) l.yielded) l.tally;
}
