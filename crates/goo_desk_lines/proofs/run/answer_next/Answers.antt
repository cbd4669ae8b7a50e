use Rattle.std.proofs.Common.{rules, ◌<◌, ◌≡◌, length, IsErrAnd}
use Rattle.goo_desk_lines.specs.Faults.{of_desk}
use Rattle.goo_desk_lines.specs.declared.answer.LineAnswer.{LineAnswer}
use Rattle.goo_desk_lines.specs.declared.lines_fault.LinesFault.TheVariants.{Write}
use Rattle.goo_desk_lines.proofs.AnswerFacts.{answers-good, answers-bad, told_by_desk}
use Rattle.goo_desk_lines.proofs.DurableFacts.{begun_next, found_begun, found_done, found_empty, found_failed, on_ok_failed, passed_over}
use Rattle.goo_desk_lines.proofs.Staying.{stays_still}
use Rattle.goo_desk_lines.proofs.run.answer_next.Goals as goal

pub returns-then-is_empty-clause-found : goal.returns-then-is_empty-clause-found
returns-then-is_empty-clause-found g c corruptions sure =
    let none : length c.args.line.now ≡ 0 = search rules in
    found_empty c.args.line.now (g.D.Desk.seen c.args.desk.now).state (g.D.Desk.leaves c.args.desk.now) none (g.met.D.Desk.settled c.args.desk.now sure)

pub returns-then-is_empty-clause-desk : goal.returns-then-is_empty-clause-desk
returns-then-is_empty-clause-desk g c = record {
  corruptions_stay = λ below. below;
  told = λ none. none;
  works = λ below sure. sure;
  stays = λ below sure. stays_still (g.D.Desk.seen c.args.desk.now) sure;
}

pub returns-in_err-answer-clause-answered : goal.returns-in_err-answer-clause-answered
returns-in_err-answer-clause-answered g c below =
    let is : IsErrAnd c.from_residual.result (λ e. e ≡ of_desk c.in_err-answer.field-0.0) = search rules in
    passed_over c.from_residual.result c.in_err-answer.field-0.0 c.args.line.now (g.D.Desk.seen c.args.desk.now).state (g.D.Desk.seen c.answer_line.new.desk) c.args.tally.now c.args.tally.now (g.W.Write.contents c.args.writer.now)
    is c.in_err-answer.ensures.unchanged

pub returns-in_err-answer-clause-found : goal.returns-in_err-answer-clause-found
returns-in_err-answer-clause-found g c corruptions sure =
    let some : 0 < length c.args.line.now = search rules in
    let is : IsErrAnd c.from_residual.result (λ e. e ≡ of_desk c.in_err-answer.field-0.0) = search rules in
    found_failed c.from_residual.result c.in_err-answer.field-0.0 c.args.line.now (g.D.Desk.seen c.args.desk.now).state (g.D.Desk.leaves c.answer_line.new.desk) is some (c.answer_line.ensures.crash corruptions sure)

pub returns-in_err-answer-clause-desk : goal.returns-in_err-answer-clause-desk
returns-in_err-answer-clause-desk g c =
    let is : IsErrAnd c.from_residual.result (λ e. e ≡ of_desk c.in_err-answer.field-0.0) = search rules in
    record {
      corruptions_stay = c.answer_line.ensures.corruptions_stay;
      told = λ none. told_by_desk LineAnswer c.in_err-answer.field-0.0 c.from_residual.result _ is (c.in_err-answer.ensures.told none);
      works = λ below sure. on_ok_failed c.from_residual.result _ _ is;
      stays = c.answer_line.ensures.stays;
    }

-- a beginning of the answer was written
pub returns-in_err-write_line-clause-answered : goal.returns-in_err-write_line-clause-answered
returns-in_err-write_line-clause-answered g c below =
    let some : 0 < length c.args.line.now = search rules in
    let is : IsErrAnd c.from_residual-in_err-write_line.result (λ e. e ≡ Write) = search rules in
    begun_next c.from_residual-in_err-write_line.result c.args.line.now (g.D.Desk.seen c.args.desk.now).state (g.D.Desk.seen c.answer_line.new.desk) c.in_ok-answer.answer c.args.tally.now c.args.tally.now
    (g.W.Write.contents c.args.writer.now) (g.W.Write.contents c.write_line.new.writer) is some
    (c.in_ok-answer.ensures.answer below) (c.in_ok-answer.ensures.state below) (search rules)

pub returns-in_err-write_line-clause-found : goal.returns-in_err-write_line-clause-found
returns-in_err-write_line-clause-found g c corruptions sure =
    let some : 0 < length c.args.line.now = search rules in
    let is : IsErrAnd c.from_residual-in_err-write_line.result (λ e. e ≡ Write) = search rules in
    found_begun c.from_residual-in_err-write_line.result c.args.line.now (g.D.Desk.seen c.args.desk.now).state (g.D.Desk.seen c.answer_line.new.desk).state (g.D.Desk.leaves c.answer_line.new.desk) is some
    (c.in_ok-answer.ensures.state corruptions) (g.met.D.Desk.settled c.answer_line.new.desk (c.in_ok-answer.ensures.works corruptions sure))

pub returns-in_err-write_line-clause-desk : goal.returns-in_err-write_line-clause-desk
returns-in_err-write_line-clause-desk g c =
    let is : IsErrAnd c.from_residual-in_err-write_line.result (λ e. e ≡ Write) = search rules in
    record {
      corruptions_stay = c.answer_line.ensures.corruptions_stay;
      told = λ none. search rules;
      works = λ below sure. on_ok_failed c.from_residual-in_err-write_line.result _ _ is;
      stays = c.answer_line.ensures.stays;
    }

-- the whole of it was
pub returns-then-is_good-clause-answered : goal.returns-then-is_good-clause-answered
returns-then-is_good-clause-answered g c true-below =
    let some : 0 < length c.args.line.now = search rules in
    answers-good (g.D.Desk.seen c.args.desk.now).state (g.D.Desk.seen c.answer_line.new.desk).state c.args.tally.now c.args.line.now c.in_ok-answer.answer
    (g.W.Write.contents c.args.writer.now) (g.W.Write.contents c.write_line.new.writer) some
    (c.in_ok-answer.ensures.answer true-below) (c.in_ok-answer.ensures.state true-below) (search rules) (search rules)

pub returns-else-is_good-clause-answered : goal.returns-else-is_good-clause-answered
returns-else-is_good-clause-answered g c true-below =
    let some : 0 < length c.args.line.now = search rules in
    answers-bad (g.D.Desk.seen c.args.desk.now).state (g.D.Desk.seen c.answer_line.new.desk).state c.args.tally.now c.args.line.now c.in_ok-answer.answer
    (g.W.Write.contents c.args.writer.now) (g.W.Write.contents c.write_line.new.writer) some
    (c.in_ok-answer.ensures.answer true-below) (c.in_ok-answer.ensures.state true-below) (search rules) (search rules)

pub returns-then-is_good-clause-found : goal.returns-then-is_good-clause-found
returns-then-is_good-clause-found g c corruptions sure =
    let some : 0 < length c.args.line.now = search rules in
    found_done c.args.line.now (g.D.Desk.seen c.args.desk.now).state (g.D.Desk.seen c.answer_line.new.desk).state (g.D.Desk.leaves c.answer_line.new.desk) some
    (c.in_ok-answer.ensures.state corruptions) (g.met.D.Desk.settled c.answer_line.new.desk (c.in_ok-answer.ensures.works corruptions sure))

pub returns-else-is_good-clause-found : goal.returns-else-is_good-clause-found
returns-else-is_good-clause-found g c corruptions sure =
    let some : 0 < length c.args.line.now = search rules in
    found_done c.args.line.now (g.D.Desk.seen c.args.desk.now).state (g.D.Desk.seen c.answer_line.new.desk).state (g.D.Desk.leaves c.answer_line.new.desk) some
    (c.in_ok-answer.ensures.state corruptions) (g.met.D.Desk.settled c.answer_line.new.desk (c.in_ok-answer.ensures.works corruptions sure))

pub returns-then-is_good-clause-desk : goal.returns-then-is_good-clause-desk
returns-then-is_good-clause-desk g c = record {
  corruptions_stay = c.answer_line.ensures.corruptions_stay;
  told = c.in_ok-answer.ensures.told;
  works = c.in_ok-answer.ensures.works;
  stays = c.answer_line.ensures.stays;
}

pub returns-else-is_good-clause-desk : goal.returns-else-is_good-clause-desk
returns-else-is_good-clause-desk g c = record {
  corruptions_stay = c.answer_line.ensures.corruptions_stay;
  told = c.in_ok-answer.ensures.told;
  works = c.in_ok-answer.ensures.works;
  stays = c.answer_line.ensures.stays;
}
