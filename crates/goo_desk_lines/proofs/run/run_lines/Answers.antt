use Rattle.std.proofs.Common.{rules, IsErrAnd, ◌≡◌, inl}
use Rattle.goo_desk_lines.specs.Faults.{of_reading}
use Rattle.goo_desk_lines.proofs.AnswerFacts.{told_by_reader, turns_down}
use Rattle.goo_desk_lines.proofs.DurableFacts.{on_ok_failed}
use Rattle.goo_desk_lines.proofs.Staying.{stays_still}
use Rattle.goo_desk_lines.proofs.run.run_lines.Goals as goal

pub returns-in_err-input-clause-runs : goal.returns-in_err-input-clause-runs
returns-in_err-input-clause-runs g c =
    let is : IsErrAnd c.from_residual.result (λ e. e ≡ of_reading c.in_err-input.field-0.0) = search rules in
    turns_down c.in_err-input.field-0.0 c.from_residual.result (g.D.Desk.seen c.args.desk.now) (g.W.Write.contents c.args.writer.now) (g.D.Desk.leaves c.args.desk.now)
    (g.R.Read.remaining c.args.reader.now) (g.R.Read.remaining c.read_whole.new.reader) 16777216 is c.in_err-input.ensures

pub returns-clause-runs : goal.returns-clause-runs
returns-clause-runs g c = inl (record { input = c.in_ok-input.input.items; read = c.in_ok-input.ensures; fault = c.answer_lines.ensures.kinds; answered = search rules })

pub returns-in_err-input-clause-desk : goal.returns-in_err-input-clause-desk
returns-in_err-input-clause-desk g c =
    let is : IsErrAnd c.from_residual.result (λ e. e ≡ of_reading c.in_err-input.field-0.0) = search rules in
    record {
      corruptions_stay = λ below. below;
      told = λ none. told_by_reader c.in_err-input.field-0.0 c.from_residual.result _ is none;
      works = λ below sure. on_ok_failed c.from_residual.result _ _ is;
      stays = λ below sure. stays_still (g.D.Desk.seen c.args.desk.now) sure;
    }

pub returns-clause-desk : goal.returns-clause-desk
returns-clause-desk g c = c.answer_lines.ensures.desk
