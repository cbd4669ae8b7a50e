use Rattle.goo_cli_ending.proofs.EndingLemmas.{flushed_from, of_lines, told_from}
use Rattle.goo_cli_ending.proofs.RunFacts.{after_input, runs_input}
use Rattle.goo_cli_ending.proofs.answering.answer_input.Goals as goal

pub returns-clause-runs : goal.returns-clause-runs
returns-clause-runs g c honest =
    rw c.of_run.ensures (runs_input (g.D.Desk.seen c.args.desk.now) (g.D.Desk.seen c.run_lines-answered.new.desk) _ _ _ (g.D.Desk.leaves c.run_lines-answered.new.desk) (g.R.Read.remaining c.args.reader.now) (g.R.Read.remaining c.run_lines-answered.new.reader)
    c.flush.ensures.bytes c.run_lines-answered.result c.is_ok-flushed.result c.run_lines-answered.ensures.runs honest (g.met.D.Desk.settled c.run_lines-answered.new.desk))

pub returns-clause-read : goal.returns-clause-read
returns-clause-read g c told =
    after_input (g.D.Desk.seen c.args.desk.now) (g.D.Desk.seen c.run_lines-answered.new.desk) _ _ _ (g.D.Desk.leaves c.run_lines-answered.new.desk) (g.R.Read.remaining c.args.reader.now) (g.R.Read.remaining c.run_lines-answered.new.reader)
    c.flush.ensures.bytes c.run_lines-answered.result c.is_ok-flushed.result c.run_lines-answered.ensures.runs (rw c.of_run.ensures at told)

pub returns-clause-words : goal.returns-clause-words
returns-clause-words g c = rw c.of_run.ensures (of_lines c.run_lines-answered.result c.is_ok-flushed.result)

pub returns-clause-flushed : goal.returns-clause-flushed
returns-clause-flushed g c = rw c.of_run.ensures (flushed_from _ c.run_lines-answered.result c.is_ok-flushed.result c.flush.result c.is_ok-flushed.ensures.value c.flush.ensures.ok)

pub returns-clause-told : goal.returns-clause-told
returns-clause-told g c fresh = rw c.of_run.ensures (told_from c.run_lines-answered.result c.is_ok-flushed.result _ (c.run_lines-answered.ensures.desk.told fresh))

pub returns-clause-corruptions_stay : goal.returns-clause-corruptions_stay
returns-clause-corruptions_stay g c = c.run_lines-answered.ensures.desk.corruptions_stay
