use Rattle.std.proofs.Common.{◌∷◌, []}
use Rattle.std.proofs.lemmas.Result.{on_err_weaker}
use Rattle.goo_files_streams.proofs.AppendsFacts.{prefix-front, prefix-more}
use Rattle.goo_desk_lines.proofs.AnswerFacts.{on_err}
use Rattle.goo_desk_lines.proofs.run.write_line.Goals as goal

pub returns-in_err-write_whole-clause-prefix : goal.returns-in_err-write_whole-clause-prefix
returns-in_err-write_whole-clause-prefix g c =
    on_err c.from_residual.result (prefix-front (g.W.Write.contents c.args.writer.now) (g.W.Write.contents c.write_whole.new.writer) c.args.text.now (10 ∷ []) c.in_err-write_whole.ensures.prefix)

pub returns-clause-prefix : goal.returns-clause-prefix
returns-clause-prefix g c =
    on_err_weaker c.write_whole-2.result (prefix-more (g.W.Write.contents c.args.writer.now) (g.W.Write.contents c.write_whole.new.writer) (g.W.Write.contents c.write_whole-2.new.writer) c.args.text.now (10 ∷ []) c.in_ok-write_whole.ensures.written) c.write_whole-2.ensures.prefix
