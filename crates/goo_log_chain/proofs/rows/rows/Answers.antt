use Rattle.std.proofs.Common.{◌∙◌, ◌++◌, sym, ap}
use Rattle.goo_log_chain.proofs.Lines.{last_line, whole_rest}
use Rattle.goo_log_chain.specs.Rows.{row}
use Rattle.goo_log_chain.proofs.rows.rows.Goals as goal

pub returns : goal.returns
returns c =
    c.in_ok-push_row.ensures
    ∙ ap (λ l. c.loop-index.out.items ++ row l) (whole_rest c.args.report.now c.loop-index.start)
    ∙ sym (last_line c.args.report.now c.loop-index.out.items c.loop-index.start c.loop-index.index c.loop-index.invariant.begun c.loop-index-test.false)
    ∙ c.loop-index.invariant.left
