use Rattle.std.proofs.Common.{arith}
use Rattle.goo_log_chain.proofs.Lines.{byte_more, line_more}
use Rattle.goo_log_chain.proofs.rows.push_byte.Goals as goal

pub returns-then-report-index-ne10 : goal.returns-then-report-index-ne10
returns-then-report-index-ne10 c =
    let begun = c.requires.begun in (
      omega (arith, begun),
      byte_more c.args.report.now c.args.out.now.items c.args.start c.args.index begun c.requires.inside c.if-report-index-ne10.true,
    )

pub returns : goal.returns
returns c =
    rw (c.in_ok-extend_from_slice.ensures.items, c.in_ok-push_row.ensures) (
      omega arith,
      line_more c.args.report.now c.args.out.now.items c.args.start c.args.index c.requires.inside c.if-report-index-ne10.false,
    )
