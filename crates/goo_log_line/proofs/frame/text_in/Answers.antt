use Rattle.std.proofs.Common.{◌∙◌, sym}
use Rattle.goo_log_line.proofs.Cut.{too_short, not_framed}
use Rattle.goo_log_line.proofs.frame.text_in.Goals as goal

pub returns-then-line-name : goal.returns-then-line-name
returns-then-line-name c = λ text same. too_short c.args.line.now c.args.name.now c.args.key.now text c.if-line-name.true same

pub returns : goal.returns
returns c =
    λ text same.
    not_framed c.args.line.now c.args.name.now c.args.key.now c.as_slice.result.now (c.as_slice.ensures.value ∙ c.in_ok-again.ensures)
    (sym c.is_same.ensures ∙ c.if-is_same.false) text same
