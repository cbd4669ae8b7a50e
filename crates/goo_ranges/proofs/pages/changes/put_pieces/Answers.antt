use Rattle.std.proofs.Common.{◌++◌, take, drop, ap, ◌∙◌}
use Rattle.std.proofs.lemmas.Result.{on_ok_weaker}
use Rattle.goo_ranges.specs.Paging.{joined}
use Rattle.goo_ranges.proofs.Paging.{joined-put, filled-either}
use Rattle.goo_ranges.proofs.pages.changes.put_pieces.Goals as goal

pub returns-clause-ok : goal.returns-clause-ok
returns-clause-ok c =
    let xs = c.args.pages.now.items in
    let from = c.args.from in
    let to = c.args.to in
    let more = c.in_ok-more.more.items in
    on_ok_weaker c.put_pages.result (λ e. ap joined e ∙ joined-put xs more from to ∙ ap (λ l. joined (take from xs) ++ (l ++ joined (drop to xs))) c.in_ok-more.ensures.pieces) c.put_pages.ensures.ok

pub returns-clause-filled : goal.returns-clause-filled
returns-clause-filled c =
    filled-either c.put_pages.result c.args.pages.now.items c.put_pages.new.pages.items c.in_ok-more.more.items c.args.from c.args.to c.requires.filled c.in_ok-more.ensures.filled c.put_pages.ensures.ok c.put_pages.ensures.err
