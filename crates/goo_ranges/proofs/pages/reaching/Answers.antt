use Rattle.std.proofs.lemmas.List.{take_rest}
use Rattle.goo_ranges.proofs.Paging.{left-from_count}
use Rattle.goo_ranges.proofs.pages.reaching.Goals as goal

pub returns : goal.returns
returns c =
    let below = rw c.get.ensures.value at c.count_before-begin.ensures.below in
    rw take_rest (left-from_count c.args.pages.now c.count_before-begin.result c.args.number c.requires.rising below)
