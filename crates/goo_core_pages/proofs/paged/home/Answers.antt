use Rattle.goo_core_pages.proofs.OrderLemmas.{home-is}
use Rattle.goo_core_pages.proofs.paged.home.Goals as goal

pub returns : goal.returns
returns c =
    let below = rw c.get.ensures.value at c.count_before.ensures.below in
    let reaches = rw c.get.ensures.value at c.count_before.ensures.reaches in
    rw c.min.ensures (home-is c.args.number c.args.pages.now c.count_before.result c.requires.some c.count_before.ensures.bound below reaches)
