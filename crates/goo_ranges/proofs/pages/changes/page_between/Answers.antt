use Rattle.goo_ranges.proofs.Paging.{between-rises}
use Rattle.goo_ranges.proofs.pages.changes.page_between.Goals as goal

pub joined_page-requires : goal.joined_page-requires
joined_page-requires c = rw c.deref.ensures.value (between-rises c.args.pages.now.items c.args.from c.args.to c.requires.order c.requires.rising)
