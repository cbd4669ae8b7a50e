use Rattle.goo_core_pages.proofs.PageLemmas.{in_order-sorted}
use Rattle.goo_core_pages.proofs.page.RowPage.put_in.Goals as goal

pub put_in-put-requires : goal.put_in-put-requires
put_in-put-requires c = record { sorted = in_order-sorted 0 c.self.inside.rows.items (rw c.self.view_is c.requires.order) }
