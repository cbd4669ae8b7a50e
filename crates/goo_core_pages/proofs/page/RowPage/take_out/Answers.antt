use Rattle.goo_core_pages.proofs.PageLemmas.{in_order-sorted}
use Rattle.goo_core_pages.proofs.page.RowPage.take_out.Goals as goal

pub take_out-requires : goal.take_out-requires
take_out-requires c = record { sorted = in_order-sorted 0 c.self.inside.rows.items (rw c.self.view_is c.requires) }
