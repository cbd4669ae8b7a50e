use Rattle.goo_core_pages.proofs.OrderLemmas.{order-rising}
use Rattle.goo_core_list.proofs.rows.Rows.edit.Goals as goal

pub edit_each-requires-clause-order : goal.edit_each-requires-clause-order
edit_each-requires-clause-order c = order-rising 0 _ c.self.invariant
