use Rattle.goo_store_pieces.proofs.Found.{row_states}
use Rattle.goo_store.proofs.lots.read_kept.Goals as goal

pub returns-in_err-keep_lot-clause-kept : goal.returns-in_err-keep_lot-clause-kept
returns-in_err-keep_lot-clause-kept c lots are there = c.in_err-keep_lot.ensures.kept lots are (row_states lots c.args.row.now c.in_ok-lot.lot c.in_ok-lot.ensures.value there)

pub returns-clause-kept : goal.returns-clause-kept
returns-clause-kept c lots are there = c.in_ok-keep_lot.ensures.kept lots are (row_states lots c.args.row.now c.in_ok-lot.lot c.in_ok-lot.ensures.value there)
