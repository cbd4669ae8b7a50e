use Rattle.goo_store_pieces.proofs.Found.{beside_states}
use Rattle.goo_store_pieces.proofs.pieces.read_beside.Goals as goal

pub returns-in_err-keep_lot-clause-kept : goal.returns-in_err-keep_lot-clause-kept
returns-in_err-keep_lot-clause-kept c lots are each = c.in_err-keep_lot.ensures.kept lots are (beside_states lots c.args.row.now c.in_ok-piece.piece c.in_ok-piece.ensures.value each)

pub returns-clause-kept : goal.returns-clause-kept
returns-clause-kept c lots are each = c.in_ok-keep_lot.ensures.kept lots are (beside_states lots c.args.row.now c.in_ok-piece.piece c.in_ok-piece.ensures.value each)
