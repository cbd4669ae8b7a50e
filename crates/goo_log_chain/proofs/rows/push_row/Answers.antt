use Rattle.std.proofs.Common.{arith}
use Rattle.goo_log_chain.proofs.Lines.{digits_short}
use Rattle.goo_log_chain.proofs.rows.push_row.Goals as goal

pub push_row_at-requires : goal.push_row_at-requires
push_row_at-requires c = let n = c.digits-number.ensures in let s = digits_short c.args.line.now in omega (arith, n, s)
