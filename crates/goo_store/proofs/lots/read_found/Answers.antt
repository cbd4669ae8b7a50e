use Rattle.std.proofs.Common.{rules}
use Rattle.goo_store_pieces.proofs.Found.{kept_row}
use Rattle.goo_store.proofs.lots.read_found.Goals as goal

pub returns-in_err-read_kept-in-Some-clause-kept : goal.returns-in_err-read_kept-in-Some-clause-kept
returns-in_err-read_kept-in-Some-clause-kept c = kept_row c.args.found c.in-Some.row c.args.lots.now.items c.read_kept.new.lots.items (search rules) c.in_err-read_kept-in-Some.ensures.kept

pub returns-in_ok-read_kept-in-Some-clause-kept : goal.returns-in_ok-read_kept-in-Some-clause-kept
returns-in_ok-read_kept-in-Some-clause-kept c = kept_row c.args.found c.in-Some.row c.args.lots.now.items c.read_kept.new.lots.items (search rules) c.in_ok-read_kept-in-Some.ensures.kept
