use Rattle.std.proofs.Common.{rules}
use Rattle.goo_store_pieces.proofs.Found.{kept_one}
use Rattle.goo_store_pieces.proofs.pieces.read_maybe.Goals as goal

pub returns-in_err-read_beside-in-Some-clause-kept : goal.returns-in_err-read_beside-in-Some-clause-kept
returns-in_err-read_beside-in-Some-clause-kept c = kept_one c.args.found c.in-Some.row c.args.lots.now.items c.read_beside.new.lots.items (search rules) c.in_err-read_beside-in-Some.ensures.kept

pub returns-in_ok-read_beside-in-Some-clause-kept : goal.returns-in_ok-read_beside-in-Some-clause-kept
returns-in_ok-read_beside-in-Some-clause-kept c = kept_one c.args.found c.in-Some.row c.args.lots.now.items c.read_beside.new.lots.items (search rules) c.in_ok-read_beside-in-Some.ensures.kept
