use Rattle.std.proofs.Common.{arith}
use Rattle.goo_ranges.proofs.Keeping.{last-end}
use Rattle.goo_ranges.proofs.cutting.last_number.Goals as goal

pub returns-in-Some : goal.returns-in-Some
returns-in-Some c = let e = last-end 0 c.args.pieces.now c.in-Some.piece.now c.in-Some.ensures.value in omega arith
