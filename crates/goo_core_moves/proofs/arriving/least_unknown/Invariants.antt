use Rattle.std.proofs.Common.{◌≡◌, drop}
use Rattle.goo_core_moves.specs.Arrivals.{least_of, unknown_in}
use Rattle.goo_core_moves.proofs.arriving.least_unknown.Given as goal

abbrev pub invariant-loop-part : goal.invariant-loop-part
invariant-loop-part l = least_of (unknown_in l.own) l.arriving ≡ least_of (unknown_in l.own) (drop l.part-index l.arriving)
