use Rattle.std.proofs.Common.{◌≡◌, drop}
use Rattle.goo_core_moves.specs.Arrivals.{least_of, differing_in}
use Rattle.goo_core_moves.proofs.arriving.least_differing.Given as goal

abbrev pub invariant-loop-part : goal.invariant-loop-part
invariant-loop-part l = least_of differing_in l.arriving ≡ least_of differing_in (drop l.part-index l.arriving)
