use Rattle.std.proofs.Common.{◌≡◌, take}
use Rattle.goo_store_anew.proofs.same.are_same.Given as goal

abbrev pub invariant-loop-at : goal.invariant-loop-at
invariant-loop-at l = take l.at l.ones ≡ take l.at l.others
