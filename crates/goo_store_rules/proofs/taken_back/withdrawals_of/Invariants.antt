use Rattle.std.proofs.Common.{take}
use Rattle.goo_store_rules.specs.Correcting.{AreTakenBack}
use Rattle.goo_store_rules.proofs.taken_back.withdrawals_of.Given as goal

abbrev pub invariant-loop-correction : goal.invariant-loop-correction
invariant-loop-correction l = AreTakenBack (take l.correction-index l.corrected) l.set
