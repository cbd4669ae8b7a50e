use Rattle.goo_store_plans.specs.EditsGathered.{HasNoNumber}
use Rattle.goo_store_plans.proofs.edit_changes.number_between.Given as goal

-- none stands between the first place and this one
abbrev pub invariant-loop-place : goal.invariant-loop-place
invariant-loop-place l = HasNoNumber l.found l.from l.place l.lot
