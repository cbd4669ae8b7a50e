use Rattle.std.proofs.Common.{◌≡◌, ℕ, List, None, take}
use Rattle.std.specs.BTreeMap.{get}
use Rattle.goo_spec.specs.Declare.{declared_by, last_end}
use Rattle.goo_spec.specs.State.{text_cmp}
use Rattle.goo_store_rules.specs.Production.{DoPeriodsRise}
use Rattle.goo_store_rules.proofs.periods.last_days.Given as goal

abbrev pub invariant-loop-period : goal.invariant-loop-period
invariant-loop-period l = record {
  ends : (q : List ℕ) → get text_cmp l.ends q ≡ last_end None (declared_by q (take l.period-index l.declared));
  rising : DoPeriodsRise (take l.period-index l.declared);
}
