use Rattle.std.proofs.Common.{◌≡◌, ◌*◌, ◌≤◌, take}
use Rattle.std.specs.Prelude.{sum_by}
use Rattle.goo_spec.specs.Maps.{count_of}
use Rattle.goo_core_judges.proofs.import.count_in_all.Given as goal

abbrev pub invariant-loop-part : goal.invariant-loop-part
invariant-loop-part l = record {
  so_far : l.count ≡ sum_by (λ p. count_of p.range) (take l.part-index l.parts);
  small : l.count ≤ l.part-index * 100_000_000_000_000;
}
