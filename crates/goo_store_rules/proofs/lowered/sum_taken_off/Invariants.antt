use Rattle.std.proofs.Common.{◌≡◌, ◌≤◌, ◌*◌, ◌^◌, ℕ, List, take}
use Rattle.std.specs.Prelude.{sum_by}
use Rattle.goo_types.specs.Day.{CalendarDay}
use Rattle.goo_store_rules.specs.Correcting.{taken_at, less_at}
use Rattle.goo_store_rules.proofs.lowered.sum_taken_off.Given as goal

abbrev pub invariant-loop-correction : goal.invariant-loop-correction
invariant-loop-correction l = record {
  sums : (device : List ℕ) (first_day : CalendarDay) → taken_at l.sums device first_day ≡ sum_by (less_at device first_day) (take l.correction-index l.corrected);
  small : (device : List ℕ) (first_day : CalendarDay) → taken_at l.sums device first_day ≤ 2 ^ 64 * l.correction-index;
}
