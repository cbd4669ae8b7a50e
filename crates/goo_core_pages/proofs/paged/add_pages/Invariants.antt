use Rattle.std.proofs.Common.{◌≡◌, ◌+◌, ◌≤◌}
use Rattle.std.specs.Vec.{vec_len, vec_capacity}
use Rattle.goo_core_pages.proofs.paged.add_pages.Given as goal

abbrev pub invariant-loop : goal.invariant-loop
invariant-loop l = record {
  len : vec_len l.spare ≡ vec_len l.fn.spare + l.counter;
  capacity : vec_capacity l.fn.spare ≤ vec_capacity l.spare;
  limit : l.counter ≤ l.count;
}
