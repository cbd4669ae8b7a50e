use Rattle.std.proofs.Common.{◌≡◌, ◌<◌, ℕ}
use Rattle.sqlite.specs.Order.{column}
use Rattle.goo_store_anew.proofs.same.is_same_row.Given as goal

abbrev pub invariant-loop-at : goal.invariant-loop-at
invariant-loop-at l = (i : ℕ) → i < l.at → column l.one i ≡ column l.other i
