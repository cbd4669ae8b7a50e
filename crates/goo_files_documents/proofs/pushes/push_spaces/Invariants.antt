use Rattle.std.proofs.Common.{◌≡◌, ◌++◌, ◌+◌, ◌≤◌, length, replicate}
use Rattle.goo_files_documents.proofs.pushes.push_spaces.Given as goal

abbrev pub invariant-loop : goal.invariant-loop
invariant-loop l = (l.out.bytes ≡ l.initial.out.bytes ++ replicate l.counter 32) × (length l.out.bytes ≤ length l.initial.out.bytes + l.counter)
