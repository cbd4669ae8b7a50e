use Rattle.std.proofs.Common.{◌-◌, ◌≤◌, length}
use Rattle.std.specs.Io.KnownBytes.{Consumes}
use Rattle.goo_files_streams.proofs.read_whole.Given as goal

abbrev pub invariant-loop-input : goal.invariant-loop-input
invariant-loop-input g l = record {
  within : length l.input.items ≤ l.limit;
  taken : Consumes (g.R.Read.remaining l.initial.reader) (g.R.Read.remaining l.reader) l.input.items;
}

abbrev pub decreases-loop-input : goal.decreases-loop-input
decreases-loop-input g l = l.limit - length l.input.items
