use Rattle.std.proofs.Common.{◌≡◌, take, length}
use Rattle.goo_log_keyed.specs.Keyed.{masked}
use Rattle.goo_log_keyed.proofs.key.masked.Given as goal

abbrev pub invariant-loop-index : goal.invariant-loop-index
invariant-loop-index l = record {
  whole : length l.mixed ≡ 64;
  mixed : take l.index l.mixed ≡ masked l.byte (take l.index l.block);
}
