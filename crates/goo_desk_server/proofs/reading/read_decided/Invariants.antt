use Rattle.std.proofs.Common.{◌-◌, ◌+◌, length}
use Rattle.std.specs.Io.KnownBytes.{Consumes}
use Rattle.goo_desk_heads.specs.Heads.{Begins, most_head}
use Rattle.goo_desk_heads.specs.Fields.{most_body}
use Rattle.goo_desk_server.proofs.reading.read_decided.Given as goal

abbrev pub invariant-loop-wanted : goal.invariant-loop-wanted
invariant-loop-wanted g l = Consumes (g.R.Read.remaining l.initial.reader) (g.R.Read.remaining l.reader) l.bytes.items × Begins l.bytes.items l.front

abbrev pub decreases-loop-wanted : goal.decreases-loop-wanted
decreases-loop-wanted g l = most_head + most_body - length l.bytes.items
