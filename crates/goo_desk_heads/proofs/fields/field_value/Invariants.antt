use Rattle.std.proofs.Common.{take, map}
use Rattle.httparse.specs.Spans.{header_bytes}
use Rattle.goo_desk_heads.specs.Fields.{Occurs, values_of}
use Rattle.goo_desk_heads.proofs.fields.field_value.Given as goal

abbrev pub invariant-loop-header : goal.invariant-loop-header
invariant-loop-header l = Occurs l.buf (values_of l.wanted (map (header_bytes l.buf) (take l.header-index l.headers))) l.found
