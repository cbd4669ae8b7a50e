use Rattle.std.proofs.Common.{sym}
use Rattle.serde_json.specs.View.{view}
use Rattle.goo_notice_json.proofs.JsonLemmas.{json_in_read, json_in_refused}
use Rattle.goo_notice_json.proofs.json_bytes.json_value.Goals as goal

pub returns-in-Ok : goal.returns-in-Ok
returns-in-Ok c = sym (json_in_read c.args.bytes.now (view c.in-Ok.value) c.in-Ok.ensures.ok.0 c.in-Ok.ensures.ok.1)

pub returns-else-is_memory : goal.returns-else-is_memory
returns-else-is_memory c =
    sym (json_in_refused c.args.bytes.now (c.in-Err.ensures.err (λ m. let answer = c.is_memory.ensures.1 m in cc (answer, c.if-is_memory.false))))
