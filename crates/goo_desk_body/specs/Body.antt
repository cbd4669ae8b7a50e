-- Which request a body states.
use Rattle.std.specs.Prelude.{ℕ, List, codes, Result, Ok}
use Rattle.std.specs.Option.{ok_or}
use Rattle.serde_json.specs.Data.{Data}
use Rattle.goo_types.specs.Codes.{key_reading}
use Rattle.goo_types.specs.declared.request.Request.{Request}
use Rattle.goo_notice_json.specs.declared.value_fault.ValueFault.{ValueFault}
use Rattle.goo_notice.specs.Command.{command_of}
use Rattle.goo_notice_json.specs.Faults.{◌>>=◌}
use Rattle.goo_notice_json.specs.Fields.{as_field}
use Rattle.goo_notice_json.specs.Json.{json_in}
use Rattle.goo_notice_json.specs.Members.{string_at}
use Rattle.goo_desk_body.specs.declared.body_fault.BodyFault.{BodyFault}
use Rattle.goo_desk_body.specs.declared.body_fault.BodyFault.TheVariants.{NotJson}
use Rattle.goo_desk_body.specs.BodyFaults.{as_body}

-- the members of a command and its key: the shape of all of them is looked at before any field
unfoldable pub request_of : List ℕ → Data → Result Request ValueFault
request_of caller d = do
  key ← string_at (codes "key") d
  command ← command_of 1 d
  key ← as_field (key_reading key)
  Ok (record { caller = caller; key = key; command = command })

unfoldable pub body_of : List ℕ → List ℕ → Result Request BodyFault
body_of caller bytes = do
  d ← ok_or (json_in bytes) NotJson
  as_body (request_of caller d)
