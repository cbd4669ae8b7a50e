-- A request that a body or a line states is within its limits.
use Rattle.std.proofs.Common.{◌≡◌, ℕ, List, [], ◌∷◌, codes, Option, Some, None, Result, Ok, Err, refl, subst}
use Rattle.std.proofs.lemmas.List.Elements.{All-nil, All-cons, All-weaker}
use Rattle.std.specs.Option.{ok_or}
use Rattle.serde_json.specs.Data.{Data}
use Rattle.goo_types.specs.Codes.{holder_reading, key_reading}
use Rattle.goo_types.specs.Notice.{NoticeContents, IsWhole}
use Rattle.goo_types.specs.Obeys.{Obeys}
use Rattle.goo_types.specs.Range.{IsRange}
use Rattle.goo_types.specs.declared.command.Command.{Command}
use Rattle.goo_types.specs.declared.command.Command.TheVariants.{Import}
use Rattle.goo_types.specs.declared.request.Request.{Request}
use Rattle.goo_types.specs.declared.text_fault.TextFault.{TextFault}
use Rattle.goo_spec.specs.Obeys.{AllObey}
use Rattle.goo_notice_json.specs.declared.value_fault.ValueFault.{ValueFault}
use Rattle.goo_notice_json.specs.Fields.{as_field}
use Rattle.goo_notice_json.specs.Json.{json_in}
use Rattle.goo_notice_json.specs.Members.{string_at}
use Rattle.goo_notice_json.specs.Parts.{IsStatedPart}
use Rattle.goo_notice_json.proofs.FieldLimits.{bind_ok, ok_same}
use Rattle.goo_notice_text.specs.Notice.{IsStatedNotice}
use Rattle.goo_notice.specs.Command.{IsCommand, command_of}
use Rattle.goo_notice.proofs.StatedCommand.{command_limits}
use Rattle.goo_desk_body.specs.Body.{request_of, body_of}
use Rattle.goo_desk_body.specs.BodyFaults.{as_body}
use Rattle.goo_desk_body.specs.declared.body_fault.BodyFault.{BodyFault}
use Rattle.goo_desk_body.specs.declared.body_fault.BodyFault.TheVariants as body
use Rattle.goo_desk_outcome.specs.declared.unreadable.Unreadable.{Unreadable}
use Rattle.goo_desk_lines.specs.Lines.{body_reading, caller_and_body, request_by, request_of_parts, request_in}
use Rattle.goo_desk_lines.specs.Requests.{stated, requests_among, requests_of}

whole : (n : NoticeContents) → IsStatedNotice n → IsWhole n
whole n is = record { notice = is.notice; ranges = All-weaker IsStatedPart (λ p. IsRange p.range) (λ p part. part.range) n.parts is.parts }

obeys : (c : Command) → IsCommand c → Obeys c
obeys (Import x) is = whole x.notice is
obeys _ is = tt

members : (caller : List ℕ) (d : Data) (q : Request) → request_of caller d ≡ Ok q → Obeys q.command
unfolding request_of
members caller d q is =
    let a0 = bind_ok (string_at (codes "key") d) _ q is in
    let a1 = bind_ok (command_of 1 d) _ q a0.2 in
    let a2 = bind_ok (as_field (key_reading a0.0)) _ q a1.2 in
    subst (λ (r : Request). Obeys r.command) (ok_same _ q a2.2) (obeys a1.0 (command_limits 1 d a1.0 a1.1))

from_body : (r : Result Request ValueFault) (q : Request) → as_body r ≡ Ok q → r ≡ Ok q
from_body (Ok p) q is = cc
from_body (Err e) q is = absurd cc

-- what a body states
pub body_obeys : (caller bytes : List ℕ) (q : Request) → body_of caller bytes ≡ Ok q → Obeys q.command
unfolding body_of
body_obeys caller bytes q is =
    let a0 = bind_ok (ok_or (json_in bytes) body.NotJson) _ q is in
    members caller a0.0 q (from_body (request_of caller a0.0) q a0.2)

pub from_reading : (r : Result Request BodyFault) (q : Request) → body_reading r ≡ Ok q → r ≡ Ok q
from_reading (Ok p) q is = cc
from_reading (Err body.NotJson) q is = absurd cc
from_reading (Err body.Shape) q is = absurd cc
from_reading (Err body.Field) q is = absurd cc
from_reading (Err body.Memory) q is = absurd cc

with_caller : (caller : Result (List ℕ) TextFault) (bytes : List ℕ) (q : Request) → request_by caller bytes ≡ Ok q → Obeys q.command
with_caller (Ok caller) bytes q is = body_obeys caller bytes q (from_reading (body_of caller bytes) q is)
with_caller (Err fault) bytes q is = absurd cc

with_parts : (parts : Option (List ℕ × List ℕ)) (q : Request) → request_of_parts parts ≡ Ok q → Obeys q.command
with_parts None q is = absurd cc
with_parts (Some parts) q is = with_caller (holder_reading parts.0) parts.1 q is

-- what a line states
pub line_obeys : (line : List ℕ) (q : Request) → request_in line ≡ Ok q → Obeys q.command
unfolding request_in
line_obeys line q is = with_parts (caller_and_body line) q is

one_obeys : (r : Result Request Unreadable) (some : List (Result Request Unreadable)) → ((q : Request) → r ≡ Ok q → Obeys q.command) → AllObey (requests_among some) → AllObey (requests_among (r ∷ some))
one_obeys (Ok q) some one rest = All-cons (λ p. Obeys p.command) q (requests_among some) (one q refl) rest
one_obeys (Err reason) some one rest = rest

-- the requests of some lines
pub lines_obey : (lines : List (List ℕ)) → AllObey (requests_of lines)
lines_obey [] = All-nil (λ q. Obeys q.command)
lines_obey ([] ∷ lines) = lines_obey lines
lines_obey ((b ∷ line) ∷ lines) = one_obeys (request_in (b ∷ line)) (stated lines) (line_obeys (b ∷ line)) (lines_obey lines)
