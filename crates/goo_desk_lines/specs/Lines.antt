-- The lines of an input, and the request that a line states.
use Rattle.std.specs.Prelude.{ℕ, ◌+◌, ◌==◌, List, [], position, take, drop, Option, Some, None, Result, Ok, Err}
use Rattle.std.specs.List.{slice_split}
use denote.Ref.{Bor}
use Rattle.goo_types.specs.Codes.{holder_reading}
use Rattle.goo_types.specs.declared.request.Request.{Request}
use Rattle.goo_types.specs.declared.text_fault.TextFault.{TextFault}
use Rattle.goo_desk_body.specs.Body.{body_of}
use Rattle.goo_desk_body.specs.declared.body_fault.BodyFault.{BodyFault}
use Rattle.goo_desk_body.specs.declared.body_fault.BodyFault.TheVariants as body
use Rattle.goo_desk_outcome.specs.declared.unreadable.Unreadable.{Unreadable}
use Rattle.goo_desk_outcome.specs.declared.unreadable.Unreadable.TheVariants.{Caller, NotJson, Shape, Field}

-- the pieces between line feeds; the last of them has no line feed after it
abbrev pub lines_of : List ℕ → List (List ℕ)
lines_of input = slice_split (λ b. b == 10) input

-- the lines that are left of an input, where any of it is left
abbrev pub lines_left : Option (Bor (List ℕ)) → List (List ℕ)
lines_left None = []
lines_left (Some rest) = lines_of rest.now

abbrev pub cut_at : Option ℕ → List ℕ → Option (List ℕ × List ℕ)
cut_at None line = None
cut_at (Some place) line = Some (take place line, drop (place + 1) line)

-- the caller and the body: what stands before the first space, and all after it
abbrev pub caller_and_body : List ℕ → Option (List ℕ × List ℕ)
caller_and_body line = cut_at (position (λ b. b == 32) line) line

-- what a body states, among the faults of lines (a reading is never want of memory)
abbrev pub body_reading : Result Request BodyFault → Result Request Unreadable
body_reading (Ok request) = Ok request
body_reading (Err body.NotJson) = Err NotJson
body_reading (Err body.Shape) = Err Shape
body_reading (Err body.Field) = Err Field
body_reading (Err body.Memory) = Err Field

abbrev pub request_by : Result (List ℕ) TextFault → List ℕ → Result Request Unreadable
request_by (Ok caller) body = body_reading (body_of caller body)
request_by (Err fault) body = Err Caller

abbrev pub request_of_parts : Option (List ℕ × List ℕ) → Result Request Unreadable
request_of_parts None = Err Caller
request_of_parts (Some parts) = request_by (holder_reading parts.0) parts.1

-- the request that a line states, or why it states none
unfoldable pub request_in : List ℕ → Result Request Unreadable
request_in line = request_of_parts (caller_and_body line)
