-- What all the bytes of a stream come to.
use Rattle.std.specs.Prelude.{◌≡◌, ℕ, ◌+◌, ◌<◌, ◌⊎◌, Bool, false, nat_le, List, ◌++◌, length, take, codes, Option, option_map, Result, Ok, Err, if◌then◌else◌}
use Rattle.std.specs.Str.{bytes_eq}
use Rattle.httparse.specs.Grammar.{RequestHead, print_request}
use Rattle.goo_desk_heads.specs.Heads.{most_head, HasNoHead, HasHead, after_head, caller_of, length_of}
use Rattle.goo_desk_heads.specs.declared.refusal.HeadFault.{HeadFault}
use Rattle.goo_desk_heads.specs.declared.refusal.HeadFault.TheVariants.{BadRequest}
use Rattle.goo_desk_heads.specs.declared.request.Received.{Received}
use Rattle.goo_desk_heads.specs.declared.request.RefusedHead.{RefusedHead}

-- the parts of a whole request
pub record Parts : Type 0 where
  pub method : List ℕ
  pub target : List ℕ
  pub caller : Option (List ℕ)
  pub body : List ℕ

-- whether the answer to a method leaves its body off
abbrev pub is_for_head : List ℕ → Bool
is_for_head method = bytes_eq method (codes "HEAD")

-- a request that is refused for its head
abbrev pub refused_as : List ℕ → HeadFault → RefusedHead
refused_as method why = record { why = why; is_head = is_for_head method }

-- a request without a head
abbrev pub headless : RefusedHead
headless = record { why = BadRequest; is_head = false }

-- a request whose body has come, where its head isn't refused
abbrev pub whole_request : List ℕ → List ℕ → Option (List ℕ) → List ℕ → Result ℕ HeadFault → Result Parts RefusedHead
whole_request method target caller rest (Err why) = Err (refused_as method why)
whole_request method target caller rest (Ok count) =
    if nat_le count (length rest) then Ok (record { method = method; target = target; caller = caller; body = take count rest }) else Err (refused_as method BadRequest)

-- what bytes that begin with this head come to
abbrev pub decided : List ℕ → RequestHead → Result Parts RefusedHead
decided bytes h = whole_request h.method h.target (caller_of h) (after_head bytes h) (length_of h)

-- what all the bytes of a stream come to
abbrev pub Decides : List ℕ → Result Parts RefusedHead → Type 0
Decides bytes d = (HasNoHead bytes × (d ≡ Err headless)) ⊎ ((h : RequestHead) × HasHead bytes h × (d ≡ decided bytes h))

-- what they come to, all bytes do that begin with them
abbrev pub IsSure : List ℕ → Type 0
IsSure bytes = (more : List ℕ) (d : Result Parts RefusedHead) → Decides bytes d → Decides (bytes ++ more) d

abbrev pub parts_of : Received → Parts
parts_of r = record { method = r.method.now; target = r.target.now; caller = option_map (λ value. value.now) r.caller; body = r.body.now }

abbrev pub seen : Result Received RefusedHead → Result Parts RefusedHead
seen (Ok r) = Ok (parts_of r)
seen (Err e) = Err e

-- There is no head so far, and the next byte may end it; or its body has not come. Nothing is decided before there are so many bytes.
abbrev pub IsWaiting : List ℕ → ℕ → Type 0
IsWaiting bytes wanted =
    (HasNoHead bytes × (length bytes < most_head) × (wanted ≡ length bytes + 1))
    ⊎ ((h : RequestHead) × (count : ℕ) × HasHead bytes h × (length_of h ≡ Ok count) × (length (after_head bytes h) < count) × (wanted ≡ length (print_request h) + count))
