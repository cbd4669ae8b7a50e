-- Whether bytes begin with a head.
use Rattle.std.specs.Prelude.{◌≡◌, ℕ, ◌<◌, ◌≤◌, List, ◌++◌, length, map, drop, codes, Option, option_map, Result, IfOk, IfSome}
use Rattle.httparse.specs.Grammar.{RequestHead, ReadsRequest, print_request}
use Rattle.httparse.specs.Spans.{IsWithin, name_and_value, span_bytes}
use Rattle.goo_desk_heads.specs.Fields.{body_length, most_body, sole, values_of}
use Rattle.goo_desk_heads.specs.declared.refusal.HeadFault.{HeadFault}
use Rattle.goo_desk_heads.specs.declared.front.Front.{Front}
use Rattle.goo_desk_heads.specs.declared.front.Front.TheVariants as front
use Rattle.goo_desk_heads.specs.declared.front.Head.{Head}

-- the most bytes of a head, and fields of a head
abbrev pub most_head : ℕ
most_head = 8192

abbrev pub most_fields : ℕ
most_fields = 32

-- the bytes begin with no head of at most so many bytes and fields
abbrev pub HasNoHead : List ℕ → Type 0
HasNoHead bytes = (h : RequestHead) (rest : List ℕ) → ReadsRequest bytes h rest → length (print_request h) ≤ most_head → most_fields < length h.fields

-- nor do any that begin with them
abbrev pub NeverHasHead : List ℕ → Type 0
NeverHasHead bytes = (more : List ℕ) → HasNoHead (bytes ++ more)

-- the bytes begin with this head
abbrev pub HasHead : List ℕ → RequestHead → Type 0
HasHead bytes h = ((rest : List ℕ) × ReadsRequest bytes h rest) × (length (print_request h) ≤ most_head) × (length h.fields ≤ most_fields)

-- the bytes after a head
abbrev pub after_head : List ℕ → RequestHead → List ℕ
after_head bytes h = drop (length (print_request h)) bytes

-- the caller that a head names
abbrev pub caller_of : RequestHead → Option (List ℕ)
caller_of h = sole (values_of (codes "goo-caller") (map name_and_value h.fields))

-- the length of the body after a head, or why the head is refused
abbrev pub length_of : RequestHead → Result ℕ HeadFault
length_of h = body_length h.minor (map name_and_value h.fields)

-- where the parts of a head are among the bytes, and what it says of its body
pub record TellsHead (bytes : List ℕ) (h : RequestHead) (head : Head) : Type 0 where
  pub method_within : IsWithin (length bytes) head.method
  pub target_within : IsWithin (length bytes) head.target
  pub caller_within : IfSome head.caller (IsWithin (length bytes))
  pub method : span_bytes bytes head.method ≡ h.method
  pub target : span_bytes bytes head.target ≡ h.target
  pub caller : option_map (span_bytes bytes) head.caller ≡ caller_of h
  pub ends : head.end ≡ length (print_request h)
  pub size : head.length ≡ length_of h
  pub few : IfOk head.length (λ count. count ≤ most_body)

-- what bytes begin with
abbrev pub Begins : List ℕ → Front → Type 0
Begins bytes front.Unfinished = HasNoHead bytes × (length bytes < most_head)
Begins bytes front.Refused = NeverHasHead bytes
Begins bytes (front.Head head) = (h : RequestHead) × HasHead bytes h × TellsHead bytes h head

-- the same, told of fewer bytes, where more can't change it
abbrev pub HasBegun : List ℕ → Front → Type 0
HasBegun bytes front.Unfinished = Unit {0}
HasBegun bytes front.Refused = NeverHasHead bytes
HasBegun bytes (front.Head head) = Begins bytes (front.Head head)
