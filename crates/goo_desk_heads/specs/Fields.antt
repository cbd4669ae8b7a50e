-- The fields of a head, and the length of the body that they state (RFC 9112, sections 3.2 and 6).
use Rattle.std.specs.Prelude.{◌≡◌, ℕ, ◌<◌, ◌==◌, ◌&&◌, ◌||◌, Bool, nat_lt, nat_le, nat_eq, List, [], ◌∷◌, length, map, filter, codes, Option, Some, None, Result, Ok, Err, if◌then◌else◌}
use Rattle.std.specs.Char.{to_ascii_lowercase, is_ascii_digit}
use Rattle.std.specs.List.{list_all}
use Rattle.std.specs.Str.Parse.{digits_value}
use Rattle.std.specs.Cmp.Lexicographic.{pointwise}
use Rattle.httparse.specs.Spans.{IsWithin, span_bytes}
use Rattle.goo_desk_heads.specs.declared.occurrence.Occurrence.{Occurrence}
use Rattle.goo_desk_heads.specs.declared.occurrence.Occurrence.TheVariants.{Absent, Once, Repeated}
use Rattle.goo_desk_heads.specs.declared.refusal.HeadFault.{HeadFault}
use Rattle.goo_desk_heads.specs.declared.refusal.HeadFault.TheVariants.{BadRequest, TooLarge, NotImplemented}

-- two names are the same but for the case of their letters
abbrev pub same_name : List ℕ → List ℕ → Bool
same_name a b = pointwise nat_eq (map to_ascii_lowercase a) (map to_ascii_lowercase b)

-- the values of the fields with a name
abbrev pub values_of : List ℕ → List (List ℕ × List ℕ) → List (List ℕ)
values_of name fields = map (λ f. f.1) (filter (λ f. same_name f.0 name) fields)

-- how often a field of the bytes occurs
abbrev pub Occurs : List ℕ → List (List ℕ) → Occurrence → Type 0
Occurs bytes values Absent = values ≡ []
Occurs bytes values (Once value) = IsWithin (length bytes) value × (values ≡ span_bytes bytes value ∷ [])
Occurs bytes values Repeated = 1 < length values

-- the value of a field that occurs just once
abbrev pub sole : List (List ℕ) → Option (List ℕ)
sole [] = None
sole (value ∷ []) = Some value
sole (value ∷ other ∷ more) = None

-- the most bytes of a body
abbrev pub most_body : ℕ
most_body = 1048576

-- one to nineteen digits
abbrev pub is_length : List ℕ → Bool
is_length text = nat_lt 0 (length text) && nat_le (length text) 19 && list_all is_ascii_digit text

-- the length that a value of Content-Length states
abbrev pub length_in : List ℕ → Result ℕ HeadFault
length_in text =
    if is_length text then (if nat_le (digits_value 10 text) most_body then Ok (digits_value 10 text) else Err TooLarge)
    else Err BadRequest

-- the length that the values of Content-Length state
abbrev pub stated_length : List (List ℕ) → Result ℕ HeadFault
stated_length [] = Ok 0
stated_length (value ∷ []) = length_in value
stated_length (value ∷ other ∷ more) = Err BadRequest

-- HTTP/1.1 wants one Host, and no version takes more
abbrev pub has_bad_hosts : ℕ → List (List ℕ) → Bool
has_bad_hosts minor hosts = nat_lt 1 (length hosts) || ((minor == 1) && (length hosts == 0))

-- the length of the body, or why the head is refused: its hosts, then a transfer coding, then the length
unfoldable pub body_length : ℕ → List (List ℕ × List ℕ) → Result ℕ HeadFault
body_length minor fields =
    if has_bad_hosts minor (values_of (codes "host") fields) then Err BadRequest
    else if nat_lt 0 (length (values_of (codes "transfer-encoding") fields)) then Err NotImplemented
    else stated_length (values_of (codes "content-length") fields)
