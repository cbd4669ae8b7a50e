-- How a body stands in a line: as text, or in base64 (RFC 4648).
use Rattle.std.specs.Prelude.{ℕ, ◌+◌, ◌/◌, List, length, Bool, not, ◌&&◌, ◌||◌, nat_lt, if◌then◌else◌, codes}
use Rattle.std.specs.Str.{is_utf8}
use Rattle.base64.specs.Engines.{standard}
use Rattle.base64.specs.GeneralPurpose.{encode_of}
use Rattle.json.specs.Json.{Members, member, string}
use Rattle.json.specs.Print.{quoted}

-- as text where it is UTF-8, unless it is long and shorter in base64
unfoldable pub is_plain : List ℕ → Bool
is_plain body = is_utf8 body && (nat_lt (length body) 4096 || not (nat_lt (length body + length body / 3) (length (quoted body))))

abbrev pub with_body : List ℕ → Members → Members
with_body body rest =
    if is_plain body then member (codes "body") (string body) rest
    else member (codes "body64") (string (encode_of standard body)) rest
