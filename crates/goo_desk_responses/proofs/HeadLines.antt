-- The lines of a head, one behind the other.
use Rattle.std.proofs.Common.{◌≡◌, ℕ, List, [], ◌++◌, codes, decimal, append_assoc, Option, refl}
use Rattle.goo_desk_heads.specs.declared.method.Method.{Method}
use Rattle.goo_desk_responses.specs.declared.content.Content.{Content}
use Rattle.goo_desk_responses.specs.declared.status.Status.{Status}
use Rattle.goo_desk_responses.specs.Responses.{head_text, status_code, status_phrase, content_type, allow_line}

-- over plain lists: a text of letters computes as soon as something stands behind it
in-turn : (a d b p e t m l k c z : List ℕ) → (((([] ++ (a ++ d ++ b)) ++ ([] ++ p ++ e)) ++ (t ++ m ++ e)) ++ l) ++ (k ++ c ++ z) ≡ a ++ d ++ b ++ p ++ e ++ t ++ m ++ e ++ l ++ k ++ c ++ z
in-turn a d b p e t m l k c z = simp append_assoc

pub lines-made : (status : Status) (content : Content) (allow : Option Method) (count code : ℕ) (none first second third fourth last phrase media allowed : List ℕ)
    → none ≡ [] → code ≡ status_code status → first ≡ none ++ (codes "HTTP/1.1 " ++ decimal code ++ codes " ")
    → phrase ≡ status_phrase status → second ≡ first ++ (codes "" ++ phrase ++ codes "\r\n")
    → media ≡ content_type content → third ≡ second ++ (codes "Content-Type: " ++ media ++ codes "\r\n")
    → allowed ≡ allow_line allow → fourth ≡ third ++ allowed
    → last ≡ fourth ++ (codes "Content-Length: " ++ decimal count ++ codes "\r\nConnection: close\r\n\r\n")
    → last ≡ head_text status content allow count
unfolding head_text
lines-made status content allow count code none first second third fourth last phrase media allowed n c f p s m t a o l =
    rw (l, o, a, t, m, s, p, f, c, n)
    (in-turn (codes "HTTP/1.1 ") (decimal (status_code status)) (codes " ") (status_phrase status) (codes "\r\n") (codes "Content-Type: ") (content_type content) (allow_line allow) (codes "Content-Length: ") (decimal count) (codes "\r\nConnection: close\r\n\r\n"))
