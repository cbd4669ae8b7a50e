-- The text of a response: its head, and its body.
use Rattle.std.specs.Prelude.{ℕ, Bool, List, [], ◌∷◌, ◌++◌, codes, decimal, length, Option, Some, None, if◌then◌else◌}
use Rattle.goo_desk_heads.specs.Methods.{method_word}
use Rattle.goo_desk_heads.specs.declared.method.Method.{Method}
use Rattle.goo_desk_responses.specs.declared.content.Content.{Content}
use Rattle.goo_desk_responses.specs.declared.content.Content.TheVariants.{Json, Text}
use Rattle.goo_desk_responses.specs.declared.status.Status.{Status}
use Rattle.goo_desk_responses.specs.declared.status.Status.TheVariants.{Done, BadRequest, Forbidden, NotFound, MethodNotAllowed, Conflict, TooLarge, NotImplemented, Unavailable}

abbrev pub status_code : Status → ℕ
status_code Done = 200
status_code BadRequest = 400
status_code Forbidden = 403
status_code NotFound = 404
status_code MethodNotAllowed = 405
status_code Conflict = 409
status_code TooLarge = 413
status_code NotImplemented = 501
status_code Unavailable = 503

abbrev pub status_phrase : Status → List ℕ
status_phrase Done = codes "OK"
status_phrase BadRequest = codes "Bad Request"
status_phrase Forbidden = codes "Forbidden"
status_phrase NotFound = codes "Not Found"
status_phrase MethodNotAllowed = codes "Method Not Allowed"
status_phrase Conflict = codes "Conflict"
status_phrase TooLarge = codes "Content Too Large"
status_phrase NotImplemented = codes "Not Implemented"
status_phrase Unavailable = codes "Service Unavailable"

abbrev pub content_type : Content → List ℕ
content_type Json = codes "application/json"
content_type Text = codes "text/plain; charset=utf-8"

-- what is answered: the text goes by it alone
pub record Response : Type 0 where
  pub status : Status
  pub content : Content
  -- the method of the route, where the request has another
  pub allow : Option Method
  pub body : List ℕ

abbrev pub allow_line : Option Method → List ℕ
allow_line None = []
allow_line (Some method) = codes "Allow: " ++ method_word method ++ codes "\r\n"

-- the lines of a head, and the empty line after them
unfoldable pub head_text : Status → Content → Option Method → ℕ → List ℕ
head_text status content allow count =
    codes "HTTP/1.1 " ++ decimal (status_code status) ++ codes " " ++ status_phrase status ++ codes "\r\n"
    ++ codes "Content-Type: " ++ content_type content ++ codes "\r\n"
    ++ allow_line allow
    ++ codes "Content-Length: " ++ decimal count ++ codes "\r\nConnection: close\r\n\r\n"

-- the body is left off where it is asked for the head alone
abbrev pub response_text : Bool → Response → List ℕ
response_text for_head r = head_text r.status r.content r.allow (length r.body) ++ (if for_head then [] else r.body)

abbrev pub response_of : Status → Content → List ℕ → Response
response_of status content body = record { status = status; content = content; allow = None; body = body }

-- a response that says no more than its status
abbrev pub fixed : Status → Option Method → Response
fixed status allow = record { status = status; content = Text; allow = allow; body = status_phrase status ++ 10 ∷ [] }
