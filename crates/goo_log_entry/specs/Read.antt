-- What stands in an object's members.
use Rattle.std.specs.Prelude.{◌≡◌, ◌<◌, ◌^◌, ℕ, List, [], Option, Some, None, option_and_then, unwrap_or, codes, decimal, string_bytes}
use Rattle.base64.specs.Engines.{standard}
use Rattle.base64.specs.GeneralPurpose.{IsBytes, encode_of}
use Rattle.json.specs.Json.{Json}
use Rattle.json.specs.Find.{get, as_str, as_number}
use Rattle.goo_log_entry.specs.Contents.{EntryContents, OutcomeContents}
use Rattle.goo_log_entry.specs.declared.entry.HttpRequest.{HttpRequest}
use Rattle.goo_log_entry.specs.declared.entry.Sender.{Sender}

abbrev pub string_in : List ℕ → Json → Option (List ℕ)
string_in name j = option_and_then as_str (get name j)

abbrev pub number_in : List ℕ → Json → Option (List ℕ)
number_in name j = option_and_then as_number (get name j)

-- empty where there is none
abbrev pub text_in : List ℕ → Json → List ℕ
text_in name j = unwrap_or (string_in name j) []

-- the members of a sender
pub record IsSenderIn (sender : Sender) (j : Json) : Type 0 where
  pub user : string_bytes sender.user ≡ text_in (codes "user") j
  pub way : string_bytes sender.way ≡ text_in (codes "way") j
  pub confirmed : string_bytes sender.confirmed ≡ text_in (codes "confirmed") j
  pub address : string_bytes sender.address ≡ text_in (codes "address") j
  pub role : string_bytes sender.role ≡ text_in (codes "role") j
  pub caller : string_bytes sender.caller ≡ text_in (codes "caller") j

-- the body in a member of either name
pub record IsBodyIn (found : List ℕ) (j : Json) : Type 0 where
  pub plain : (body : List ℕ) → string_in (codes "body") j ≡ Some body → found ≡ body
  pub coded : (body : List ℕ) → IsBytes body → string_in (codes "body") j ≡ None
      → string_in (codes "body64") j ≡ Some (encode_of standard body) → found ≡ body

pub record IsRequestIn (request : HttpRequest) (j : Json) : Type 0 where
  pub method : string_bytes request.method ≡ text_in (codes "method") j
  pub route : string_bytes request.route ≡ text_in (codes "route") j
  pub body : IsBodyIn request.body.items j

-- a number that stands there as it is written
abbrev pub IsNumberIn : ℕ → ℕ → List ℕ → Json → Type 0
IsNumberIn bits found name j = (n : ℕ) → n < 2 ^ bits → number_in name j ≡ Some (decimal n) → found ≡ n

-- an entry is what an object's members state
pub record IsStated (e : EntryContents) (j : Json) : Type 0 where
  pub number : IsNumberIn 64 e.number (codes "n") j
  pub before : e.before ≡ text_in (codes "prev") j
  pub time : e.time ≡ text_in (codes "time") j
  pub host : e.host ≡ text_in (codes "host") j
  pub user : e.user ≡ text_in (codes "user") j
  pub way : e.way ≡ text_in (codes "way") j
  pub confirmed : e.confirmed ≡ text_in (codes "confirmed") j
  pub address : e.address ≡ text_in (codes "address") j
  pub role : e.role ≡ text_in (codes "role") j
  pub caller : e.caller ≡ text_in (codes "caller") j
  pub method : e.method ≡ text_in (codes "method") j
  pub route : e.route ≡ text_in (codes "route") j
  pub version : e.version ≡ text_in (codes "version") j
  pub id : e.id ≡ text_in (codes "id") j
  pub body : IsBodyIn e.body j

pub record IsStatedOutcome (o : OutcomeContents) (j : Json) : Type 0 where
  pub number : IsNumberIn 64 o.number (codes "n") j
  pub status : IsNumberIn 16 o.status (codes "status") j
  pub body : IsBodyIn o.body j
  pub chain : o.chain ≡ text_in (codes "chain") j
