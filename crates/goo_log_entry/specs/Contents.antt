-- An entry of the log and its outcome, as plain data.
use Rattle.std.specs.Prelude.{ℕ, ◌<◌, ◌^◌, List, string_bytes}
use Rattle.base64.specs.GeneralPurpose.{IsBytes}
use Rattle.goo_log_entry.specs.declared.entry.Entry.{Entry}
use Rattle.goo_log_entry.specs.declared.outcome.Outcome.{Outcome}

pub record EntryContents : Type 0 where
  pub number : ℕ
  pub before : List ℕ
  pub time : List ℕ
  pub host : List ℕ
  pub user : List ℕ
  pub way : List ℕ
  pub confirmed : List ℕ
  pub address : List ℕ
  pub role : List ℕ
  pub caller : List ℕ
  pub method : List ℕ
  pub route : List ℕ
  pub version : List ℕ
  pub id : List ℕ
  pub body : List ℕ

pub record OutcomeContents : Type 0 where
  pub number : ℕ
  pub status : ℕ
  pub body : List ℕ
  pub chain : List ℕ

-- the number fits in 64 bits, and the body is of bytes
pub record IsEntry (e : EntryContents) : Type 0 where
  pub number : e.number < 2 ^ 64
  pub body : IsBytes e.body

pub record IsOutcome (o : OutcomeContents) : Type 0 where
  pub number : o.number < 2 ^ 64
  pub status : o.status < 2 ^ 16
  pub body : IsBytes o.body

abbrev pub entry_contents : Entry → EntryContents
entry_contents e = record {
  number = e.number;
  before = string_bytes e.before;
  time = string_bytes e.time;
  host = string_bytes e.host;
  user = string_bytes e.sender.user;
  way = string_bytes e.sender.way;
  confirmed = string_bytes e.sender.confirmed;
  address = string_bytes e.sender.address;
  role = string_bytes e.sender.role;
  caller = string_bytes e.sender.caller;
  method = string_bytes e.request.method;
  route = string_bytes e.request.route;
  version = string_bytes e.version;
  id = string_bytes e.id;
  body = e.request.body.items;
}

abbrev pub outcome_contents : Outcome → OutcomeContents
outcome_contents o = record { number = o.number; status = o.status; body = o.body.items; chain = string_bytes o.chain }
