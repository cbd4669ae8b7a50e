-- The tokens of members, as they are written one after another.
use Rattle.std.specs.Prelude.{ℕ, List, [], ◌∷◌, ◌++◌, codes, decimal, if◌then◌else◌}
use Rattle.base64.specs.Engines.{standard}
use Rattle.base64.specs.GeneralPurpose.{encode_of}
use Rattle.json.specs.Token.{Token, begin_object, end_object, key, number, string}
use Rattle.goo_log_entry.specs.Contents.{EntryContents, OutcomeContents}
use Rattle.goo_log_entry.specs.Body.{is_plain}
use Rattle.goo_log_entry.specs.Text.{is_empty}

abbrev pub text_tokens : List ℕ → List ℕ → List Token
text_tokens name text = key name ∷ string text ∷ []

abbrev pub optional_tokens : List ℕ → List ℕ → List Token
optional_tokens name text = if is_empty text then [] else text_tokens name text

abbrev pub body_tokens : List ℕ → List Token
body_tokens body =
    if is_plain body then text_tokens (codes "body") body
    else text_tokens (codes "body64") (encode_of standard body)

-- some tokens, and behind them those of an entry's members, up to the sender's
abbrev pub with_place : List Token → EntryContents → List Token
with_place ts e =
    ts ++ (key (codes "n") ∷ number (decimal e.number) ∷ [])
    ++ text_tokens (codes "prev") e.before
    ++ text_tokens (codes "time") e.time
    ++ text_tokens (codes "host") e.host

abbrev pub with_user : List Token → EntryContents → List Token
with_user ts e =
    ts ++ text_tokens (codes "user") e.user
    ++ optional_tokens (codes "way") e.way
    ++ optional_tokens (codes "confirmed") e.confirmed

abbrev pub with_sender : List Token → EntryContents → List Token
with_sender ts e =
    with_user ts e
    ++ text_tokens (codes "address") e.address
    ++ text_tokens (codes "role") e.role
    ++ text_tokens (codes "caller") e.caller

abbrev pub with_request : List Token → EntryContents → List Token
with_request ts e =
    ts ++ text_tokens (codes "method") e.method
    ++ text_tokens (codes "route") e.route
    ++ text_tokens (codes "version") e.version
    ++ text_tokens (codes "id") e.id
    ++ body_tokens e.body

abbrev pub entry_tokens : EntryContents → List Token
entry_tokens e = with_request (with_sender (with_place (begin_object ∷ []) e) e) e ++ end_object ∷ []

abbrev pub outcome_tokens : OutcomeContents → List Token
outcome_tokens o =
    (begin_object ∷ []) ++ (key (codes "n") ∷ number (decimal o.number) ∷ [])
    ++ (key (codes "status") ∷ number (decimal o.status) ∷ [])
    ++ body_tokens o.body
    ++ text_tokens (codes "chain") o.chain
    ++ end_object ∷ []
