-- The one text of an entry, and of an outcome: a JSON object (RFC 8259) with no space in it, its members in this order.
use Rattle.std.specs.Prelude.{◌≡◌, ℕ, List, length, Bool, ◌==◌, if◌then◌else◌, codes, decimal}
use Rattle.json.specs.Json.{object, Members, no_members, member, string, number}
use Rattle.json.specs.Print.{print}
use Rattle.json.specs.Tree.{json_tokens}
use Rattle.goo_log_entry.specs.Contents.{EntryContents, OutcomeContents, IsEntry}
use Rattle.goo_log_entry.specs.Body.{with_body}

abbrev pub is_empty : List ℕ → Bool
is_empty text = length text == 0

-- a member that is left out where it is empty
abbrev pub optional : List ℕ → List ℕ → Members → Members
optional name text rest = if is_empty text then rest else member name (string text) rest

unfoldable pub entry_members : EntryContents → Members
entry_members e =
    member (codes "n") (number (decimal e.number))
    (member (codes "prev") (string e.before)
    (member (codes "time") (string e.time)
    (member (codes "host") (string e.host)
    (member (codes "user") (string e.user)
    (optional (codes "way") e.way
    (optional (codes "confirmed") e.confirmed
    (member (codes "address") (string e.address)
    (member (codes "role") (string e.role)
    (member (codes "caller") (string e.caller)
    (member (codes "method") (string e.method)
    (member (codes "route") (string e.route)
    (member (codes "version") (string e.version)
    (member (codes "id") (string e.id)
    (with_body e.body no_members))))))))))))))

unfoldable pub outcome_members : OutcomeContents → Members
outcome_members o =
    member (codes "n") (number (decimal o.number))
    (member (codes "status") (number (decimal o.status))
    (with_body o.body (member (codes "chain") (string o.chain) no_members)))

abbrev pub entry_text : EntryContents → List ℕ
entry_text e = print (json_tokens (object (entry_members e)))

abbrev pub outcome_text : OutcomeContents → List ℕ
outcome_text o = print (json_tokens (object (outcome_members o)))

-- no two entries share a text
abbrev pub EntryTextsDiffer : Type 0
EntryTextsDiffer = (a b : EntryContents) → IsEntry a → IsEntry b → entry_text a ≡ entry_text b → a ≡ b
