-- The members of the object of an entry, and of an outcome, are found by their names.
use Rattle.std.proofs.Common.{◌≡◌, ◌∙◌, Bool, true, false, List, [], ◌∷◌, ℕ, length, refl, sym, ap}
use Rattle.std.specs.Prelude.{if◌then◌else◌, codes, decimal, Option, Some, None, option_and_then, unwrap_or}
use Rattle.std.specs.Str.{bytes_eq}
use Rattle.std.proofs.lemmas.Bool.{eqb-true}
use Rattle.base64.specs.Engines.{standard}
use Rattle.base64.specs.GeneralPurpose.{IsBytes, encode_of}
use Rattle.json.specs.Find.{get, get_member, later_or, as_str, as_number}
use Rattle.json.specs.Json.{Json, object, Members, no_members, member, string, number}
use Rattle.goo_log_entry.specs.Contents.{EntryContents, OutcomeContents}
use Rattle.goo_log_entry.specs.Body.{is_plain, with_body}
use Rattle.goo_log_entry.specs.Read.{number_in, text_in, IsBodyIn}
use Rattle.goo_log_entry.specs.Text.{is_empty, optional, entry_members, outcome_members}

later_none : (o : Option Json) → later_or o None ≡ o
later_none None = refl
later_none (Some j) = refl

-- a member of another name is passed
past : (name other : List ℕ) (j : Json) (rest : Members) → bytes_eq other name ≡ false → get_member name (member other j rest) ≡ get_member name rest
past name other j rest h = rw h (later_none (get_member name rest))

past_optional : (name other text : List ℕ) (rest : Members) → bytes_eq other name ≡ false → get_member name (optional other text rest) ≡ get_member name rest
past_optional name other text rest h =
    elim (is_empty text) as (λ b. get_member name (if b then rest else member other (string text) rest) ≡ get_member name rest) [
      | true ↦ refl
      | false ↦ past name other (string text) rest h
    ]

past_body : (name body : List ℕ) (rest : Members) → bytes_eq (codes "body") name ≡ false → bytes_eq (codes "body64") name ≡ false
    → get_member name (with_body body rest) ≡ get_member name rest
past_body name body rest h k =
    elim (is_plain body) as (λ b. get_member name (if b then member (codes "body") (string body) rest else member (codes "body64") (string (encode_of standard body)) rest) ≡ get_member name rest) [
      | true ↦ past name (codes "body") (string body) rest h
      | false ↦ past name (codes "body64") (string (encode_of standard body)) rest k
    ]

-- those that are always there
abbrev pub asked : EntryContents → Members
asked e =
    member (codes "address") (string e.address)
    (member (codes "role") (string e.role)
    (member (codes "caller") (string e.caller)
    (member (codes "method") (string e.method)
    (member (codes "route") (string e.route)
    (member (codes "version") (string e.version)
    (member (codes "id") (string e.id) no_members))))))

abbrev pub plain_members : EntryContents → Members
plain_members e =
    member (codes "n") (number (decimal e.number))
    (member (codes "prev") (string e.before)
    (member (codes "time") (string e.time)
    (member (codes "host") (string e.host)
    (member (codes "user") (string e.user) (asked e)))))

reach : (name : List ℕ) (e : EntryContents) → bytes_eq (codes "way") name ≡ false → bytes_eq (codes "confirmed") name ≡ false
    → bytes_eq (codes "body") name ≡ false → bytes_eq (codes "body64") name ≡ false
    → get name (object (entry_members e)) ≡ get name (object (plain_members e))
unfolding entry_members
reach name e way confirmed body body64 =
    rw (
      past_optional name (codes "way") e.way _ way,
      past_optional name (codes "confirmed") e.confirmed _ confirmed,
      past_body name e.body no_members body body64,
    ) refl

pub seen : (name : List ℕ) (e : EntryContents) → bytes_eq (codes "way") name ≡ false → bytes_eq (codes "confirmed") name ≡ false
    → bytes_eq (codes "body") name ≡ false → bytes_eq (codes "body64") name ≡ false
    → text_in name (object (entry_members e)) ≡ text_in name (object (plain_members e))
seen name e way confirmed body body64 = ap (λ o. unwrap_or (option_and_then as_str o) []) (reach name e way confirmed body body64)

pub number_seen : (e : EntryContents) → number_in (codes "n") (object (entry_members e)) ≡ Some (decimal e.number)
number_seen e = ap (option_and_then as_number) (reach (codes "n") e refl refl refl refl)

-- one that may be left out
own_optional : (name text : List ℕ) (rest : Members) → bytes_eq name name ≡ true → get_member name rest ≡ None
    → unwrap_or (option_and_then as_str (get_member name (optional name text rest))) [] ≡ text
own_optional name text rest same none =
    elim (is_empty text) as (λ b. is_empty text ≡ b → unwrap_or (option_and_then as_str (get_member name (if b then rest else member name (string text) rest))) [] ≡ text) [
      | true ↦ λ e. rw none (sym (nothing text (eqb-true (length text) 0 e)))
      | false ↦ λ e. rw (none, same) refl
    ] refl
  where
    nothing : (text : List ℕ) → length text ≡ 0 → text ≡ []
    nothing [] e = refl
    nothing (x ∷ xs) e = absurd (cc e)

-- with the body
abbrev pub asked_all : EntryContents → Members
asked_all e =
    member (codes "address") (string e.address)
    (member (codes "role") (string e.role)
    (member (codes "caller") (string e.caller)
    (member (codes "method") (string e.method)
    (member (codes "route") (string e.route)
    (member (codes "version") (string e.version)
    (member (codes "id") (string e.id) (with_body e.body no_members)))))))

abbrev pub confirmed_on : EntryContents → Members
confirmed_on e = optional (codes "confirmed") e.confirmed (asked_all e)

abbrev pub way_on : EntryContents → Members
way_on e = optional (codes "way") e.way (confirmed_on e)

five : (o : Option Json) → later_or (later_or (later_or (later_or (later_or o None) None) None) None) None ≡ o
five None = refl
five (Some j) = refl

seven : (o : Option Json) → later_or (later_or (later_or (later_or (later_or (later_or (later_or o None) None) None) None) None) None) None ≡ o
seven None = refl
seven (Some j) = refl

way_alone : (e : EntryContents) → get_member (codes "way") (confirmed_on e) ≡ None
way_alone e =
    past_optional (codes "way") (codes "confirmed") e.confirmed (asked_all e) refl
    ∙ seven (get_member (codes "way") (with_body e.body no_members))
    ∙ past_body (codes "way") e.body no_members refl refl

pub way_seen : (e : EntryContents) → text_in (codes "way") (object (entry_members e)) ≡ e.way
unfolding entry_members
way_seen e =
    ap (λ o. unwrap_or (option_and_then as_str o) []) (five (get_member (codes "way") (way_on e)))
    ∙ own_optional (codes "way") e.way (confirmed_on e) refl (way_alone e)

confirmed_alone : (e : EntryContents) → get_member (codes "confirmed") (asked_all e) ≡ None
confirmed_alone e =
    seven (get_member (codes "confirmed") (with_body e.body no_members))
    ∙ past_body (codes "confirmed") e.body no_members refl refl

pub confirmed_seen : (e : EntryContents) → text_in (codes "confirmed") (object (entry_members e)) ≡ e.confirmed
unfolding entry_members
confirmed_seen e =
    ap (λ o. unwrap_or (option_and_then as_str o) [])
    (five (get_member (codes "confirmed") (way_on e)) ∙ past_optional (codes "confirmed") (codes "way") e.way (confirmed_on e) refl)
    ∙ own_optional (codes "confirmed") e.confirmed (asked_all e) refl (confirmed_alone e)

-- ---- the body

pub plain_reach : (e : EntryContents) → get (codes "body") (object (entry_members e)) ≡ get_member (codes "body") (with_body e.body no_members)
unfolding entry_members
plain_reach e =
    five (get_member (codes "body") (way_on e))
    ∙ past_optional (codes "body") (codes "way") e.way (confirmed_on e) refl
    ∙ past_optional (codes "body") (codes "confirmed") e.confirmed (asked_all e) refl
    ∙ seven (get_member (codes "body") (with_body e.body no_members))

pub coded_reach : (e : EntryContents) → get (codes "body64") (object (entry_members e)) ≡ get_member (codes "body64") (with_body e.body no_members)
unfolding entry_members
coded_reach e =
    five (get_member (codes "body64") (way_on e))
    ∙ past_optional (codes "body64") (codes "way") e.way (confirmed_on e) refl
    ∙ past_optional (codes "body64") (codes "confirmed") e.confirmed (asked_all e) refl
    ∙ seven (get_member (codes "body64") (with_body e.body no_members))

-- what is found under either name is the body, if the last members are these
body_found : (body found : List ℕ) (j : Json) → IsBytes body
    → get (codes "body") j ≡ get_member (codes "body") (with_body body no_members)
    → get (codes "body64") j ≡ get_member (codes "body64") (with_body body no_members)
    → IsBodyIn found j → found ≡ body
body_found body found j bytes p q h =
    elim (is_plain body) as (λ b. is_plain body ≡ b → found ≡ body) [
      | true ↦ λ e. h.plain body (ap (option_and_then as_str) p ∙ rw e refl)
      | false ↦ λ e. h.coded body bytes (ap (option_and_then as_str) p ∙ rw e refl) (ap (option_and_then as_str) q ∙ rw e refl)
    ] refl

pub body_seen : (e : EntryContents) (found : List ℕ) → IsBytes e.body → IsBodyIn found (object (entry_members e)) → found ≡ e.body
body_seen e found bytes h = body_found e.body found (object (entry_members e)) bytes (plain_reach e) (coded_reach e) h

-- ---- an outcome's

abbrev pub chain_on : OutcomeContents → Members
chain_on o = member (codes "chain") (string o.chain) no_members

two : (o : Option Json) → later_or (later_or o None) None ≡ o
two None = refl
two (Some j) = refl

pub outcome_number_seen : (o : OutcomeContents) → number_in (codes "n") (object (outcome_members o)) ≡ Some (decimal o.number)
unfolding outcome_members
outcome_number_seen o = rw (past_body (codes "n") o.body (chain_on o) refl refl) refl

pub status_seen : (o : OutcomeContents) → number_in (codes "status") (object (outcome_members o)) ≡ Some (decimal o.status)
unfolding outcome_members
status_seen o = rw (past_body (codes "status") o.body (chain_on o) refl refl) refl

pub chain_seen : (o : OutcomeContents) → text_in (codes "chain") (object (outcome_members o)) ≡ o.chain
unfolding outcome_members
chain_seen o = rw (past_body (codes "chain") o.body (chain_on o) refl refl) refl

alone : (b : Bool) (name text coded chain : List ℕ) → bytes_eq (codes "chain") name ≡ false
    → get_member name (if b then member (codes "body") (string text) (member (codes "chain") (string chain) no_members) else member (codes "body64") (string coded) (member (codes "chain") (string chain) no_members))
    ≡ get_member name (if b then member (codes "body") (string text) no_members else member (codes "body64") (string coded) no_members)
alone true name text coded chain h = rw h refl
alone false name text coded chain h = rw h refl

pub outcome_body_seen : (o : OutcomeContents) (found : List ℕ) → IsBytes o.body → IsBodyIn found (object (outcome_members o)) → found ≡ o.body
unfolding outcome_members
outcome_body_seen o found bytes h =
    body_found o.body found (object (outcome_members o)) bytes
    (two (get_member (codes "body") (with_body o.body (chain_on o))) ∙ alone (is_plain o.body) (codes "body") o.body (encode_of standard o.body) o.chain refl)
    (two (get_member (codes "body64") (with_body o.body (chain_on o))) ∙ alone (is_plain o.body) (codes "body64") o.body (encode_of standard o.body) o.chain refl)
    h
