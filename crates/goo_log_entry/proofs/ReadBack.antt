-- The text of an entry, and of an outcome, is read as it.
use Rattle.std.proofs.Common.{◌≡◌, ◌≢◌, ◌<◌, ◌≤◌, ◌^◌, ◌∙◌, true, false, List, ℕ, refl, sym, ap, subst, arith}
use Rattle.std.specs.Prelude.{if◌then◌else◌, codes, Option, Some, None}
use Rattle.std.specs.Str.{bytes_eq}
use Rattle.std.proofs.lemmas.Bool.{false≢true}
use Rattle.std.proofs.lemmas.Slice.Eq.{bytes_eq-Decides}
use Rattle.base64.specs.Engines.{standard}
use Rattle.base64.specs.GeneralPurpose.{encode_of}
use Rattle.json.specs.Json.{Json, object, Members, no_members, member, string, document, max_depth}
use Rattle.json.specs.Tree.{depth, members_depth, HasNumbers, MembersHaveNumbers}
use Rattle.json.proofs.Printed.Decimals.{IsNumber-decimal}
use Rattle.json.proofs.Printed.Trees.{document-print}
use Rattle.goo_log_entry.specs.Contents.{EntryContents, OutcomeContents, IsEntry, IsOutcome}
use Rattle.goo_log_entry.specs.Body.{is_plain, with_body}
use Rattle.goo_log_entry.specs.Read.{IsStated, IsStatedOutcome}
use Rattle.goo_log_entry.specs.Text.{is_empty, optional, entry_members, outcome_members, entry_text, outcome_text}
use Rattle.goo_log_entry.proofs.Found.{seen, number_seen, way_seen, confirmed_seen, body_seen, asked_all, confirmed_on, chain_on, outcome_number_seen, status_seen, chain_seen, outcome_body_seen}

pub not_same : (a b : List ℕ) → bytes_eq a b ≡ false → a ≢ b
not_same a b h same = false≢true (sym h ∙ (bytes_eq-Decides a b).1 same)

-- ---- its numbers are numbers, and it is flat

numbers_optional : (name text : List ℕ) (rest : Members) → MembersHaveNumbers rest → MembersHaveNumbers (optional name text rest)
numbers_optional name text rest h =
    elim (is_empty text) as (λ b. MembersHaveNumbers (if b then rest else member name (string text) rest)) [ true ↦ h | false ↦ (tt, h) ]

numbers_body : (body : List ℕ) (rest : Members) → MembersHaveNumbers rest → MembersHaveNumbers (with_body body rest)
numbers_body body rest h =
    elim (is_plain body) as (λ b. MembersHaveNumbers (if b then member (codes "body") (string body) rest else member (codes "body64") (string (encode_of standard body)) rest)) [ true ↦ (tt, h) | false ↦ (tt, h) ]

flat_optional : (name text : List ℕ) (rest : Members) → members_depth rest ≤ 0 → members_depth (optional name text rest) ≤ 0
flat_optional name text rest h =
    elim (is_empty text) as (λ b. members_depth (if b then rest else member name (string text) rest) ≤ 0) [ true ↦ h | false ↦ omega (arith, h) ]

flat_body : (body : List ℕ) (rest : Members) → members_depth rest ≤ 0 → members_depth (with_body body rest) ≤ 0
flat_body body rest h =
    elim (is_plain body) as (λ b. members_depth (if b then member (codes "body") (string body) rest else member (codes "body64") (string (encode_of standard body)) rest) ≤ 0) [ true ↦ omega (arith, h) | false ↦ omega (arith, h) ]

nothing_flat : members_depth no_members ≤ 0
nothing_flat = omega arith

entry_numbers : (e : EntryContents) → e.number < 2 ^ 64 → HasNumbers (object (entry_members e))
unfolding entry_members
entry_numbers e h = (
  IsNumber-decimal e.number h,
  (
    tt,
    (
      tt,
      (
        tt,
        (
          tt,
          numbers_optional (codes "way") e.way (confirmed_on e)
              (numbers_optional (codes "confirmed") e.confirmed (asked_all e)
              (tt, (tt, (tt, (tt, (tt, (tt, (tt, numbers_body e.body no_members tt)))))))),
        ),
      ),
    ),
  ),
)

entry_flat : (e : EntryContents) → depth (object (entry_members e)) ≤ max_depth
unfolding entry_members
entry_flat e =
    let body = flat_body e.body no_members nothing_flat in
    let asked : members_depth (asked_all e) ≤ 0 = omega (arith, body) in
    let way = flat_optional (codes "way") e.way (confirmed_on e) (flat_optional (codes "confirmed") e.confirmed (asked_all e) asked) in
    omega (arith, way)

outcome_numbers : (o : OutcomeContents) → IsOutcome o → o.status < 2 ^ 64 → HasNumbers (object (outcome_members o))
unfolding outcome_members
outcome_numbers o h k = (IsNumber-decimal o.number h.number, (IsNumber-decimal o.status k, numbers_body o.body (chain_on o) (tt, tt)))

outcome_flat : (o : OutcomeContents) → depth (object (outcome_members o)) ≤ max_depth
unfolding outcome_members
outcome_flat o =
    let body = flat_body o.body (chain_on o) (omega arith) in
    omega (arith, body)

-- ---- read back

entry_stated : (x e : EntryContents) → IsEntry e → IsStated x (object (entry_members e)) → x ≡ e
entry_stated x e is h =
    let number : x.number ≡ e.number = h.number e.number is.number (number_seen e) in
    let before : x.before ≡ e.before = h.before ∙ seen (codes "prev") e refl refl refl refl in
    let time : x.time ≡ e.time = h.time ∙ seen (codes "time") e refl refl refl refl in
    let host : x.host ≡ e.host = h.host ∙ seen (codes "host") e refl refl refl refl in
    let user : x.user ≡ e.user = h.user ∙ seen (codes "user") e refl refl refl refl in
    let way : x.way ≡ e.way = h.way ∙ way_seen e in
    let confirmed : x.confirmed ≡ e.confirmed = h.confirmed ∙ confirmed_seen e in
    let address : x.address ≡ e.address = h.address ∙ seen (codes "address") e refl refl refl refl in
    let role : x.role ≡ e.role = h.role ∙ seen (codes "role") e refl refl refl refl in
    let caller : x.caller ≡ e.caller = h.caller ∙ seen (codes "caller") e refl refl refl refl in
    let method : x.method ≡ e.method = h.method ∙ seen (codes "method") e refl refl refl refl in
    let route : x.route ≡ e.route = h.route ∙ seen (codes "route") e refl refl refl refl in
    let version : x.version ≡ e.version = h.version ∙ seen (codes "version") e refl refl refl refl in
    let id : x.id ≡ e.id = h.id ∙ seen (codes "id") e refl refl refl refl in
    let body : x.body ≡ e.body = body_seen e x.body is.body h.body in
    λ i. record {
      number = number i;
      before = before i;
      time = time i;
      host = host i;
      user = user i;
      way = way i;
      confirmed = confirmed i;
      address = address i;
      role = role i;
      caller = caller i;
      method = method i;
      route = route i;
      version = version i;
      id = id i;
      body = body i;
    }

outcome_stated : (x o : OutcomeContents) → IsOutcome o → IsStatedOutcome x (object (outcome_members o)) → x ≡ o
outcome_stated x o is h =
    let number : x.number ≡ o.number = h.number o.number is.number (outcome_number_seen o) in
    let status : x.status ≡ o.status = h.status o.status is.status (status_seen o) in
    let body : x.body ≡ o.body = outcome_body_seen o x.body is.body h.body in
    let chain : x.chain ≡ o.chain = h.chain ∙ chain_seen o in
    λ i. record { number = number i; status = status i; body = body i; chain = chain i }

some_same : (j k : Json) (o : Option Json) → o ≡ Some j → o ≡ Some k → k ≡ j
some_same j k o p q = cc

none_some : (j : Json) (o : Option Json) → o ≡ None → o ≡ Some j → ⊥
none_some j o p q = cc

pub entry_document : (text : List ℕ) (e : EntryContents) → IsEntry e → text ≡ entry_text e → document text ≡ Some (object (entry_members e))
entry_document text e is same = ap document same ∙ document-print (object (entry_members e)) (entry_numbers e is.number) (entry_flat e)

outcome_document : (text : List ℕ) (o : OutcomeContents) → IsOutcome o → text ≡ outcome_text o → document text ≡ Some (object (outcome_members o))
outcome_document text o is same =
    let small = is.status in
    ap document same ∙ document-print (object (outcome_members o)) (outcome_numbers o is (omega (arith, small))) (outcome_flat o)

-- what a text states that is the text of an entry is that entry
pub entry_back : (text : List ℕ) (e x : EntryContents) (j : Json) → IsEntry e → text ≡ entry_text e → document text ≡ Some j → IsStated x j → x ≡ e
entry_back text e x j is same d h =
    let there = some_same j (object (entry_members e)) (document text) d (entry_document text e is same) in
    let P : Json → Type 0 = λ k. IsStated x k in
    entry_stated x e is (subst P (sym there) h)

pub no_entry : (text : List ℕ) (e : EntryContents) → IsEntry e → document text ≡ None → text ≢ entry_text e
no_entry text e is none same = none_some (object (entry_members e)) (document text) none (entry_document text e is same)

pub outcome_back : (text : List ℕ) (o x : OutcomeContents) (j : Json) → IsOutcome o → text ≡ outcome_text o → document text ≡ Some j → IsStatedOutcome x j → x ≡ o
outcome_back text o x j is same d h =
    let there = some_same j (object (outcome_members o)) (document text) d (outcome_document text o is same) in
    let P : Json → Type 0 = λ k. IsStatedOutcome x k in
    outcome_stated x o is (subst P (sym there) h)

pub no_outcome : (text : List ℕ) (o : OutcomeContents) → IsOutcome o → document text ≡ None → text ≢ outcome_text o
no_outcome text o is none same = none_some (object (outcome_members o)) (document text) none (outcome_document text o is same)
