-- The tokens that are written are those of the object.
use Rattle.std.proofs.Common.{◌≡◌, ◌++◌, Bool, true, false, List, [], ℕ, refl, append_assoc}
use Rattle.std.specs.Prelude.{if◌then◌else◌, codes}
use Rattle.base64.specs.Engines.{standard}
use Rattle.base64.specs.GeneralPurpose.{encode_of}
use Rattle.json.specs.Json.{object, Members, no_members, member, string}
use Rattle.json.specs.Tree.{json_tokens, members_tokens}
use Rattle.goo_log_entry.specs.Contents.{EntryContents, OutcomeContents}
use Rattle.goo_log_entry.specs.Body.{is_plain, with_body}
use Rattle.goo_log_entry.specs.Text.{is_empty, optional, entry_members, outcome_members}
use Rattle.goo_log_entry.specs.Tokens.{text_tokens, optional_tokens, body_tokens, entry_tokens, outcome_tokens}

if_optional : (b : Bool) (name text : List ℕ) (rest : Members)
    → members_tokens (if b then rest else member name (string text) rest) ≡ (if b then [] else text_tokens name text) ++ members_tokens rest
if_optional true name text rest = refl
if_optional false name text rest = refl

of_optional : (name text : List ℕ) (rest : Members) → members_tokens (optional name text rest) ≡ optional_tokens name text ++ members_tokens rest
of_optional name text rest = if_optional (is_empty text) name text rest

if_body : (b : Bool) (plain coded text other : List ℕ) (rest : Members)
    → members_tokens (if b then member plain (string text) rest else member coded (string other) rest)
    ≡ (if b then text_tokens plain text else text_tokens coded other) ++ members_tokens rest
if_body true plain coded text other rest = refl
if_body false plain coded text other rest = refl

of_body : (body : List ℕ) (rest : Members) → members_tokens (with_body body rest) ≡ body_tokens body ++ members_tokens rest
of_body body rest = if_body (is_plain body) (codes "body") (codes "body64") body (encode_of standard body) rest

pub entry_written : (e : EntryContents) → entry_tokens e ≡ json_tokens (object (entry_members e))
unfolding entry_members
entry_written e =
    rw (
      of_optional (codes "way") e.way,
      of_optional (codes "confirmed") e.confirmed,
      of_body e.body no_members,
    ) (simp append_assoc refl)

pub outcome_written : (o : OutcomeContents) → outcome_tokens o ≡ json_tokens (object (outcome_members o))
unfolding outcome_members
outcome_written o = rw (of_body o.body) (simp append_assoc refl)
