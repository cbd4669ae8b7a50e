-- No two entries share a text.
use Rattle.std.proofs.Common.{◌≡◌, ◌≢◌, ◌<◌, ◌^◌, ◌∙◌, Bool, true, false, List, [], ℕ, Ok, refl, sym, ap, subst}
use Rattle.std.specs.Prelude.{if◌then◌else◌, codes, decimal, Option, Some, None, Result, option_and_then}
use Rattle.std.proofs.lemmas.Fmt.{decimal_injective}
use Rattle.base64.proofs.EngineFacts.{decode_of-encode_of}
use Rattle.base64.specs.Engines.{standard}
use Rattle.base64.specs.GeneralPurpose.{IsBytes, encode_of, decode_of}
use Rattle.json.specs.Find.{get, get_member, as_str}
use Rattle.json.specs.Json.{Json, object, no_members, member, string}
use Rattle.goo_log_entry.specs.Contents.{EntryContents, IsEntry}
use Rattle.goo_log_entry.specs.Body.{is_plain, with_body}
use Rattle.goo_log_entry.specs.Read.{IsBodyIn, IsNumberIn, IsStated}
use Rattle.goo_log_entry.specs.Text.{entry_members, entry_text}
use Rattle.goo_log_entry.proofs.Found.{seen, number_seen, way_seen, confirmed_seen, plain_reach, coded_reach}
use Rattle.goo_log_entry.proofs.ReadBack.{entry_back, entry_document}

some_text : (o : Option (List ℕ)) (a b : List ℕ) → o ≡ Some a → o ≡ Some b → a ≡ b
some_text o a b p q = cc

none_text : {A : Type 0} (o : Option (List ℕ)) (a : List ℕ) → o ≡ None → o ≡ Some a → A
none_text o a p q = absurd cc

ok_same : {E : Type 0} (r s : Result (List ℕ) E) (a b : List ℕ) → r ≡ Ok a → s ≡ Ok b → r ≡ s → a ≡ b
ok_same r s a b p q e = cc

coded_same : (a b : List ℕ) → IsBytes a → IsBytes b → encode_of standard a ≡ encode_of standard b → a ≡ b
coded_same a b h k e =
    ok_same (decode_of standard (encode_of standard a)) (decode_of standard (encode_of standard b)) a b
    (decode_of-encode_of standard a refl h) (decode_of-encode_of standard b refl k) (ap (decode_of standard) e)

own_body : (body : List ℕ) (j : Json) → IsBytes body
    → get (codes "body") j ≡ get_member (codes "body") (with_body body no_members)
    → get (codes "body64") j ≡ get_member (codes "body64") (with_body body no_members)
    → IsBodyIn body j
own_body body j bytes p q =
    elim (is_plain body) as (λ b. is_plain body ≡ b → IsBodyIn body j) [
      | true ↦ λ e.
          let is : option_and_then as_str (get (codes "body") j) ≡ Some body = ap (option_and_then as_str) p ∙ rw e refl in
          record {
            plain = λ other h. some_text _ body other is h;
            coded = λ other small h k. none_text _ body h is;
          }
      | false ↦ λ e.
          let none : option_and_then as_str (get (codes "body") j) ≡ None = ap (option_and_then as_str) p ∙ rw e refl in
          let is : option_and_then as_str (get (codes "body64") j) ≡ Some (encode_of standard body) = ap (option_and_then as_str) q ∙ rw e refl in
          record {
            plain = λ other h. none_text _ other none h;
            coded = λ other small h k. coded_same body other bytes small (some_text _ (encode_of standard body) (encode_of standard other) is k);
          }
    ] refl

own : (e : EntryContents) → IsEntry e → IsStated e (object (entry_members e))
own e is = record {
  number = λ n small h. decimal_injective e.number n is.number small (some_text _ (decimal e.number) (decimal n) (number_seen e) h);
  before = sym (seen (codes "prev") e refl refl refl refl);
  time = sym (seen (codes "time") e refl refl refl refl);
  host = sym (seen (codes "host") e refl refl refl refl);
  user = sym (seen (codes "user") e refl refl refl refl);
  way = sym (way_seen e);
  confirmed = sym (confirmed_seen e);
  address = sym (seen (codes "address") e refl refl refl refl);
  role = sym (seen (codes "role") e refl refl refl refl);
  caller = sym (seen (codes "caller") e refl refl refl refl);
  method = sym (seen (codes "method") e refl refl refl refl);
  route = sym (seen (codes "route") e refl refl refl refl);
  version = sym (seen (codes "version") e refl refl refl refl);
  id = sym (seen (codes "id") e refl refl refl refl);
  body = own_body e.body (object (entry_members e)) is.body (plain_reach e) (coded_reach e);
}

pub entry_texts_differ : (a b : EntryContents) → IsEntry a → IsEntry b → entry_text a ≡ entry_text b → a ≡ b
entry_texts_differ a b h k e = entry_back (entry_text a) b a (object (entry_members a)) k e (entry_document (entry_text a) a h refl) (own a h)
