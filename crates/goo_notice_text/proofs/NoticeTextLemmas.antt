-- A notice's text is read as it, and no other bytes are.
use Rattle.std.proofs.Common.{◌≡◌, ℕ, List, Bool, true, false, Some, Result, Ok, Err, refl, sym, ap, subst, ◌∙◌, if◌then◌else◌}
use Rattle.std.specs.Option.{ok_or}
use Rattle.std.specs.Str.{bytes_eq}
use Rattle.std.proofs.lemmas.Slice.Eq.{bytes_eq-Decides}
use Rattle.serde_json.specs.Data.{Data}
use Rattle.serde_json.specs.Read.{read}
use Rattle.goo_types.specs.Notice.{NoticeContents}
use Rattle.goo_notice_text.specs.declared.notice_fault.NoticeFault.{NoticeFault}
use Rattle.goo_notice_text.specs.declared.notice_fault.NoticeFault.TheVariants.{NotJson, Canonical}
use Rattle.goo_notice_json.specs.declared.value_fault.ValueFault.{ValueFault}
use Rattle.goo_notice_json.specs.Faults.{◌>>=◌}
use Rattle.goo_notice_text.specs.NoticeFaults.{as_notice}
use Rattle.goo_notice_text.specs.Notice.{notice_data, notice_text, IsStatedNotice, notice_of}
use Rattle.goo_notice_json.specs.Json.{json_in}
use Rattle.goo_notice_text.specs.NoticeText.{canonical, notice_in, NoticesAreReadFromTheirTexts, NoticeTextsDiffer}
use Rattle.goo_notice_json.proofs.FieldLimits.{bind_ok}
use Rattle.goo_notice_json.proofs.JsonLemmas.{json_in_read}
use Rattle.goo_notice_text.proofs.NoticeLimits.{notice}
use Rattle.goo_notice_text.proofs.NoticeLemmas.{reads_back, stated}
use Rattle.goo_notice_text.proofs.NoticeUtf8Lemmas.{IsUtf8-notice_text}
use Rattle.goo_notice_json.proofs.TextLemmas.{read-compact_text}

guard_ok : {A : Type 0} (b : Bool) (d : NoticeFault) (x y : A) → (if b then Ok x else Err d) ≡ Ok y → (b ≡ true) × (x ≡ y)
guard_ok true d x y e = (refl, cc)
guard_ok false d x y e = absurd cc

value_ok : {A : Type 0} (r : Result A ValueFault) (x : A) → as_notice r ≡ Ok x → r ≡ Ok x
value_ok (Ok a) x e = cc
value_ok (Err d) x e = absurd cc

only_its_text : (bytes : List ℕ) (n : NoticeContents) → notice_in bytes ≡ Ok n → IsStatedNotice n × (bytes ≡ notice_text n)
unfolding notice_in
only_its_text bytes n e =
    let a = bind_ok (ok_or (json_in bytes) NotJson) (λ (d : Data). as_notice (notice_of d) >>= canonical bytes) n e in
    let b = bind_ok (as_notice (notice_of a.0)) (canonical bytes) n a.2 in
    let g = guard_ok (bytes_eq (notice_text b.0) bytes) Canonical b.0 n b.2 in (
      subst (λ x. IsStatedNotice x) g.1 (notice a.0 b.0 (value_ok (notice_of a.0) b.0 b.1)),
      sym ((bytes_eq-Decides (notice_text b.0) bytes).0 g.0) ∙ ap notice_text g.1,
    )

read-text : (n : NoticeContents) → IsStatedNotice n → read (notice_text n) ≡ Some (notice_data n)
unfolding notice_text
read-text n h = read-compact_text (notice_data n) (reads_back n h)

same : (bytes : List ℕ) → bytes_eq bytes bytes ≡ true
same bytes = (bytes_eq-Decides bytes bytes).1 refl

each_notice_is_read : (n : NoticeContents) → IsStatedNotice n → notice_in (notice_text n) ≡ Ok n
unfolding notice_in
each_notice_is_read n h =
    let d = json_in_read (notice_text n) (notice_data n) (IsUtf8-notice_text n h) (read-text n h) in
    rw (d, stated n h, same (notice_text n)) refl

-- bytes that are the text of a notice are read as it
pub text_is_read : (bytes : List ℕ) (n : NoticeContents) → bytes ≡ notice_text n → IsStatedNotice n → notice_in bytes ≡ Ok n
text_is_read bytes n e h = ap notice_in e ∙ each_notice_is_read n h

pub notices_are_read_from_their_texts : NoticesAreReadFromTheirTexts
notices_are_read_from_their_texts bytes n = (only_its_text bytes n, λ h. text_is_read bytes n h.1 h.0)

ok_same : (a b : NoticeContents) (r : Result NoticeContents NoticeFault) → r ≡ Ok a → r ≡ Ok b → a ≡ b
ok_same a b r p q = cc

pub notice_texts_differ : NoticeTextsDiffer
notice_texts_differ a b p q same_text = ok_same a b (notice_in (notice_text a)) (each_notice_is_read a p) (ap notice_in same_text ∙ each_notice_is_read b q)
