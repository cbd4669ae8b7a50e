-- A notice that a JSON value states is within its limits.
use Rattle.std.proofs.Common.{◌≡◌, ◌==◌, ℤ, codes, Ok, subst}
use Rattle.serde_json.specs.Data.{Data, Items}
use Rattle.serde_json.specs.Find.{as_object}
use Rattle.goo_types.specs.Notice.{NoticeContents, notice_contents}
use Rattle.goo_notice_json.specs.Members.{integer_at, items_at, of_size}
use Rattle.goo_notice_json.specs.Fields.{integer_in}
use Rattle.goo_notice_text.specs.Notice.{IsStatedNotice, is_notice, notice_fields_of, carried_in, notice_of}
use Rattle.goo_notice_json.specs.Parts.{parts_shape, parts_of}
use Rattle.goo_notice_json.proofs.FieldLimits.{bind_ok, accepted_ok, within_limits}
use Rattle.goo_notice_json.proofs.PartsLimits.{parts}
use Rattle.goo_notice_text.proofs.RuleLemmas.{Decides-is_notice}

fields : (account addressee number sender version : ℤ) (ds : Items) (n : NoticeContents) → notice_fields_of account addressee number sender version ds ≡ Ok n → IsStatedNotice n
unfolding notice_fields_of
fields account addressee number sender version ds n e =
    let a0 = bind_ok (integer_in 1 2 version) _ n e in
    let a1 = bind_ok (integer_in 1 99 sender) _ n a0.2 in
    let a2 = bind_ok (integer_in 1 99 addressee) _ n a1.2 in
    let a3 = bind_ok (integer_in 1 999999999 number) _ n a2.2 in
    let a4 = bind_ok (integer_in 1 999999999 account) _ n a3.2 in
    let a5 = bind_ok (parts_of (a0.0 == 2) ds) _ n a4.2 in
    let t = accepted_ok is_notice (notice_contents a1.0 a2.0 a3.0 a4.0 a5.0) n a5.2 in
    subst (λ x. IsStatedNotice x) t.1 (record {
      sender = within_limits 1 99 sender a1.0 a1.1;
      addressee = within_limits 1 99 addressee a2.0 a2.1;
      number = within_limits 1 999999999 number a3.0 a3.1;
      account = within_limits 1 999999999 account a4.0 a4.1;
      parts = parts (a0.0 == 2) ds a5.0 a5.1;
      notice = (Decides-is_notice (notice_contents a1.0 a2.0 a3.0 a4.0 a5.0)).0 t.0;
    })

pub notice : (d : Data) (n : NoticeContents) → notice_of d ≡ Ok n → IsStatedNotice n
unfolding notice_of
notice d n e =
    let a0 = bind_ok (of_size 6 (as_object d)) _ n e in
    let a1 = bind_ok (integer_at (codes "account") d) _ n a0.2 in
    let a2 = bind_ok (integer_at (codes "addressee") d) _ n a1.2 in
    let a3 = bind_ok (integer_at (codes "number") d) _ n a2.2 in
    let a4 = bind_ok (items_at (codes "parts") d) _ n a3.2 in
    let a5 = bind_ok (integer_at (codes "sender") d) _ n a4.2 in
    let a6 = bind_ok (integer_at (codes "version") d) _ n a5.2 in
    let a7 = bind_ok (parts_shape (carried_in a6.0) a4.0) _ n a6.2 in
    fields a1.0 a2.0 a3.0 a5.0 a6.0 a4.0 n a7.2
