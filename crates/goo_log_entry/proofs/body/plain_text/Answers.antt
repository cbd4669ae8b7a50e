use Rattle.std.proofs.Common.{◌≡◌, ◌∙◌, ap, length, arith}
use Rattle.json.specs.Print.{quoted}
use Rattle.goo_log_entry.proofs.Plain.{not_utf8, short_is_plain, long_is_plain}
use Rattle.goo_log_entry.proofs.body.plain_text.Goals as goal

pub returns-in_default : goal.returns-in_default
returns-in_default c = not_utf8 c.args.body.now c.in_default.ensures.cases.0

pub returns-then-body-lt-SHORT : goal.returns-then-body-lt-SHORT
returns-then-body-lt-SHORT c =
    let h = c.in-Ok.ensures.cases in (h.0, short_is_plain c.args.body.now h.1 c.if-body-lt-SHORT.true)

pub returns : goal.returns
returns c =
    let h = c.in-Ok.ensures.cases in
    let len : c.in_ok-quoted_len.field-0 ≡ length (quoted c.args.body.now) = c.in_ok-quoted_len.ensures ∙ ap (λ t. length (quoted t)) h.0 in
    let bound = c.if-branch-body.false in
    (h.0, long_is_plain c.args.body.now h.1 c.if-body-lt-SHORT.false (omega (arith, len, bound)))
