use Rattle.std.proofs.Common.{rules, ◌∙◌, ◌≤◌, length, arith, take}
use Rattle.httparse.specs.Spans.{IsWithin}
use Rattle.goo_desk_heads.specs.Heads.{most_head}
use Rattle.goo_desk_heads.proofs.HeadFacts.{head-found, no-head-in, no-head-ever, span-of-front, within-front, value-of-front, value-within-front}
use Rattle.goo_desk_heads.proofs.front.front_of.Goals as goal

pub returns-in-Ok-Complete : goal.returns-in-Ok-Complete
returns-in-Ok-Complete c =
    let made = rw c.in-Ok-Complete.field-0-is at c.in-Ok-Complete.ensures in
    let h = made.complete.0 in
    let at = made.complete.1 in
    let bytes = c.args.bytes.now in
    let n = c.min.result in
    let head = c.in-Ok-Complete.head in
    let fits = made.within.section.len_fits in
    let method : IsWithin (length (take n bytes)) head.method = (made.within.method.0, omega (arith, made.within.method.1, fits)) in
    let target : IsWithin (length (take n bytes)) head.path = (made.within.path.0, omega (arith, made.within.path.1, fits)) in (
      h,
      head-found bytes n c.parse_request.new.headers head h c.min.ensures (search rules) made.within at,
      record {
        method_within = within-front bytes n head.method method;
        target_within = within-front bytes n head.path target;
        caller_within = value-within-front bytes n c.sole_value.result c.sole_value.ensures.within;
        method = span-of-front bytes n head.method method ∙ at.method;
        target = span-of-front bytes n head.path target ∙ at.path;
        caller = value-of-front bytes n c.sole_value.result c.sole_value.ensures.within ∙ (rw (at.fields) at c.sole_value.ensures.value);
        ends = at.len;
        size = rw (at.fields, at.version) at c.body_length.ensures.value;
        few = c.body_length.ensures.few;
      },
    )

pub returns-else-bytes-lt-MOST_HEAD : goal.returns-else-bytes-lt-MOST_HEAD
returns-else-bytes-lt-MOST_HEAD c =
    let full : most_head ≤ length c.args.bytes.now = omega (arith, c.if-bytes-lt-MOST_HEAD.false) in
    no-head-in c.args.bytes.now c.min.result c.min.ensures full (rw c.in-Ok-Partial.field-0-is at c.in-Ok-Partial.ensures).partial

pub returns-in-Err : goal.returns-in-Err
returns-in-Err c = no-head-ever c.args.bytes.now c.min.result c.in-Err.ensures.no_room
