use Rattle.std.proofs.Common.{◌≡◌, Some, sym, eq-eqb, ne_eqb}
use Rattle.serde_json.specs.View.{view, members_view}
use Rattle.serde_json.specs.Find.{as_object}
use Rattle.goo_notice_json.proofs.BodyLemmas.{members_len-members_view}
use Rattle.goo_notice_json.proofs.members.of_size.Goals as goal

pub returns-in-Some : goal.returns-in-Some
returns-in-Some c =
    let object : as_object (view c.args.value.now) ≡ Some (members_view c.in-Some.members.now.entries) = sym c.in-Some.ensures in
    rw (object, members_len-members_view, ← c.len.ensures.len, eq-eqb _ _ c.if-len-size.true)

pub returns-in_default : goal.returns-in_default
returns-in_default c =
    let object : as_object (view c.args.value.now) ≡ Some (members_view c.in-Some.members.now.entries) = sym c.in-Some.ensures in
    rw (object, members_len-members_view, ← c.len.ensures.len, ne_eqb _ _ c.if-len-size.false)
