use Rattle.std.proofs.Common.{◌∙◌, sym, subst}
use Rattle.goo_types.specs.Piece.{IsRising}
use Rattle.goo_core_rules.proofs.Changing.{small-of_book}
use Rattle.goo_core_judges.proofs.Takings.{near_is, near_rises, part_edit, no_fault}
use Rattle.goo_core_judges.proofs.taking.take_part.Goals as goal

pub returns-in_default-clause-taken : goal.returns-in_default-clause-taken
returns-in_default-clause-taken c = λ rows r are is.
    let a = c.args.arriving.now in
    let met = c.in_ok-rows.ensures.value ∙ is in
    let near = near_is a.part.range rows c.in_ok-rows.rows.items c.in_ok-near.near.items c.args.edits.now r are met c.in_ok-near.ensures.rows in
    no_fault c.in_ok-near.near.items c.in_default.field-0 (subst IsRising (sym near) (near_rises a.part.range rows c.args.edits.now r are)) c.in_default.ensures.err

pub returns-clause-taken : goal.returns-clause-taken
returns-clause-taken c = λ rows r are is.
    let a = c.args.arriving.now in
    let met = c.in_ok-rows.ensures.value ∙ is in
    let near = near_is a.part.range rows c.in_ok-rows.rows.items c.in_ok-near.near.items c.args.edits.now r are met c.in_ok-near.ensures.rows in
    part_edit rows c.in-Ok.book c.add.new.self c.args.edits.now a c.args.account c.in_ok-edit.edit c.first-first.ensures.limit.rising r are (c.in-Ok.ensures.ok ∙ near) c.in_ok-edit.ensures.exact c.in_ok-edit.ensures.disjoint c.in_ok-edit.ensures.maximal c.in_ok-edit.ensures.map
    (small-of_book a.part.range c.in-Ok.book c.in_ok-edit.edit c.in_ok-edit.ensures.few c.in_ok-edit.ensures.spares)
