use Rattle.std.proofs.Common.{◌≡◌, ◌∙◌, ◌++◌, List, [], ◌∷◌, Option, take, ap, sym, subst, arith}
use Rattle.std.proofs.lemmas.List.{take_more}
use Rattle.goo_ranges.specs.declared.edits.Edit.{Edit}
use Rattle.goo_ranges_rows.specs.Plans.{AreEditsOf}
use Rattle.goo_ranges_rows.specs.Rows.{meeting}
use Rattle.goo_core_judges.specs.Taking.{IsStepOf, IsPartEdit, AreTaken}
use Rattle.goo_core_moves.specs.declared.arriving.Arriving.{Arriving}
use Rattle.goo_core_judges.proofs.Takings.{taken_more, met_at}
use Rattle.goo_core_judges.proofs.taking.take_parts.Goals as goal

pub returns-in_default-clause-taken : goal.returns-in_default-clause-taken
returns-in_default-clause-taken c = λ rows r met.
    let a = c.part-item.result in
    let i = c.loop-part.part-index in
    let so_far = (c.loop-part.invariant rows r met).edits in
    let here : a.book ≡ meeting a.part.range rows = subst (λ (x : Arriving). x.book ≡ meeting x.part.range rows) (sym c.part-item.is) (met_at rows c.args.arriving.now i a met (omega (arith, c.loop-part-test.true))) in
    let step : IsStepOf rows c.deref.result.now a c.args.account c.in_ok-edit.field-0 = c.in_ok-edit.ensures.taken rows r (subst (AreEditsOf rows) (sym c.deref.ensures.value) so_far) here in
    subst (λ (o : Option Edit). IsStepOf rows c.deref.result.now a c.args.account o) c.in_default.is step

pub loop-part-preserved : goal.loop-part-preserved
loop-part-preserved c = λ rows r met.
    let a = c.part-item.result in
    let i = c.loop-part.part-index in
    let before = c.loop-part.invariant rows r met in
    let here : a.book ≡ meeting a.part.range rows = subst (λ (x : Arriving). x.book ≡ meeting x.part.range rows) (sym c.part-item.is) (met_at rows c.args.arriving.now i a met (omega (arith, c.loop-part-test.true))) in
    let step : IsStepOf rows c.deref.result.now a c.args.account c.in_ok-edit.field-0 = c.in_ok-edit.ensures.taken rows r (subst (AreEditsOf rows) (sym c.deref.ensures.value) before.edits) here in
    let edit : IsPartEdit rows c.deref.result.now a c.args.account c.in-Some.edit = subst (λ (o : Option Edit). IsStepOf rows c.deref.result.now a c.args.account o) c.in-Some.is step in
    let same : IsPartEdit rows c.loop-part.edits.items a c.args.account c.in-Some.edit = subst (λ es. IsPartEdit rows es a c.args.account c.in-Some.edit) c.deref.ensures.value edit in
    let more = taken_more rows (take i c.args.arriving.now) a c.args.account c.loop-part.edits.items c.push_edit.new.edits.items c.in-Some.edit r before same c.in_ok-push_edit.ensures in
    subst (λ (l : List Arriving). AreTaken rows l c.args.account c.push_edit.new.edits.items) (sym (take_more c.args.arriving.now i a (omega (arith, c.loop-part-test.true)) ∙ ap (λ (x : Arriving). take i c.args.arriving.now ++ x ∷ []) (sym c.part-item.is))) more
