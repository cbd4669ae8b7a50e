use Rattle.std.proofs.Common.{◌<◌, ◌+◌, ◌++◌, ◌∷◌, [], List, length, map, drop, refl, sym, ap, ◌∙◌, arith, true≢false}
use Rattle.std.proofs.lemmas.List.{append_assoc, append-nil, at_drop_more, at_drop_all}
use Rattle.goo_tables_rows.specs.Rows.{correction_in}
use Rattle.goo_tables_rows.specs.declared.correction.CorrectionRow.{CorrectionRow}
use Rattle.goo_spec_tables.specs.Records.{correction_of}
use Rattle.goo_spec_tables.specs.Readable.{is_correction}
use Rattle.goo_spec.specs.State.{Correction}
use Rattle.goo_store_rules.proofs.LotDevices.{at_true}
use Rattle.goo_store_rules.proofs.corrects.corrects_in.Goals as goal

pub loop-row-preserved : goal.loop-row-preserved
loop-row-preserved c =
    let rows = c.args.rows.now in
    let i = c.loop-row.row-index in
    let low : i < length rows = omega (arith, c.loop-row-test.true) in
    let stated : List CorrectionRow → List Correction = λ xs. map correction_of (map correction_in xs) in
    let items = c.loop-row.corrected.items in
    let rest = stated (drop (i + 1) rows) in
    ap (λ xs. xs ++ rest) c.in_ok-push.ensures ∙ append_assoc items (c.in-Some.correction ∷ []) rest
    ∙ ap (λ ys. items ++ ys) (ap (λ x. x ∷ rest) (c.in-Some.ensures.value ∙ ap (λ row. correction_of (correction_in row)) c.row-item.is) ∙ sym (at_drop_more stated rows i c.row-item.result low))
    ∙ c.loop-row.invariant

pub returns-in_default-clause-value : goal.returns-in_default-clause-value
returns-in_default-clause-value c = tt

pub returns-clause-readable : goal.returns-clause-readable
returns-clause-readable c all = refl

pub returns-in_default-clause-readable : goal.returns-in_default-clause-readable
returns-in_default-clause-readable c all =
    let low : c.loop-row.row-index < length c.args.rows.now = omega (arith, c.loop-row-test.true) in
    absurd (true≢false (sym (c.in_default.ensures.readable (at_true (λ row. is_correction (correction_in row)) c.args.rows.now c.loop-row.row-index c.row-item.result low c.row-item.is all))))

pub returns-clause-value : goal.returns-clause-value
returns-clause-value c =
    let stated : List CorrectionRow → List Correction = λ xs. map correction_of (map correction_in xs) in
    let items = c.loop-row.corrected.items in
    sym (append-nil items) ∙ ap (λ ys. items ++ ys) (sym (at_drop_all stated c.args.rows.now c.loop-row.row-index c.loop-row-test.false)) ∙ c.loop-row.invariant
