use Rattle.std.proofs.Common.{rules, ◌≡◌, ◌<◌, false, pos, All, length, arith, sym, subst, ◌∙◌, IsTrue, true≢false}
use Rattle.std.specs.BTreeMap.{BTreeMap, get}
use Rattle.std.specs.Prelude.{ℕ, List}
use Rattle.std.proofs.lemmas.List.{take_all}
use Rattle.std.proofs.lemmas.List.Elements.{All-more}
use Rattle.goo_types.specs.Day.{CalendarDay}
use Rattle.goo_spec.specs.State.{text_cmp}
use Rattle.goo_tables_rows.specs.Rows.{device_in}
use Rattle.goo_tables_rows.specs.declared.device.DeviceRow.{DeviceRow}
use Rattle.goo_spec_tables.specs.Readable.{is_device}
use Rattle.goo_store_rules.specs.Production.{HasProgress}
use Rattle.goo_store_rules.specs.Summing.{left_at}
use Rattle.goo_store_rules.specs.declared.energy.Energy.{Energy}
use Rattle.goo_store_rules.proofs.LotDevices.{at_true}
use Rattle.goo_store_rules.proofs.progress.keep_progress.Goals as goal

abbrev Keeps : BTreeMap (List ℕ) CalendarDay → Energy → DeviceRow → Type 0
Keeps ends energy row = HasProgress (get text_cmp ends) (left_at energy) (device_in row)

pub returns-then-not-keeps_progress-clause-refused : goal.returns-then-not-keeps_progress-clause-refused
returns-then-not-keeps_progress-clause-refused c = λ good all.
    let rows = c.args.rows.now in
    let i = c.loop-row.row-index in
    let row = c.row-item.result in
    let low : i < length rows = omega (arith, c.loop-row-test.true) in
    let here = at_true (λ r. is_device (pos 0, device_in r)) rows i row low c.row-item.is good in
    let yes = (c.keeps_progress.ensures here).1 (subst (Keeps c.args.ends.now c.args.energy.now) (sym c.row-item.is) (all i row low)) in
    let no : c.keeps_progress.result ≡ false = search rules in
    absurd (true≢false (sym yes ∙ no))

pub loop-row-preserved : goal.loop-row-preserved
loop-row-preserved c = λ good.
    let rows = c.args.rows.now in
    let i = c.loop-row.row-index in
    let row = c.row-item.result in
    let low : i < length rows = omega (arith, c.loop-row-test.true) in
    let here = at_true (λ r. is_device (pos 0, device_in r)) rows i row low c.row-item.is good in
    let yes : IsTrue c.keeps_progress.result = search rules in
    All-more (Keeps c.args.ends.now c.args.energy.now) rows i row low (c.loop-row.invariant good) (subst (Keeps c.args.ends.now c.args.energy.now) c.row-item.is ((c.keeps_progress.ensures here).0 yes))

pub returns-clause-kept : goal.returns-clause-kept
returns-clause-kept c = λ good _. subst (All (Keeps c.args.ends.now c.args.energy.now)) (take_all c.loop-row.row-index c.args.rows.now c.loop-row-test.false) (c.loop-row.invariant good)
