use Rattle.std.proofs.Common.{◌≡◌, ◌∙◌, None, Some, sym, ap, rules}
use Rattle.std.specs.BTreeMap as tree
use Rattle.std.specs.Cmp.Lexicographic.{nat_list_cmp_total}
use Rattle.std.specs.FinMap.{get}
use Rattle.goo_spec.specs.State.{text_cmp}
use Rattle.goo_core_shelf.specs.Maps.{map_of}
use Rattle.goo_core_shelf.proofs.MapLemmas.{get-map_of}
use Rattle.goo_tables_rows.specs.Rows.{device_in}
use Rattle.goo_spec_tables.proofs.DeviceLemmas.{noted_row}
use Rattle.goo_store.proofs.device_numbers.note.Goals as goal

pub returns-in-None-clause-noted : goal.returns-in-None-clause-noted
returns-in-None-clause-noted c = noted_row c.args.known.now c.insert.new.self c.in_ok-number.number c.in_ok-device.device (device_in c.args.row.now) (search rules) (search rules) c.in_ok-insert.ensures.updates (search rules)

pub returns-in-Some-clause-accepts : goal.returns-in-Some-clause-accepts
returns-in-Some-clause-accepts c fits free =
    let there : tree.get text_cmp c.args.known.now c.in_ok-number.number ≡ Some c.in-Some.field-0 = search rules in
    let key : c.in_ok-number.number ≡ (device_in c.args.row.now).gsrn = search rules in
    let absent : tree.get text_cmp c.args.known.now c.in_ok-number.number ≡ None =
    sym (get-map_of nat_list_cmp_total c.args.known.now c.in_ok-number.number) ∙ ap (get (map_of text_cmp c.args.known.now)) key ∙ free in
    let both = sym there ∙ absent in
    absurd (cc)
