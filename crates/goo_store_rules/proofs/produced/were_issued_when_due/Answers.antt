use Rattle.std.proofs.Common.{rules, map}
use Rattle.goo_tables_rows.specs.Rows.{lot_in}
use Rattle.goo_store_rules.specs.Production.{AreDevicesOf}
use Rattle.goo_store_rules.proofs.produced.were_issued_when_due.Goals as goal

pub returns : goal.returns
returns c = λ sums good.
    let lots = map lot_in c.args.lots.now in
    let are : AreDevicesOf lots c.in-Some.devices = search rules in
    c.have_due.ensures c.args.own lots c.args.declared.now c.args.corrected.now c.args.pieces.now (c.in_ok-counts.ensures lots are c.args.corrected.now c.in_ok-taken.ensures) sums
