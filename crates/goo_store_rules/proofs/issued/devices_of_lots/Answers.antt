use Rattle.std.proofs.Common.{rules, ◌≡◌, ◌<◌, ◌+◌, false, true, length, arith, map, take, sym, subst, ◌∙◌}
use Rattle.goo_tables_rows.specs.Rows.{lot_in}
use Rattle.goo_store_rules.specs.Production.{AreDevicesOf}
use Rattle.goo_store_rules.proofs.LotDevices.{devices_put, devices_left}
use Rattle.goo_store_rules.proofs.issued.devices_of_lots.Goals as goal
use Rattle.goo_store_rules.proofs.issued.devices_of_lots.Goals.{then-not-is_known+in_ok-insert, else-not-is_known}

pub loop-row-preserved : goal.loop-row-preserved
loop-row-preserved c =
    let rows = c.args.rows.now in
    let i = c.loop-row.row-index in
    let low : i < length rows = omega (arith, c.loop-row-test.true) in
    elim c.if-not-is_known.branch [
      | then-not-is_known+in_ok-insert w ↦
          let none : c.is_known.result ≡ false = search rules in
          subst (AreDevicesOf (map lot_in (take (i + 1) rows))) (sym w.devices-is)
          (devices_put rows i c.row-item.result low c.row-item.is c.loop-row.devices c.loop-row.invariant w.insert.new.self c.in-Some.device (search rules) (sym c.is_known.ensures ∙ none) (λ id. w.in_ok-insert.ensures.updates.0 id))
      | else-not-is_known w ↦
          let there : c.is_known.result ≡ true = search rules in
          subst (AreDevicesOf (map lot_in (take (i + 1) rows))) (sym w.devices-is)
          (devices_left rows i c.row-item.result low c.row-item.is c.loop-row.devices c.loop-row.invariant (sym c.is_known.ensures ∙ there))
    ]
