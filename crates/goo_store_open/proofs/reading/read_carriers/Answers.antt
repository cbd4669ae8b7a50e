use Rattle.std.proofs.Common.{rules, ◌≡◌, Ok, Err, map, sym, subst}
use Rattle.std.specs.Prelude.{⊤}
use Rattle.sqlite.specs.Held.{state}
use Rattle.goo_tables_rows.specs.Rows.{device_carrier_row, device_carrier_in, lot_carrier_row, lot_carrier_key, lot_carrier_in}
use Rattle.goo_tables_rows.specs.Stands.{Keeps}
use Rattle.goo_tables_rows.specs.Met.{KeepsSome}
use Rattle.goo_store_open.specs.Reading.{OnlyReads}
use Rattle.goo_store_open.specs.Shown.{ShowsCarriers}
use Rattle.goo_store_open.specs.declared.layout.Layout.TheVariants.{Ours}
use Rattle.goo_store_open.proofs.Chaining.{reads_table, reads_then, reads_failed, reads_made}
use Rattle.goo_store_open.proofs.reading.read_carriers.Goals as goal

pub returns-in_err-all_device_carriers : goal.returns-in_err-all_device_carriers
returns-in_err-all_device_carriers g c =
    let s0 = state g.S.Store c.args.conn.now in
    let s1 = state g.S.Store c.all_device_carriers.new.conn in
    let t1 = reads_table s0 s1 _ _ (λ _ _. ⊤) _ c.in_err-all_device_carriers.ensures.looks c.in_err-all_device_carriers.ensures.outside (λ _ _. tt) c.in_err-all_device_carriers.ensures.readable c.in_err-all_device_carriers.ensures.refused (λ _ can. can.device_carriers) in
    let same : c.from_residual.result ≡ Err c.in_err-all_device_carriers.field-0.0 = search rules in
    subst (λ r. OnlyReads Ours s0 s1 r ShowsCarriers) (sym same) (reads_failed Ours s0 s1 _ _ ShowsCarriers t1)

pub returns-in_err-all_lot_carriers : goal.returns-in_err-all_lot_carriers
returns-in_err-all_lot_carriers g c =
    let s0 = state g.S.Store c.args.conn.now in
    let s1 = state g.S.Store c.all_device_carriers.new.conn in
    let s2 = state g.S.Store c.all_lot_carriers.new.conn in
    let t1 = reads_table s0 s1 _ _ (λ _ _. ⊤) _ c.in_ok-all_device_carriers.ensures.looks c.in_ok-all_device_carriers.ensures.outside (λ _ _. tt) c.in_ok-all_device_carriers.ensures.readable c.in_ok-all_device_carriers.ensures.refused (λ _ can. can.device_carriers) in
    let t2 = reads_table s1 s2 _ _ (λ _ _. ⊤) _ c.in_err-all_lot_carriers.ensures.looks c.in_err-all_lot_carriers.ensures.outside (λ _ _. tt) c.in_err-all_lot_carriers.ensures.readable c.in_err-all_lot_carriers.ensures.refused (λ _ can. can.lot_carriers) in
    let r1 = reads_then Ours s0 s1 s2 _ _ _ _ t1 t2 in
    let same : c.from_residual-in_err-all_lot_carriers.result ≡ Err c.in_err-all_lot_carriers.field-0.0 = search rules in
    subst (λ r. OnlyReads Ours s0 s2 r ShowsCarriers) (sym same) (reads_failed Ours s0 s2 _ _ ShowsCarriers r1)

pub returns : goal.returns
returns g c =
    let s0 = state g.S.Store c.args.conn.now in
    let s1 = state g.S.Store c.all_device_carriers.new.conn in
    let s2 = state g.S.Store c.all_lot_carriers.new.conn in
    let t1 = reads_table s0 s1 (Ok c.in_ok-all_device_carriers.field-0) _ (λ db x. KeepsSome (db.trees 23) device_carrier_row (map device_carrier_in x.items)) _ c.in_ok-all_device_carriers.ensures.looks c.in_ok-all_device_carriers.ensures.outside c.in_ok-all_device_carriers.ensures.met c.in_ok-all_device_carriers.ensures.readable c.in_ok-all_device_carriers.ensures.refused (λ _ can. can.device_carriers) in
    let t2 = reads_table s1 s2 (Ok c.in_ok-all_lot_carriers.field-0) _ (λ db x. Keeps (db.trees 25) lot_carrier_row lot_carrier_key (map lot_carrier_in x.items)) _ c.in_ok-all_lot_carriers.ensures.looks c.in_ok-all_lot_carriers.ensures.outside c.in_ok-all_lot_carriers.ensures.met c.in_ok-all_lot_carriers.ensures.readable c.in_ok-all_lot_carriers.ensures.refused (λ _ can. can.lot_carriers) in
    let r1 = reads_then Ours s0 s1 s2 _ _ _ _ t1 t2 in
    reads_made Ours s0 s2 _ _ _ ShowsCarriers r1 (λ db h. record { devices = h.0; lots = h.1 })
