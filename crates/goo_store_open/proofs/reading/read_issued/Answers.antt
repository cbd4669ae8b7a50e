use Rattle.std.proofs.Common.{rules, ◌≡◌, Ok, Err, map, sym, subst}
use Rattle.sqlite.specs.Held.{state}
use Rattle.goo_tables_rows.specs.Rows.{device_in, declaration_row, declaration_key, declaration_in, lot_in, piece_row, piece_key}
use Rattle.goo_tables_rows.specs.Stands.{Keeps}
use Rattle.goo_tables.specs.Carriers.{KeepsBareDevices, KeepsBareLots}
use Rattle.goo_store_open.specs.Reading.{OnlyReads}
use Rattle.goo_store_open.specs.Shown.{ShowsIssued}
use Rattle.goo_store_open.proofs.Carrying.{devices_read, lots_read}
use Rattle.goo_store_open.proofs.Chaining.{reads_one, reads_then, reads_failed, reads_made}
use Rattle.goo_store_open.proofs.reading.read_issued.Goals as goal

pub returns-in_err-all_devices : goal.returns-in_err-all_devices
returns-in_err-all_devices g c = λ layout.
    let s0 = state g.S.Store c.args.conn.now in
    let s1 = state g.S.Store c.all_devices.new.conn in
    let t1 = reads_one layout s0 s1 (Err c.in_err-all_devices.field-0.0) _ (λ db x. KeepsBareDevices (db.trees 4) (map device_in x.items)) _ c.in_err-all_devices.ensures.looks c.in_err-all_devices.ensures.outside c.in_err-all_devices.ensures.met c.in_err-all_devices.ensures.readable c.in_err-all_devices.ensures.refused c.in_err-all_devices.ensures.first (λ _ h. h) (λ t can. devices_read t.devices can.devices) in
    let same : c.from_residual.result ≡ Err c.in_err-all_devices.field-0.0 = search rules in
    subst (λ r. OnlyReads layout s0 s1 r ShowsIssued) (sym same) (reads_failed layout s0 s1 _ _ ShowsIssued t1)

pub returns-in_err-all_declarations : goal.returns-in_err-all_declarations
returns-in_err-all_declarations g c = λ layout.
    let s0 = state g.S.Store c.args.conn.now in
    let s1 = state g.S.Store c.all_devices.new.conn in
    let s2 = state g.S.Store c.all_declarations.new.conn in
    let t1 = reads_one layout s0 s1 (Ok c.in_ok-all_devices.field-0) _ (λ db x. KeepsBareDevices (db.trees 4) (map device_in x.items)) _ c.in_ok-all_devices.ensures.looks c.in_ok-all_devices.ensures.outside c.in_ok-all_devices.ensures.met c.in_ok-all_devices.ensures.readable c.in_ok-all_devices.ensures.refused c.in_ok-all_devices.ensures.first (λ _ h. h) (λ t can. devices_read t.devices can.devices) in
    let t2 = reads_one layout s1 s2 (Err c.in_err-all_declarations.field-0.0) _ (λ db x. Keeps (db.trees 6) declaration_row declaration_key (map declaration_in x.items)) _ c.in_err-all_declarations.ensures.looks c.in_err-all_declarations.ensures.outside c.in_err-all_declarations.ensures.met c.in_err-all_declarations.ensures.readable c.in_err-all_declarations.ensures.refused c.in_err-all_declarations.ensures.first (λ _ h. h) (λ _ can. can.declarations) in
    let r1 = reads_then layout s0 s1 s2 _ _ _ _ t1 t2 in
    let same : c.from_residual-in_err-all_declarations.result ≡ Err c.in_err-all_declarations.field-0.0 = search rules in
    subst (λ r. OnlyReads layout s0 s2 r ShowsIssued) (sym same) (reads_failed layout s0 s2 _ _ ShowsIssued r1)

pub returns-in_err-all_lots : goal.returns-in_err-all_lots
returns-in_err-all_lots g c = λ layout.
    let s0 = state g.S.Store c.args.conn.now in
    let s1 = state g.S.Store c.all_devices.new.conn in
    let s2 = state g.S.Store c.all_declarations.new.conn in
    let s3 = state g.S.Store c.all_lots.new.conn in
    let t1 = reads_one layout s0 s1 (Ok c.in_ok-all_devices.field-0) _ (λ db x. KeepsBareDevices (db.trees 4) (map device_in x.items)) _ c.in_ok-all_devices.ensures.looks c.in_ok-all_devices.ensures.outside c.in_ok-all_devices.ensures.met c.in_ok-all_devices.ensures.readable c.in_ok-all_devices.ensures.refused c.in_ok-all_devices.ensures.first (λ _ h. h) (λ t can. devices_read t.devices can.devices) in
    let t2 = reads_one layout s1 s2 (Ok c.in_ok-all_declarations.field-0) _ (λ db x. Keeps (db.trees 6) declaration_row declaration_key (map declaration_in x.items)) _ c.in_ok-all_declarations.ensures.looks c.in_ok-all_declarations.ensures.outside c.in_ok-all_declarations.ensures.met c.in_ok-all_declarations.ensures.readable c.in_ok-all_declarations.ensures.refused c.in_ok-all_declarations.ensures.first (λ _ h. h) (λ _ can. can.declarations) in
    let t3 = reads_one layout s2 s3 (Err c.in_err-all_lots.field-0.0) _ (λ db x. KeepsBareLots (db.trees 8) (map lot_in x.items)) _ c.in_err-all_lots.ensures.looks c.in_err-all_lots.ensures.outside c.in_err-all_lots.ensures.met c.in_err-all_lots.ensures.readable c.in_err-all_lots.ensures.refused c.in_err-all_lots.ensures.first (λ _ h. h) (λ t can. lots_read t.lots can.lots) in
    let r1 = reads_then layout s0 s1 s2 _ _ _ _ t1 t2 in
    let r2 = reads_then layout s0 s2 s3 _ _ _ _ r1 t3 in
    let same : c.from_residual-in_err-all_lots.result ≡ Err c.in_err-all_lots.field-0.0 = search rules in
    subst (λ r. OnlyReads layout s0 s3 r ShowsIssued) (sym same) (reads_failed layout s0 s3 _ _ ShowsIssued r2)

pub returns-in_err-all_pieces : goal.returns-in_err-all_pieces
returns-in_err-all_pieces g c = λ layout.
    let s0 = state g.S.Store c.args.conn.now in
    let s1 = state g.S.Store c.all_devices.new.conn in
    let s2 = state g.S.Store c.all_declarations.new.conn in
    let s3 = state g.S.Store c.all_lots.new.conn in
    let s4 = state g.S.Store c.all_pieces.new.conn in
    let t1 = reads_one layout s0 s1 (Ok c.in_ok-all_devices.field-0) _ (λ db x. KeepsBareDevices (db.trees 4) (map device_in x.items)) _ c.in_ok-all_devices.ensures.looks c.in_ok-all_devices.ensures.outside c.in_ok-all_devices.ensures.met c.in_ok-all_devices.ensures.readable c.in_ok-all_devices.ensures.refused c.in_ok-all_devices.ensures.first (λ _ h. h) (λ t can. devices_read t.devices can.devices) in
    let t2 = reads_one layout s1 s2 (Ok c.in_ok-all_declarations.field-0) _ (λ db x. Keeps (db.trees 6) declaration_row declaration_key (map declaration_in x.items)) _ c.in_ok-all_declarations.ensures.looks c.in_ok-all_declarations.ensures.outside c.in_ok-all_declarations.ensures.met c.in_ok-all_declarations.ensures.readable c.in_ok-all_declarations.ensures.refused c.in_ok-all_declarations.ensures.first (λ _ h. h) (λ _ can. can.declarations) in
    let t3 = reads_one layout s2 s3 (Ok c.in_ok-all_lots.field-0) _ (λ db x. KeepsBareLots (db.trees 8) (map lot_in x.items)) _ c.in_ok-all_lots.ensures.looks c.in_ok-all_lots.ensures.outside c.in_ok-all_lots.ensures.met c.in_ok-all_lots.ensures.readable c.in_ok-all_lots.ensures.refused c.in_ok-all_lots.ensures.first (λ _ h. h) (λ t can. lots_read t.lots can.lots) in
    let t4 = reads_one layout s3 s4 (Err c.in_err-all_pieces.field-0.0) _ (λ db x. Keeps (db.trees 10) piece_row piece_key x.items) _ c.in_err-all_pieces.ensures.looks c.in_err-all_pieces.ensures.outside c.in_err-all_pieces.ensures.met c.in_err-all_pieces.ensures.readable c.in_err-all_pieces.ensures.refused c.in_err-all_pieces.ensures.first (λ _ h. h) (λ _ can. can.pieces) in
    let r1 = reads_then layout s0 s1 s2 _ _ _ _ t1 t2 in
    let r2 = reads_then layout s0 s2 s3 _ _ _ _ r1 t3 in
    let r3 = reads_then layout s0 s3 s4 _ _ _ _ r2 t4 in
    let same : c.from_residual-in_err-all_pieces.result ≡ Err c.in_err-all_pieces.field-0.0 = search rules in
    subst (λ r. OnlyReads layout s0 s4 r ShowsIssued) (sym same) (reads_failed layout s0 s4 _ _ ShowsIssued r3)

pub returns : goal.returns
returns g c = λ layout.
    let s0 = state g.S.Store c.args.conn.now in
    let s1 = state g.S.Store c.all_devices.new.conn in
    let s2 = state g.S.Store c.all_declarations.new.conn in
    let s3 = state g.S.Store c.all_lots.new.conn in
    let s4 = state g.S.Store c.all_pieces.new.conn in
    let t1 = reads_one layout s0 s1 (Ok c.in_ok-all_devices.field-0) _ (λ db x. KeepsBareDevices (db.trees 4) (map device_in x.items)) _ c.in_ok-all_devices.ensures.looks c.in_ok-all_devices.ensures.outside c.in_ok-all_devices.ensures.met c.in_ok-all_devices.ensures.readable c.in_ok-all_devices.ensures.refused c.in_ok-all_devices.ensures.first (λ _ h. h) (λ t can. devices_read t.devices can.devices) in
    let t2 = reads_one layout s1 s2 (Ok c.in_ok-all_declarations.field-0) _ (λ db x. Keeps (db.trees 6) declaration_row declaration_key (map declaration_in x.items)) _ c.in_ok-all_declarations.ensures.looks c.in_ok-all_declarations.ensures.outside c.in_ok-all_declarations.ensures.met c.in_ok-all_declarations.ensures.readable c.in_ok-all_declarations.ensures.refused c.in_ok-all_declarations.ensures.first (λ _ h. h) (λ _ can. can.declarations) in
    let t3 = reads_one layout s2 s3 (Ok c.in_ok-all_lots.field-0) _ (λ db x. KeepsBareLots (db.trees 8) (map lot_in x.items)) _ c.in_ok-all_lots.ensures.looks c.in_ok-all_lots.ensures.outside c.in_ok-all_lots.ensures.met c.in_ok-all_lots.ensures.readable c.in_ok-all_lots.ensures.refused c.in_ok-all_lots.ensures.first (λ _ h. h) (λ t can. lots_read t.lots can.lots) in
    let t4 = reads_one layout s3 s4 (Ok c.in_ok-all_pieces.field-0) _ (λ db x. Keeps (db.trees 10) piece_row piece_key x.items) _ c.in_ok-all_pieces.ensures.looks c.in_ok-all_pieces.ensures.outside c.in_ok-all_pieces.ensures.met c.in_ok-all_pieces.ensures.readable c.in_ok-all_pieces.ensures.refused c.in_ok-all_pieces.ensures.first (λ _ h. h) (λ _ can. can.pieces) in
    let r1 = reads_then layout s0 s1 s2 _ _ _ _ t1 t2 in
    let r2 = reads_then layout s0 s2 s3 _ _ _ _ r1 t3 in
    let r3 = reads_then layout s0 s3 s4 _ _ _ _ r2 t4 in
    reads_made layout s0 s4 _ _ _ ShowsIssued r3 (λ db h. record { devices = h.0.0.0.0; bare_devices = h.0.0.0.1; declarations = h.0.0.1; lots = h.0.1.0; bare_lots = h.0.1.1; pieces = h.1 })
