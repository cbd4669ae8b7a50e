use Rattle.std.proofs.Common.{rules, ◌≡◌, Ok, Err, map, sym, subst}
use Rattle.sqlite.specs.Held.{state}
use Rattle.goo_tables_rows.specs.Rows.{correction_row, correction_key, correction_in}
use Rattle.goo_tables_rows.specs.Stands.{Keeps}
use Rattle.goo_store_open.specs.Reading.{OnlyReads}
use Rattle.goo_store_open.specs.Shown.{ShowsCarriers, ShowsLater}
use Rattle.goo_store_open.specs.declared.layout.Layout.TheVariants.{Ours}
use Rattle.goo_store_open.proofs.Chaining.{reads_table, reads_then, reads_failed, reads_made}
use Rattle.goo_store_open.proofs.reading.read_later.Goals as goal

pub returns-in_err-all_corrections : goal.returns-in_err-all_corrections
returns-in_err-all_corrections g c =
    let s0 = state g.S.Store c.args.conn.now in
    let s1 = state g.S.Store c.all_corrections.new.conn in
    let t1 = reads_table s0 s1 (Err c.in_err-all_corrections.field-0.0) _ (λ db x. Keeps (db.trees 22) correction_row correction_key (map correction_in x.items)) _ c.in_err-all_corrections.ensures.looks c.in_err-all_corrections.ensures.outside c.in_err-all_corrections.ensures.met c.in_err-all_corrections.ensures.readable c.in_err-all_corrections.ensures.refused (λ _ can. can.corrections) in
    let same : c.from_residual.result ≡ Err c.in_err-all_corrections.field-0.0 = search rules in
    subst (λ r. OnlyReads Ours s0 s1 r ShowsLater) (sym same) (reads_failed Ours s0 s1 _ _ ShowsLater t1)

pub returns-in_err-read_carriers : goal.returns-in_err-read_carriers
returns-in_err-read_carriers g c =
    let s0 = state g.S.Store c.args.conn.now in
    let s1 = state g.S.Store c.all_corrections.new.conn in
    let s2 = state g.S.Store c.read_carriers.new.conn in
    let t1 = reads_table s0 s1 (Ok c.in_ok-all_corrections.field-0) _ (λ db x. Keeps (db.trees 22) correction_row correction_key (map correction_in x.items)) _ c.in_ok-all_corrections.ensures.looks c.in_ok-all_corrections.ensures.outside c.in_ok-all_corrections.ensures.met c.in_ok-all_corrections.ensures.readable c.in_ok-all_corrections.ensures.refused (λ _ can. can.corrections) in
    let t2 = c.in_err-read_carriers.ensures in
    let r1 = reads_then Ours s0 s1 s2 _ _ _ ShowsCarriers t1 t2 in
    let same : c.from_residual-in_err-read_carriers.result ≡ Err c.in_err-read_carriers.field-0.0 = search rules in
    subst (λ r. OnlyReads Ours s0 s2 r ShowsLater) (sym same) (reads_failed Ours s0 s2 _ _ ShowsLater r1)

pub returns : goal.returns
returns g c =
    let s0 = state g.S.Store c.args.conn.now in
    let s1 = state g.S.Store c.all_corrections.new.conn in
    let s2 = state g.S.Store c.read_carriers.new.conn in
    let t1 = reads_table s0 s1 (Ok c.in_ok-all_corrections.field-0) _ (λ db x. Keeps (db.trees 22) correction_row correction_key (map correction_in x.items)) _ c.in_ok-all_corrections.ensures.looks c.in_ok-all_corrections.ensures.outside c.in_ok-all_corrections.ensures.met c.in_ok-all_corrections.ensures.readable c.in_ok-all_corrections.ensures.refused (λ _ can. can.corrections) in
    let t2 = c.in_ok-read_carriers.ensures in
    let r1 = reads_then Ours s0 s1 s2 _ _ _ ShowsCarriers t1 t2 in
    reads_made Ours s0 s2 _ _ _ ShowsLater r1 (λ db h. record { corrections = h.0; carriers = h.1 })
