use Rattle.std.proofs.Common.{rules, ◌≡◌, Ok, Err, map, sym, subst}
use Rattle.sqlite.specs.Held.{state}
use Rattle.goo_tables_rows.specs.Rows.{withdrawal_row, withdrawal_key, withdrawal_in}
use Rattle.goo_tables_rows.specs.Stands.{Keeps}
use Rattle.goo_tables.specs.Receipts.{KeepsRead}
use Rattle.goo_tables.specs.Cancellations.{KeepsCancellations}
use Rattle.goo_store_receipts.specs.Judged.{judged_reads, judged_cancellation_reads}
use Rattle.goo_store_open.specs.Reading.{OnlyReads}
use Rattle.goo_store_open.specs.Shown.{ShowsActs}
use Rattle.goo_store_open.proofs.Chaining.{reads_one, reads_then, reads_failed, reads_made}
use Rattle.goo_store_open.proofs.Judging.{judged_as_receipts, keeps_judged, judged_as_cancellations, keeps_cancellations}
use Rattle.goo_store_open.proofs.reading.read_acts.Goals as goal

pub returns-in_err-all_receipts : goal.returns-in_err-all_receipts
returns-in_err-all_receipts g c = λ layout.
    let s0 = state g.S.Store c.args.conn.now in
    let s1 = state g.S.Store c.all_receipts.new.conn in
    let t1 = reads_one layout s0 s1 (Err c.in_err-all_receipts.field-0.0) _ (λ db x. KeepsRead (db.trees 13) judged_reads x.items) _ c.in_err-all_receipts.ensures.looks c.in_err-all_receipts.ensures.outside (c.in_err-all_receipts.ensures.met judged_as_receipts) c.in_err-all_receipts.ensures.readable c.in_err-all_receipts.ensures.refused (c.in_err-all_receipts.ensures.first judged_as_receipts) (λ _ h. h) (λ _ can. can.receipts) in
    let same : c.from_residual.result ≡ Err c.in_err-all_receipts.field-0.0 = search rules in
    subst (λ r. OnlyReads layout s0 s1 r ShowsActs) (sym same) (reads_failed layout s0 s1 _ _ ShowsActs t1)

pub returns-in_err-all_cancellations : goal.returns-in_err-all_cancellations
returns-in_err-all_cancellations g c = λ layout.
    let s0 = state g.S.Store c.args.conn.now in
    let s1 = state g.S.Store c.all_receipts.new.conn in
    let s2 = state g.S.Store c.all_cancellations.new.conn in
    let t1 = reads_one layout s0 s1 (Ok c.in_ok-all_receipts.field-0) _ (λ db x. KeepsRead (db.trees 13) judged_reads x.items) _ c.in_ok-all_receipts.ensures.looks c.in_ok-all_receipts.ensures.outside (c.in_ok-all_receipts.ensures.met judged_as_receipts) c.in_ok-all_receipts.ensures.readable c.in_ok-all_receipts.ensures.refused (c.in_ok-all_receipts.ensures.first judged_as_receipts) (λ _ h. h) (λ _ can. can.receipts) in
    let t2 = reads_one layout s1 s2 (Err c.in_err-all_cancellations.field-0.0) _ (λ db x. KeepsCancellations (db.trees 15) judged_cancellation_reads x.items) _ c.in_err-all_cancellations.ensures.looks c.in_err-all_cancellations.ensures.outside (c.in_err-all_cancellations.ensures.met judged_as_cancellations) c.in_err-all_cancellations.ensures.readable c.in_err-all_cancellations.ensures.refused (c.in_err-all_cancellations.ensures.first judged_as_cancellations) (λ _ h. h) (λ _ can. can.cancellations) in
    let r1 = reads_then layout s0 s1 s2 _ _ _ _ t1 t2 in
    let same : c.from_residual-in_err-all_cancellations.result ≡ Err c.in_err-all_cancellations.field-0.0 = search rules in
    subst (λ r. OnlyReads layout s0 s2 r ShowsActs) (sym same) (reads_failed layout s0 s2 _ _ ShowsActs r1)

pub returns-in_err-all_withdrawals : goal.returns-in_err-all_withdrawals
returns-in_err-all_withdrawals g c = λ layout.
    let s0 = state g.S.Store c.args.conn.now in
    let s1 = state g.S.Store c.all_receipts.new.conn in
    let s2 = state g.S.Store c.all_cancellations.new.conn in
    let s3 = state g.S.Store c.all_withdrawals.new.conn in
    let t1 = reads_one layout s0 s1 (Ok c.in_ok-all_receipts.field-0) _ (λ db x. KeepsRead (db.trees 13) judged_reads x.items) _ c.in_ok-all_receipts.ensures.looks c.in_ok-all_receipts.ensures.outside (c.in_ok-all_receipts.ensures.met judged_as_receipts) c.in_ok-all_receipts.ensures.readable c.in_ok-all_receipts.ensures.refused (c.in_ok-all_receipts.ensures.first judged_as_receipts) (λ _ h. h) (λ _ can. can.receipts) in
    let t2 = reads_one layout s1 s2 (Ok c.in_ok-all_cancellations.field-0) _ (λ db x. KeepsCancellations (db.trees 15) judged_cancellation_reads x.items) _ c.in_ok-all_cancellations.ensures.looks c.in_ok-all_cancellations.ensures.outside (c.in_ok-all_cancellations.ensures.met judged_as_cancellations) c.in_ok-all_cancellations.ensures.readable c.in_ok-all_cancellations.ensures.refused (c.in_ok-all_cancellations.ensures.first judged_as_cancellations) (λ _ h. h) (λ _ can. can.cancellations) in
    let t3 = reads_one layout s2 s3 (Err c.in_err-all_withdrawals.field-0.0) _ (λ db x. Keeps (db.trees 16) withdrawal_row withdrawal_key (map withdrawal_in x.items)) _ c.in_err-all_withdrawals.ensures.looks c.in_err-all_withdrawals.ensures.outside c.in_err-all_withdrawals.ensures.met c.in_err-all_withdrawals.ensures.readable c.in_err-all_withdrawals.ensures.refused c.in_err-all_withdrawals.ensures.first (λ _ h. h) (λ _ can. can.withdrawals) in
    let r1 = reads_then layout s0 s1 s2 _ _ _ _ t1 t2 in
    let r2 = reads_then layout s0 s2 s3 _ _ _ _ r1 t3 in
    let same : c.from_residual-in_err-all_withdrawals.result ≡ Err c.in_err-all_withdrawals.field-0.0 = search rules in
    subst (λ r. OnlyReads layout s0 s3 r ShowsActs) (sym same) (reads_failed layout s0 s3 _ _ ShowsActs r2)

pub returns : goal.returns
returns g c = λ layout.
    let s0 = state g.S.Store c.args.conn.now in
    let s1 = state g.S.Store c.all_receipts.new.conn in
    let s2 = state g.S.Store c.all_cancellations.new.conn in
    let s3 = state g.S.Store c.all_withdrawals.new.conn in
    let t1 = reads_one layout s0 s1 (Ok c.in_ok-all_receipts.field-0) _ (λ db x. KeepsRead (db.trees 13) judged_reads x.items) _ c.in_ok-all_receipts.ensures.looks c.in_ok-all_receipts.ensures.outside (c.in_ok-all_receipts.ensures.met judged_as_receipts) c.in_ok-all_receipts.ensures.readable c.in_ok-all_receipts.ensures.refused (c.in_ok-all_receipts.ensures.first judged_as_receipts) (λ _ h. h) (λ _ can. can.receipts) in
    let t2 = reads_one layout s1 s2 (Ok c.in_ok-all_cancellations.field-0) _ (λ db x. KeepsCancellations (db.trees 15) judged_cancellation_reads x.items) _ c.in_ok-all_cancellations.ensures.looks c.in_ok-all_cancellations.ensures.outside (c.in_ok-all_cancellations.ensures.met judged_as_cancellations) c.in_ok-all_cancellations.ensures.readable c.in_ok-all_cancellations.ensures.refused (c.in_ok-all_cancellations.ensures.first judged_as_cancellations) (λ _ h. h) (λ _ can. can.cancellations) in
    let t3 = reads_one layout s2 s3 (Ok c.in_ok-all_withdrawals.field-0) _ (λ db x. Keeps (db.trees 16) withdrawal_row withdrawal_key (map withdrawal_in x.items)) _ c.in_ok-all_withdrawals.ensures.looks c.in_ok-all_withdrawals.ensures.outside c.in_ok-all_withdrawals.ensures.met c.in_ok-all_withdrawals.ensures.readable c.in_ok-all_withdrawals.ensures.refused c.in_ok-all_withdrawals.ensures.first (λ _ h. h) (λ _ can. can.withdrawals) in
    let r1 = reads_then layout s0 s1 s2 _ _ _ _ t1 t2 in
    let r2 = reads_then layout s0 s2 s3 _ _ _ _ r1 t3 in
    reads_made layout s0 s3 _ _ _ ShowsActs r2 (λ db h. record { receipts = keeps_judged _ _ h.0.0; cancellations = keeps_cancellations _ _ h.0.1; withdrawals = h.1 })
