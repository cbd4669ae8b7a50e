use Rattle.std.proofs.Common.{rules, ◌≡◌, Ok, Err, map, sym, subst}
use Rattle.sqlite.specs.Held.{state}
use Rattle.goo_tables_rows.specs.Rows.{notice_out_row, notice_out_key, notice_out_in, notice_in_row, notice_in_in}
use Rattle.goo_tables_rows.specs.Stands.{Keeps}
use Rattle.goo_tables_rows.specs.Met.{KeepsSome}
use Rattle.goo_store_open.specs.Reading.{OnlyReads}
use Rattle.goo_store_open.specs.Shown.{ShowsNotices}
use Rattle.goo_store_open.proofs.Chaining.{reads_one, reads_then, reads_failed, reads_made}
use Rattle.goo_store_open.proofs.reading.read_notices.Goals as goal

pub returns-in_err-all_notices_out : goal.returns-in_err-all_notices_out
returns-in_err-all_notices_out g c = λ layout.
    let s0 = state g.S.Store c.args.conn.now in
    let s1 = state g.S.Store c.all_notices_out.new.conn in
    let t1 = reads_one layout s0 s1 (Err c.in_err-all_notices_out.field-0.0) _ (λ db x. Keeps (db.trees 17) notice_out_row notice_out_key (map notice_out_in x.items)) _ c.in_err-all_notices_out.ensures.looks c.in_err-all_notices_out.ensures.outside c.in_err-all_notices_out.ensures.met c.in_err-all_notices_out.ensures.readable c.in_err-all_notices_out.ensures.refused c.in_err-all_notices_out.ensures.first (λ _ h. h) (λ _ can. can.notices_out) in
    let same : c.from_residual.result ≡ Err c.in_err-all_notices_out.field-0.0 = search rules in
    subst (λ r. OnlyReads layout s0 s1 r ShowsNotices) (sym same) (reads_failed layout s0 s1 _ _ ShowsNotices t1)

pub returns-in_err-all_notices_in : goal.returns-in_err-all_notices_in
returns-in_err-all_notices_in g c = λ layout.
    let s0 = state g.S.Store c.args.conn.now in
    let s1 = state g.S.Store c.all_notices_out.new.conn in
    let s2 = state g.S.Store c.all_notices_in.new.conn in
    let t1 = reads_one layout s0 s1 (Ok c.in_ok-all_notices_out.field-0) _ (λ db x. Keeps (db.trees 17) notice_out_row notice_out_key (map notice_out_in x.items)) _ c.in_ok-all_notices_out.ensures.looks c.in_ok-all_notices_out.ensures.outside c.in_ok-all_notices_out.ensures.met c.in_ok-all_notices_out.ensures.readable c.in_ok-all_notices_out.ensures.refused c.in_ok-all_notices_out.ensures.first (λ _ h. h) (λ _ can. can.notices_out) in
    let t2 = reads_one layout s1 s2 (Err c.in_err-all_notices_in.field-0.0) _ (λ db x. KeepsSome (db.trees 18) notice_in_row (map notice_in_in x.items)) _ c.in_err-all_notices_in.ensures.looks c.in_err-all_notices_in.ensures.outside c.in_err-all_notices_in.ensures.met c.in_err-all_notices_in.ensures.readable c.in_err-all_notices_in.ensures.refused c.in_err-all_notices_in.ensures.first (λ _ h. h) (λ _ can. can.notices_in) in
    let r1 = reads_then layout s0 s1 s2 _ _ _ _ t1 t2 in
    let same : c.from_residual-in_err-all_notices_in.result ≡ Err c.in_err-all_notices_in.field-0.0 = search rules in
    subst (λ r. OnlyReads layout s0 s2 r ShowsNotices) (sym same) (reads_failed layout s0 s2 _ _ ShowsNotices r1)

pub returns : goal.returns
returns g c = λ layout.
    let s0 = state g.S.Store c.args.conn.now in
    let s1 = state g.S.Store c.all_notices_out.new.conn in
    let s2 = state g.S.Store c.all_notices_in.new.conn in
    let t1 = reads_one layout s0 s1 (Ok c.in_ok-all_notices_out.field-0) _ (λ db x. Keeps (db.trees 17) notice_out_row notice_out_key (map notice_out_in x.items)) _ c.in_ok-all_notices_out.ensures.looks c.in_ok-all_notices_out.ensures.outside c.in_ok-all_notices_out.ensures.met c.in_ok-all_notices_out.ensures.readable c.in_ok-all_notices_out.ensures.refused c.in_ok-all_notices_out.ensures.first (λ _ h. h) (λ _ can. can.notices_out) in
    let t2 = reads_one layout s1 s2 (Ok c.in_ok-all_notices_in.field-0) _ (λ db x. KeepsSome (db.trees 18) notice_in_row (map notice_in_in x.items)) _ c.in_ok-all_notices_in.ensures.looks c.in_ok-all_notices_in.ensures.outside c.in_ok-all_notices_in.ensures.met c.in_ok-all_notices_in.ensures.readable c.in_ok-all_notices_in.ensures.refused c.in_ok-all_notices_in.ensures.first (λ _ h. h) (λ _ can. can.notices_in) in
    let r1 = reads_then layout s0 s1 s2 _ _ _ _ t1 t2 in
    reads_made layout s0 s2 _ _ _ ShowsNotices r1 (λ db h. record { sent = h.0; came = h.1 })
