use Rattle.std.proofs.Common.{rules, ◌≡◌, Err, sym, subst}
use Rattle.sqlite.specs.Held.{state}
use Rattle.goo_store_open.specs.Reading.{OnlyReads}
use Rattle.goo_store_open.specs.Shown.{ShowsMembers, ShowsIssued, ShowsActs, ShowsNotices, ShowsCommon}
use Rattle.goo_store_open.proofs.Chaining.{reads_then, reads_failed, reads_made}
use Rattle.goo_store_open.proofs.reading.read_common.Goals as goal

pub returns-in_err-read_members : goal.returns-in_err-read_members
returns-in_err-read_members g c = λ layout.
    let s0 = state g.S.Store c.args.conn.now in
    let s1 = state g.S.Store c.read_members.new.conn in
    let same : c.from_residual.result ≡ Err c.in_err-read_members.field-0.0 = search rules in
    subst (λ r. OnlyReads layout s0 s1 r ShowsCommon) (sym same) (reads_failed layout s0 s1 _ ShowsMembers ShowsCommon (c.in_err-read_members.ensures layout))

pub returns-in_err-read_issued : goal.returns-in_err-read_issued
returns-in_err-read_issued g c = λ layout.
    let s0 = state g.S.Store c.args.conn.now in
    let s1 = state g.S.Store c.read_members.new.conn in
    let s2 = state g.S.Store c.read_issued.new.conn in
    let t1 = c.in_ok-read_members.ensures layout in
    let t2 = c.in_err-read_issued.ensures layout in
    let r1 = reads_then layout s0 s1 s2 _ _ ShowsMembers ShowsIssued t1 t2 in
    let same : c.from_residual-in_err-read_issued.result ≡ Err c.in_err-read_issued.field-0.0 = search rules in
    subst (λ r. OnlyReads layout s0 s2 r ShowsCommon) (sym same) (reads_failed layout s0 s2 _ _ ShowsCommon r1)

pub returns-in_err-read_acts : goal.returns-in_err-read_acts
returns-in_err-read_acts g c = λ layout.
    let s0 = state g.S.Store c.args.conn.now in
    let s1 = state g.S.Store c.read_members.new.conn in
    let s2 = state g.S.Store c.read_issued.new.conn in
    let s3 = state g.S.Store c.read_acts.new.conn in
    let t1 = c.in_ok-read_members.ensures layout in
    let t2 = c.in_ok-read_issued.ensures layout in
    let t3 = c.in_err-read_acts.ensures layout in
    let r1 = reads_then layout s0 s1 s2 _ _ ShowsMembers ShowsIssued t1 t2 in
    let r2 = reads_then layout s0 s2 s3 _ _ _ ShowsActs r1 t3 in
    let same : c.from_residual-in_err-read_acts.result ≡ Err c.in_err-read_acts.field-0.0 = search rules in
    subst (λ r. OnlyReads layout s0 s3 r ShowsCommon) (sym same) (reads_failed layout s0 s3 _ _ ShowsCommon r2)

pub returns-in_err-read_notices : goal.returns-in_err-read_notices
returns-in_err-read_notices g c = λ layout.
    let s0 = state g.S.Store c.args.conn.now in
    let s1 = state g.S.Store c.read_members.new.conn in
    let s2 = state g.S.Store c.read_issued.new.conn in
    let s3 = state g.S.Store c.read_acts.new.conn in
    let s4 = state g.S.Store c.read_notices.new.conn in
    let t1 = c.in_ok-read_members.ensures layout in
    let t2 = c.in_ok-read_issued.ensures layout in
    let t3 = c.in_ok-read_acts.ensures layout in
    let t4 = c.in_err-read_notices.ensures layout in
    let r1 = reads_then layout s0 s1 s2 _ _ ShowsMembers ShowsIssued t1 t2 in
    let r2 = reads_then layout s0 s2 s3 _ _ _ ShowsActs r1 t3 in
    let r3 = reads_then layout s0 s3 s4 _ _ _ ShowsNotices r2 t4 in
    let same : c.from_residual-in_err-read_notices.result ≡ Err c.in_err-read_notices.field-0.0 = search rules in
    subst (λ r. OnlyReads layout s0 s4 r ShowsCommon) (sym same) (reads_failed layout s0 s4 _ _ ShowsCommon r3)

pub returns : goal.returns
returns g c = λ layout.
    let s0 = state g.S.Store c.args.conn.now in
    let s1 = state g.S.Store c.read_members.new.conn in
    let s2 = state g.S.Store c.read_issued.new.conn in
    let s3 = state g.S.Store c.read_acts.new.conn in
    let s4 = state g.S.Store c.read_notices.new.conn in
    let t1 = c.in_ok-read_members.ensures layout in
    let t2 = c.in_ok-read_issued.ensures layout in
    let t3 = c.in_ok-read_acts.ensures layout in
    let t4 = c.in_ok-read_notices.ensures layout in
    let r1 = reads_then layout s0 s1 s2 _ _ ShowsMembers ShowsIssued t1 t2 in
    let r2 = reads_then layout s0 s2 s3 _ _ _ ShowsActs r1 t3 in
    let r3 = reads_then layout s0 s3 s4 _ _ _ ShowsNotices r2 t4 in
    reads_made layout s0 s4 _ _ _ ShowsCommon r3 (λ db h. record { members = h.0.0.0; issued = h.0.0.1; acts = h.0.1; notices = h.1 })
