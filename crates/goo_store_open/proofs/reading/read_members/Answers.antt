use Rattle.std.proofs.Common.{rules, ◌≡◌, Ok, Err, map, sym, subst}
use Rattle.sqlite.specs.Held.{state}
use Rattle.goo_tables_rows.specs.Rows.{holder_row, holder_in, account_row, account_key, account_in, peer_row}
use Rattle.goo_tables_rows.specs.Stands.{Keeps}
use Rattle.goo_tables_rows.specs.Met.{KeepsSome}
use Rattle.goo_store_open.specs.Reading.{OnlyReads}
use Rattle.goo_store_open.specs.Shown.{ShowsMembers}
use Rattle.goo_store_open.proofs.Chaining.{reads_one, reads_then, reads_failed, reads_made}
use Rattle.goo_store_open.proofs.reading.read_members.Goals as goal

pub returns-in_err-all_holders : goal.returns-in_err-all_holders
returns-in_err-all_holders g c = λ layout.
    let s0 = state g.S.Store c.args.conn.now in
    let s1 = state g.S.Store c.all_holders.new.conn in
    let t1 = reads_one layout s0 s1 (Err c.in_err-all_holders.field-0.0) _ (λ db x. KeepsSome (db.trees 1) holder_row (map holder_in x.items)) _ c.in_err-all_holders.ensures.looks c.in_err-all_holders.ensures.outside c.in_err-all_holders.ensures.met c.in_err-all_holders.ensures.readable c.in_err-all_holders.ensures.refused c.in_err-all_holders.ensures.first (λ _ h. h) (λ _ can. can.holders) in
    let same : c.from_residual.result ≡ Err c.in_err-all_holders.field-0.0 = search rules in
    subst (λ r. OnlyReads layout s0 s1 r ShowsMembers) (sym same) (reads_failed layout s0 s1 _ _ ShowsMembers t1)

pub returns-in_err-all_accounts : goal.returns-in_err-all_accounts
returns-in_err-all_accounts g c = λ layout.
    let s0 = state g.S.Store c.args.conn.now in
    let s1 = state g.S.Store c.all_holders.new.conn in
    let s2 = state g.S.Store c.all_accounts.new.conn in
    let t1 = reads_one layout s0 s1 (Ok c.in_ok-all_holders.field-0) _ (λ db x. KeepsSome (db.trees 1) holder_row (map holder_in x.items)) _ c.in_ok-all_holders.ensures.looks c.in_ok-all_holders.ensures.outside c.in_ok-all_holders.ensures.met c.in_ok-all_holders.ensures.readable c.in_ok-all_holders.ensures.refused c.in_ok-all_holders.ensures.first (λ _ h. h) (λ _ can. can.holders) in
    let t2 = reads_one layout s1 s2 (Err c.in_err-all_accounts.field-0.0) _ (λ db x. Keeps (db.trees 3) account_row account_key (map account_in x.items)) _ c.in_err-all_accounts.ensures.looks c.in_err-all_accounts.ensures.outside c.in_err-all_accounts.ensures.met c.in_err-all_accounts.ensures.readable c.in_err-all_accounts.ensures.refused c.in_err-all_accounts.ensures.first (λ _ h. h) (λ _ can. can.accounts) in
    let r1 = reads_then layout s0 s1 s2 _ _ _ _ t1 t2 in
    let same : c.from_residual-in_err-all_accounts.result ≡ Err c.in_err-all_accounts.field-0.0 = search rules in
    subst (λ r. OnlyReads layout s0 s2 r ShowsMembers) (sym same) (reads_failed layout s0 s2 _ _ ShowsMembers r1)

pub returns-in_err-all_peers : goal.returns-in_err-all_peers
returns-in_err-all_peers g c = λ layout.
    let s0 = state g.S.Store c.args.conn.now in
    let s1 = state g.S.Store c.all_holders.new.conn in
    let s2 = state g.S.Store c.all_accounts.new.conn in
    let s3 = state g.S.Store c.all_peers.new.conn in
    let t1 = reads_one layout s0 s1 (Ok c.in_ok-all_holders.field-0) _ (λ db x. KeepsSome (db.trees 1) holder_row (map holder_in x.items)) _ c.in_ok-all_holders.ensures.looks c.in_ok-all_holders.ensures.outside c.in_ok-all_holders.ensures.met c.in_ok-all_holders.ensures.readable c.in_ok-all_holders.ensures.refused c.in_ok-all_holders.ensures.first (λ _ h. h) (λ _ can. can.holders) in
    let t2 = reads_one layout s1 s2 (Ok c.in_ok-all_accounts.field-0) _ (λ db x. Keeps (db.trees 3) account_row account_key (map account_in x.items)) _ c.in_ok-all_accounts.ensures.looks c.in_ok-all_accounts.ensures.outside c.in_ok-all_accounts.ensures.met c.in_ok-all_accounts.ensures.readable c.in_ok-all_accounts.ensures.refused c.in_ok-all_accounts.ensures.first (λ _ h. h) (λ _ can. can.accounts) in
    let t3 = reads_one layout s2 s3 (Err c.in_err-all_peers.field-0.0) _ (λ db x. KeepsSome (db.trees 11) peer_row x.items) _ c.in_err-all_peers.ensures.looks c.in_err-all_peers.ensures.outside c.in_err-all_peers.ensures.met c.in_err-all_peers.ensures.readable c.in_err-all_peers.ensures.refused c.in_err-all_peers.ensures.first (λ _ h. h) (λ _ can. can.peers) in
    let r1 = reads_then layout s0 s1 s2 _ _ _ _ t1 t2 in
    let r2 = reads_then layout s0 s2 s3 _ _ _ _ r1 t3 in
    let same : c.from_residual-in_err-all_peers.result ≡ Err c.in_err-all_peers.field-0.0 = search rules in
    subst (λ r. OnlyReads layout s0 s3 r ShowsMembers) (sym same) (reads_failed layout s0 s3 _ _ ShowsMembers r2)

pub returns : goal.returns
returns g c = λ layout.
    let s0 = state g.S.Store c.args.conn.now in
    let s1 = state g.S.Store c.all_holders.new.conn in
    let s2 = state g.S.Store c.all_accounts.new.conn in
    let s3 = state g.S.Store c.all_peers.new.conn in
    let t1 = reads_one layout s0 s1 (Ok c.in_ok-all_holders.field-0) _ (λ db x. KeepsSome (db.trees 1) holder_row (map holder_in x.items)) _ c.in_ok-all_holders.ensures.looks c.in_ok-all_holders.ensures.outside c.in_ok-all_holders.ensures.met c.in_ok-all_holders.ensures.readable c.in_ok-all_holders.ensures.refused c.in_ok-all_holders.ensures.first (λ _ h. h) (λ _ can. can.holders) in
    let t2 = reads_one layout s1 s2 (Ok c.in_ok-all_accounts.field-0) _ (λ db x. Keeps (db.trees 3) account_row account_key (map account_in x.items)) _ c.in_ok-all_accounts.ensures.looks c.in_ok-all_accounts.ensures.outside c.in_ok-all_accounts.ensures.met c.in_ok-all_accounts.ensures.readable c.in_ok-all_accounts.ensures.refused c.in_ok-all_accounts.ensures.first (λ _ h. h) (λ _ can. can.accounts) in
    let t3 = reads_one layout s2 s3 (Ok c.in_ok-all_peers.field-0) _ (λ db x. KeepsSome (db.trees 11) peer_row x.items) _ c.in_ok-all_peers.ensures.looks c.in_ok-all_peers.ensures.outside c.in_ok-all_peers.ensures.met c.in_ok-all_peers.ensures.readable c.in_ok-all_peers.ensures.refused c.in_ok-all_peers.ensures.first (λ _ h. h) (λ _ can. can.peers) in
    let r1 = reads_then layout s0 s1 s2 _ _ _ _ t1 t2 in
    let r2 = reads_then layout s0 s2 s3 _ _ _ _ r1 t3 in
    reads_made layout s0 s3 _ _ _ ShowsMembers r2 (λ db h. record { holders = h.0.0; accounts = h.0.1; peers = h.1 })
