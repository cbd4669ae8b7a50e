use Rattle.std.proofs.Common.{◌≡◌, subst, take}
use Rattle.std.specs.List.{filter}
use Rattle.sqlite.specs.Held.{state as view}
use Rattle.goo_tables_rows.specs.Stands.{Looks}
use Rattle.goo_store_pieces.specs.Ahead.{is_beyond}
use Rattle.goo_store.proofs.next_rows.ask_rows.Goals as goal

pub returns-clause-looks : goal.returns-clause-looks
returns-clause-looks g c =
    let old = view g.S.Store c.args.conn.now in
    let new = view g.S.Store c.rows_of_account.new.conn in
    subst (λ n. Looks old new c.rows_of_account.result (λ t found. found.items ≡ take 256 (filter (is_beyond c.args.account n) t.pieces))) c.get-2.ensures.value
    (subst (λ k. Looks old new c.rows_of_account.result (λ t found. found.items ≡ take 256 (filter (is_beyond k c.get-2.result) t.pieces))) c.get.ensures.value c.rows_of_account.ensures.looks)
