use Rattle.std.proofs.Common.{◌≡◌, map, subst, take}
use Rattle.std.specs.List.{filter}
use Rattle.sqlite.specs.Held.{state as view}
use Rattle.goo_core_shelf.specs.declared.sought.Sought.TheVariants.{Naming}
use Rattle.goo_tables_rows.specs.Beside.{joined_in, pieces_beside}
use Rattle.goo_tables_rows.specs.Stands.{Looks}
use Rattle.goo_store_pieces.specs.NextRows.{begins_beyond}
use Rattle.goo_store.proofs.next_rows.ask_pieces.Goals as goal

pub returns-clause-looks : goal.returns-clause-looks
returns-clause-looks g c =
    let old = view g.S.Store c.args.conn.now in
    let new = view g.S.Store c.page_of_account.new.conn in
    subst (λ n. Looks old new c.page_of_account.result (λ t found. map joined_in found.items ≡ take 256 (filter (begins_beyond (Naming c.args.account) n) (pieces_beside t)))) c.get-2.ensures.value
    (subst (λ k. Looks old new c.page_of_account.result (λ t found. map joined_in found.items ≡ take 256 (filter (begins_beyond (Naming k) c.get-2.result) (pieces_beside t)))) c.get.ensures.value c.page_of_account.ensures.looks)
