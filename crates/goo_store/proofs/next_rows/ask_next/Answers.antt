use Rattle.std.proofs.Common.{◌≡◌, ◌∙◌, find, option_map, subst, sym}
use Rattle.sqlite.specs.Held.{state as view}
use Rattle.sqlite_typed.specs.Tests.{bytes_lt, both_and}
use Rattle.std.proofs.Common.{pos, ◌&&◌, nat_lt, Some}
use Rattle.std.specs.Ordering.{int_eq}
use Rattle.goo_core_shelf.specs.declared.sought.Sought.TheVariants.{Naming}
use Rattle.goo_tables_rows.specs.Beside.{joined_in, pieces_beside}
use Rattle.goo_tables_rows.specs.Stands.{Looks}
use Rattle.goo_store_pieces.specs.NextRows.{begins_beyond}
use Rattle.goo_store.proofs.next_rows.ask_next.Goals as goal

pub returns-in-Naming-clause-looks : goal.returns-in-Naming-clause-looks
returns-in-Naming-clause-looks g c =
    let old = view g.S.Store c.args.conn.now in
    let new = view g.S.Store c.next_of_account.new.conn in
    subst (λ s. Looks old new c.next_of_account.result (λ t found. option_map joined_in found ≡ find (begins_beyond s c.args.after) (pieces_beside t))) (sym c.in-Naming.is)
    (subst (λ k. Looks old new c.next_of_account.result (λ t found. option_map joined_in found ≡ find (begins_beyond (Naming k) c.args.after) (pieces_beside t))) c.get.ensures.value c.next_of_account.ensures.looks)

pub returns-in-Expiring-clause-looks : goal.returns-in-Expiring-clause-looks
returns-in-Expiring-clause-looks g c =
    let old = view g.S.Store c.args.conn.now in
    let new = view g.S.Store c.next_expiring.new.conn in
    subst (λ s. Looks old new c.next_expiring.result (λ t found. option_map joined_in found ≡ find (begins_beyond s c.args.after) (pieces_beside t))) (sym c.in-Expiring.is)
    (subst (λ text. Looks old new c.next_expiring.result (λ t found. option_map joined_in found ≡ find (λ a. int_eq (pos a.0.kind) (pos 1) && (nat_lt c.args.after a.0.first && both_and bytes_lt a.1.expires_on (Some text))) (pieces_beside t)))
    (c.as_str.ensures.value ∙ c.text-text.ensures.text) c.next_expiring.ensures.looks)
