use Rattle.std.proofs.Common.{◌≡◌, ◌∙◌, rules, subst, arith}
use Rattle.sqlite.specs.State.{HasCleanDisk}
use Rattle.sqlite.specs.Held.{state}
use Rattle.goo_tables_rows.specs.Stands.{Sees}
use Rattle.goo_tables_accounts.specs.Changes.{with_piece_set}
use Rattle.goo_store_changes.proofs.Replacing.{set_for_both, added_for_both, set_is_free}
use Rattle.goo_store_changes.proofs.table_change.replace_piece.Goals as goal

pub returns-in_err-insert_piece-clause-refused : goal.returns-in_err-insert_piece-clause-refused
returns-in_err-insert_piece-clause-refused g c clean live unlimited t it any =
    let early : HasCleanDisk (state g.S.Store c.set_piece.new.tx.conn.now) = omega (arith, clean, c.insert_piece.ensures.survives.clean) in
    let zero : c.in_ok-set_piece.field-0 ≡ 0 = omega (arith, c.if-branch-eq0.true) in
    let seen = c.in_ok-set_piece.ensures.changed early t it in
    let free = set_is_free t c.args.row.now it.stands.pieces.rise c.in_ok-set_piece.field-0 (c.in_ok-set_piece.ensures.count early t it) zero in
    let told = c.in_err-insert_piece.ensures.refused clean (c.in_ok-set_piece.ensures.live early live it.inside it.stands.schema).1 (c.set_piece.ensures.survives.limit ∙ unlimited) (with_piece_set t c.args.row.now) seen free in
    search rules

pub returns-in_ok-insert_piece-clause-changed : goal.returns-in_ok-insert_piece-clause-changed
returns-in_ok-insert_piece-clause-changed g c clean t it =
    let early : HasCleanDisk (state g.S.Store c.set_piece.new.tx.conn.now) = omega (arith, clean, c.insert_piece.ensures.survives.clean) in
    let zero : c.in_ok-set_piece.field-0 ≡ 0 = omega (arith, c.if-branch-eq0.true) in
    let seen = c.in_ok-set_piece.ensures.changed early t it in
    subst (Sees (state g.S.Store c.insert_piece.new.tx.conn.now)) (added_for_both t c.args.row.now it.stands.pieces.rise c.in_ok-set_piece.field-0 (c.in_ok-set_piece.ensures.count early t it) zero)
    (c.in_ok-insert_piece.ensures.changed clean (with_piece_set t c.args.row.now) seen)

pub returns-else-branch-eq0-clause-changed : goal.returns-else-branch-eq0-clause-changed
returns-else-branch-eq0-clause-changed g c clean t it =
    let some : c.in_ok-set_piece.field-0 ≡ 0 → ⊥ = λ zero. omega (arith, zero, c.if-branch-eq0.false) in
    subst (Sees (state g.S.Store c.set_piece.new.tx.conn.now)) (set_for_both t c.args.row.now it.stands.pieces.rise c.in_ok-set_piece.field-0 (c.in_ok-set_piece.ensures.count clean t it) some) (c.in_ok-set_piece.ensures.changed clean t it)
