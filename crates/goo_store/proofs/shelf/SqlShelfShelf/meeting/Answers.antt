use Rattle.std.proofs.Common.{◌≡◌, ◌+◌, ◌&&◌, ◌∙◌, nat_le, ap, rules, Err, arith}
use Rattle.std.specs.List.{filter}
use Rattle.sqlite.specs.Held.{state as view}
use Rattle.goo_tables_rows.proofs.Results.{if_ok}
use Rattle.goo_store_judge.specs.Moments.{moment, tables_in}
use Rattle.goo_spec_tables.specs.Places.{rows_of}
use Rattle.goo_core_shelf.proofs.Looking.{looked_or_full}
use Rattle.goo_store_judge.proofs.Looking.{failed_then, looked_both}
use Rattle.goo_store_judge.proofs.Blaming.{blamed_then, blamed_both, blamed_err}
use Rattle.goo_store_pieces.proofs.RowsRead.{near_rises}
use Rattle.goo_store_pieces.proofs.Merging.{near_alone, near_found}
use Rattle.goo_store.proofs.shelf.SqlShelfShelf.meeting.Goals as goal

pub returns-in_err-later-clause-looks : goal.returns-in_err-later-clause-looks
returns-in_err-later-clause-looks g c =
    let mid = c.row_before.new.self in
    let new = c.rows_beginning.new.self in
    let same : c.from_residual-in_err-later.result ≡ Err c.in_err-later.field-0.0 = search rules in
    failed_then (view g.S.Store c.args.self.now.conn) (view g.S.Store mid.conn) (view g.S.Store new.conn) c.args.self.now.refused mid.refused new.refused new.refused
    c.in_ok-before.before _ c.in_ok-before.ensures.looks _ _ c.in_err-later.field-0.0 c.from_residual-in_err-later.result same c.in_err-later.ensures.looks

pub returns-in_err-later-clause-store : goal.returns-in_err-later-clause-store
returns-in_err-later-clause-store g c =
    let old = view g.S.Store c.args.self.now.conn in
    let mid = c.row_before.new.self in
    let new = c.rows_beginning.new.self in
    let same : c.from_residual-in_err-later.result ≡ Err c.in_err-later.field-0.0 = search rules in
    blamed_err old (view g.S.Store new.conn) c.args.self.now.refused c.in_err-later.field-0.0 c.from_residual-in_err-later.result same
    (blamed_then old (view g.S.Store mid.conn) (view g.S.Store new.conn) c.args.self.now.refused mid.refused new.refused c.in_ok-before.before _ c.in_ok-before.ensures.looks c.in_ok-before.ensures.store
    (Err c.in_err-later.field-0.0) _ c.in_err-later.ensures.looks c.in_err-later.ensures.store)

pub returns-clause-looks : goal.returns-clause-looks
returns-clause-looks g c =
    let old = view g.S.Store c.args.self.now.conn in
    let mid = c.row_before.new.self in
    let new = c.rows_beginning.new.self in
    let range = c.args.range in
    looked_both old (view g.S.Store mid.conn) (view g.S.Store new.conn) c.args.self.now.refused mid.refused new.refused c.note_fault.new.refused
    c.in_ok-before.before _ c.in_ok-before.ensures.looks c.in_ok-later.later _ _ c.join_near.result c.note_fault.result c.in_ok-later.ensures.looks c.note_fault.ensures
    (λ fine same before later.
    if_ok c.join_near.result c.join_near.ensures.value (λ met is.
    is
    ∙ near_found range (omega (arith, c.first.ensures.limit.rising)) (rows_of (tables_in old)) (c.args.self.now.well.kept fine).rising c.get-first.result c.get-last.result
    (c.get-first.ensures.value ∙ c.first.ensures.value) (c.get-last.ensures.value ∙ c.last.ensures.value) _ _ before
    (c.deref.ensures.value ∙ later ∙ ap (filter (λ p. nat_le c.get-first.result p.first && nat_le p.first (c.get-last.result + 1))) same)))

pub returns-clause-store : goal.returns-clause-store
returns-clause-store g c =
    let old = view g.S.Store c.args.self.now.conn in
    let mid = c.row_before.new.self in
    let new = c.rows_beginning.new.self in
    let range = c.args.range in
    blamed_both old (view g.S.Store mid.conn) (view g.S.Store new.conn) c.args.self.now.refused mid.refused new.refused
    c.in_ok-before.before _ c.in_ok-before.ensures.looks c.in_ok-before.ensures.store c.in_ok-later.later _ c.note_fault.new.refused c.join_near.result c.note_fault.result c.in_ok-later.ensures.looks c.in_ok-later.ensures.store c.note_fault.ensures
    (λ fine same before later.
    c.join_near.ensures.accepts
    (near_rises range (omega (arith, c.first.ensures.limit.rising)) (rows_of (tables_in old)) (c.args.self.now.well.kept fine).rising c.get-first.result c.get-last.result
    (c.get-first.ensures.value ∙ c.first.ensures.value) (c.get-last.ensures.value ∙ c.last.ensures.value) _ _ before
    (c.deref.ensures.value ∙ later ∙ ap (filter (λ p. nat_le c.get-first.result p.first && nat_le p.first (c.get-last.result + 1))) same)))

-- ---- where the row before ends behind the range

pub returns-in-Some-clause-looks : goal.returns-in-Some-clause-looks
returns-in-Some-clause-looks g c =
    let old = view g.S.Store c.args.self.now.conn in
    let mid = c.row_before.new.self in
    let range = c.args.range in
    looked_or_full (moment old c.args.self.now.refused) (moment (view g.S.Store mid.conn) mid.refused) c.in_ok-before.before c.alone.result _ _ _ c.in_ok-before.ensures.looks c.alone.ensures.memory c.alone.ensures.value
    (λ fine before met is.
    is
    ∙ near_alone range (omega (arith, c.first.ensures.limit.rising)) (rows_of (tables_in old)) (c.args.self.now.well.kept fine).rising c.get-first.result c.get-last.result
    (c.get-first.ensures.value ∙ c.first.ensures.value) (c.get-last.ensures.value ∙ c.last.ensures.value) _ before c.in-Some.row (search rules) (search rules))
