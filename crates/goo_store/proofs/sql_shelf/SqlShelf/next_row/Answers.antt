use Rattle.std.proofs.Common.{◌≡◌, ◌∙◌, ◌&&◌, nat_lt, List, Option, rules, find, inl, inr, ap, sym, subst, None, Some}
use Rattle.goo_spec.specs.State.{State}
use Rattle.goo_types.specs.declared.piece.Piece.{Piece}
use Rattle.sqlite.specs.Held.{state as view}
use Rattle.goo_spec_tables.specs.Places.{rows_of}
use Rattle.goo_core_shelf.specs.Sought.{is_sought}
use Rattle.goo_core_shelf.proofs.Looking.{looked, looked_as, looked_then}
use Rattle.goo_store_judge.specs.Moments.{moment, tables_in}
use Rattle.goo_store_judge.proofs.Blaming.{blamed_then}
use Rattle.goo_store_plans.specs.Found.{IsEdge}
use Rattle.goo_store_pieces.proofs.Edges.{next_behind}
use Rattle.goo_store.proofs.NextRow.{before_forward, next_before, next_later, first_of_all}
use Rattle.goo_store.proofs.sql_shelf.SqlShelf.next_row.Goals as goal

pub returns-in_default-clause-looks : goal.returns-in_default-clause-looks
returns-in_default-clause-looks g c =
    let old = view g.S.Store c.args.self.now.conn in
    let new = c.first_beyond.new.self in
    let well = c.args.self.now.well in
    let none : c.args.after ≡ None = search rules in
    looked_as (moment old c.args.self.now.refused) (moment (view g.S.Store new.conn) new.refused) c.first_beyond.result _ _ c.first_beyond.ensures.looks
    (λ fine row found. found ∙ sym (first_of_all (tables_in old) (well.kept fine) old.now (well.stands fine) (is_sought c.args.sought.now) c.args.after none))

pub returns-in-Some-reaching_row-clause-looks : goal.returns-in-Some-reaching_row-clause-looks
returns-in-Some-reaching_row-clause-looks g c =
    let old = view g.S.Store c.args.self.now.conn in
    let new = c.row_before.new.self in
    let well = c.args.self.now.well in
    looked (moment old c.args.self.now.refused) (moment (view g.S.Store new.conn) new.refused) c.in_ok-before.before _ _ _ c.in_ok-before.ensures.looks
    (λ fine found.
    next_before (is_sought c.args.sought.now) c.args.after c.get-after.result (c.in-Some.is ∙ ap Some (sym c.get-after.ensures.value)) (rows_of (tables_in old)) (well.kept fine).rising c.in_ok-before.before found
    c.reaching_row.result _ c.in-Some-reaching_row.is (c.reaching_row.ensures.value (before_forward (rows_of (tables_in old)) (well.kept fine).rising _ c.in_ok-before.before found)))

pub returns-in-None-clause-looks : goal.returns-in-None-clause-looks
returns-in-None-clause-looks g c =
    let old = view g.S.Store c.args.self.now.conn in
    let mid = c.row_before.new.self in
    let new = c.first_beyond-in-None.new.self in
    let well = c.args.self.now.well in
    let second = λ (s : State) (rows : List Piece) (row : Option Piece). row ≡ find (λ p. is_sought c.args.sought.now p && nat_lt c.get-after.result p.first) rows in
    let both = looked_then (moment old c.args.self.now.refused) (moment (view g.S.Store mid.conn) mid.refused) (moment (view g.S.Store new.conn) new.refused) c.in_ok-before.before c.first_beyond-in-None.result _ second
    c.in_ok-before.ensures.looks c.first_beyond-in-None.ensures.looks in
    looked_as (moment old c.args.self.now.refused) (moment (view g.S.Store new.conn) new.refused) c.first_beyond-in-None.result _ _ both
    (λ fine row so.
    next_later (is_sought c.args.sought.now) c.args.after c.get-after.result (c.in-Some.is ∙ ap Some (sym c.get-after.ensures.value)) (rows_of (tables_in old)) (well.kept fine).rising c.in_ok-before.before so.0
    c.reaching_row.result row c.in-None.is (c.reaching_row.ensures.value (before_forward (rows_of (tables_in old)) (well.kept fine).rising _ c.in_ok-before.before so.0)) so.1)

pub returns-in-None-clause-store : goal.returns-in-None-clause-store
returns-in-None-clause-store g c =
    let old = view g.S.Store c.args.self.now.conn in
    let mid = c.row_before.new.self in
    let new = c.first_beyond-in-None.new.self in
    blamed_then old (view g.S.Store mid.conn) (view g.S.Store new.conn) c.args.self.now.refused mid.refused new.refused c.in_ok-before.before _ c.in_ok-before.ensures.looks c.in_ok-before.ensures.store
    c.first_beyond-in-None.result _ c.first_beyond-in-None.ensures.looks c.first_beyond-in-None.ensures.store

-- where a row is known to end at the number

pub returns-then-is_clear-clause-looks : goal.returns-then-is_clear-clause-looks
returns-then-is_clear-clause-looks g c =
    let old = view g.S.Store c.args.self.now.conn in
    let new = c.first_beyond-then-is_clear.new.self in
    let well = c.args.self.now.well in
    let rows = rows_of (tables_in old) in
    looked_as (moment old c.args.self.now.refused) (moment (view g.S.Store new.conn) new.refused) c.first_beyond-then-is_clear.result _ _ c.first_beyond-then-is_clear.ensures.looks
    (λ fine row found.
    let at : IsEdge (Some c.get-after.result) rows =
    elim (c.is_clear.ensures c.if-is_clear.true) [
      | inl is ↦ subst (λ o. IsEdge o rows) is (c.args.self.now.known fine).edges.last
      | inr is ↦ subst (λ o. IsEdge o rows) is (c.args.self.now.known fine).edges.asked
    ] in
    found ∙ sym (next_behind (is_sought c.args.sought.now) c.args.after c.get-after.result (c.in-Some.is ∙ ap Some (sym c.get-after.ensures.value)) rows (well.kept fine).rising at))
