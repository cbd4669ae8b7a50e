use Rattle.std.proofs.Common.{◌≡◌, ◌∙◌, List, Option, Some, sym}
use Rattle.goo_spec.specs.State.{State}
use Rattle.goo_types.specs.declared.piece.Piece.{Piece}
use Rattle.sqlite.specs.Held.{state as view}
use Rattle.goo_core_shelf.proofs.Looking.{looked_as, looked_then}
use Rattle.goo_store_judge.specs.Moments.{moment}
use Rattle.goo_store_judge.proofs.Blaming.{blamed_then}
use Rattle.goo_store.proofs.sql_shelf.SqlShelf.next_in_tables.Goals as goal

pub returns-in-Some-clause-looks : goal.returns-in-Some-clause-looks
returns-in-Some-clause-looks g c =
    let old = view g.S.Store c.args.self.now.conn in
    let mid = c.next_row.new.self in
    let new = c.follow.new.self in
    let second = λ (s : State) (rows : List Piece) (found : Option Piece). found ≡ Some c.in-Some.row in
    let both = looked_then (moment old c.args.self.now.refused) (moment (view g.S.Store mid.conn) mid.refused) (moment (view g.S.Store new.conn) new.refused) c.in_ok-found.found c.follow.result _ second
    c.in_ok-found.ensures.looks c.follow.ensures.looks in
    looked_as (moment old c.args.self.now.refused) (moment (view g.S.Store new.conn) new.refused) c.follow.result _ _ both
    (λ fine found so. so.1 ∙ sym c.in-Some.is ∙ so.0)

pub returns-in-Some-clause-store : goal.returns-in-Some-clause-store
returns-in-Some-clause-store g c =
    let old = view g.S.Store c.args.self.now.conn in
    let mid = c.next_row.new.self in
    let new = c.follow.new.self in
    blamed_then old (view g.S.Store mid.conn) (view g.S.Store new.conn) c.args.self.now.refused mid.refused new.refused c.in_ok-found.found _ c.in_ok-found.ensures.looks c.in_ok-found.ensures.store
    c.follow.result _ c.follow.ensures.looks c.follow.ensures.store
