use Rattle.std.proofs.Common.{◌∙◌, ap, sym}
use Rattle.sqlite.specs.Held.{state as view}
use Rattle.goo_core_shelf.specs.Shelf.{totals_of}
use Rattle.goo_spec.specs.State.{State}
use Rattle.goo_store_judge.proofs.Looking.{looked_then}
use Rattle.goo_store_judge.proofs.Blaming.{blamed_then}
use Rattle.goo_store.proofs.shelf.SqlShelfShelf.totals.Goals as goal

pub returns-clause-looks : goal.returns-clause-looks
returns-clause-looks g c =
    let mid = c.look_up_code.new.self in
    let new = c.totals_by.new.self in
    looked_then (view g.S.Store c.args.self.now.conn) (view g.S.Store mid.conn) (view g.S.Store new.conn) c.args.self.now.refused mid.refused new.refused
    c.in_ok-own.own _ c.in_ok-own.ensures.looks _ _ c.totals_by.result c.totals_by.ensures.looks
    (λ same own totals says. says (own ∙ sym (ap (λ (s : State). s.own) same)) ∙ ap totals_of same)

pub returns-clause-store : goal.returns-clause-store
returns-clause-store g c =
    let mid = c.look_up_code.new.self in
    let new = c.totals_by.new.self in
    blamed_then (view g.S.Store c.args.self.now.conn) (view g.S.Store mid.conn) (view g.S.Store new.conn) c.args.self.now.refused mid.refused new.refused
    c.in_ok-own.own _ c.in_ok-own.ensures.looks c.in_ok-own.ensures.store c.totals_by.result _ c.totals_by.ensures.looks c.totals_by.ensures.store
