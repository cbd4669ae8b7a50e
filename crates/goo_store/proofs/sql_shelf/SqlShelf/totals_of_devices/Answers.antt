use Rattle.std.proofs.Common.{◌∙◌, ap, subst, sym}
use Rattle.std.specs.FinMap.{keys}
use Rattle.sqlite.specs.Held.{state as view}
use Rattle.goo_core_shelf.specs.Shelf.{totals_of}
use Rattle.goo_spec.specs.State.{State}
use Rattle.goo_store_audit.specs.Summing.{AreTakenBy}
use Rattle.goo_store_judge.proofs.Looking.{looked_then}
use Rattle.goo_store_judge.proofs.Blaming.{blamed_then}
use Rattle.goo_store.proofs.sql_shelf.SqlShelf.totals_of_devices.Goals as goal

pub returns-clause-looks : goal.returns-clause-looks
returns-clause-looks g c =
    let mid = c.taken.new.self in
    let new = c.totals_beside.new.self in
    looked_then (view g.S.Store c.args.self.now.conn) (view g.S.Store mid.conn) (view g.S.Store new.conn) c.args.self.now.refused mid.refused new.refused
    c.in_ok-taken.taken _ c.in_ok-taken.ensures.looks _ _ c.totals_beside.result c.totals_beside.ensures.looks
    (λ same taken totals says own devices.
    says (own ∙ sym (ap (λ (s : State). s.own) same)) (devices ∙ sym (ap (λ (s : State). keys s.devices) same)) (subst (λ (s : State). AreTakenBy s.corrections c.in_ok-taken.taken) (sym same) taken) ∙ ap totals_of same)

pub returns-clause-store : goal.returns-clause-store
returns-clause-store g c =
    let mid = c.taken.new.self in
    let new = c.totals_beside.new.self in
    blamed_then (view g.S.Store c.args.self.now.conn) (view g.S.Store mid.conn) (view g.S.Store new.conn) c.args.self.now.refused mid.refused new.refused
    c.in_ok-taken.taken _ c.in_ok-taken.ensures.looks c.in_ok-taken.ensures.store c.totals_beside.result _ c.totals_beside.ensures.looks c.totals_beside.ensures.store
