use Rattle.std.proofs.Common.{◌∙◌, ap, sym}
use Rattle.sqlite.specs.Held.{state as view}
use Rattle.goo_spec.specs.Correct.{correctable}
use Rattle.goo_spec.specs.State.{State}
use Rattle.goo_store_judge.proofs.Looking.{looked_then}
use Rattle.goo_store_judge.proofs.Blaming.{blamed_then}
use Rattle.goo_store.proofs.shelf.SqlShelfShelf.correctable.Goals as goal

pub returns-clause-looks : goal.returns-clause-looks
returns-clause-looks g c =
    let mid = c.corrections.new.self in
    let new = c.left_beside.new.self in
    looked_then (view g.S.Store c.args.self.now.conn) (view g.S.Store mid.conn) (view g.S.Store new.conn) c.args.self.now.refused mid.refused new.refused
    c.in_ok-corrections.corrections _ c.in_ok-corrections.ensures.looks _ _ c.left_beside.result c.left_beside.ensures.looks
    (λ same corrections left says. says (c.deref.ensures.value ∙ corrections ∙ sym (ap (λ (s : State). s.corrections) same)) ∙ ap (λ (s : State). correctable s c.args.device.now c.args.first_day) same)

pub returns-clause-store : goal.returns-clause-store
returns-clause-store g c =
    let mid = c.corrections.new.self in
    let new = c.left_beside.new.self in
    blamed_then (view g.S.Store c.args.self.now.conn) (view g.S.Store mid.conn) (view g.S.Store new.conn) c.args.self.now.refused mid.refused new.refused
    c.in_ok-corrections.corrections _ c.in_ok-corrections.ensures.looks c.in_ok-corrections.ensures.store c.left_beside.result _ c.left_beside.ensures.looks c.left_beside.ensures.store
