use Rattle.std.proofs.Common.{◌∙◌, ap, sym}
use Rattle.std.specs.FinMap.{keys}
use Rattle.sqlite.specs.Held.{state as view}
use Rattle.goo_core_shelf.specs.Shelf.{totals_of}
use Rattle.goo_spec.specs.State.{State}
use Rattle.goo_store_judge.proofs.Looking.{looked_then}
use Rattle.goo_store_judge.proofs.Blaming.{blamed_then}
use Rattle.goo_store.proofs.sql_shelf.SqlShelf.totals_by.Goals as goal

pub returns-clause-looks : goal.returns-clause-looks
returns-clause-looks g c =
    let mid = c.device_numbers.new.self in
    let new = c.totals_of_devices.new.self in
    looked_then (view g.S.Store c.args.self.now.conn) (view g.S.Store mid.conn) (view g.S.Store new.conn) c.args.self.now.refused mid.refused new.refused
    c.in_ok-devices.devices _ c.in_ok-devices.ensures.looks _ _ c.totals_of_devices.result c.totals_of_devices.ensures.looks
    (λ same devices totals says own. says (own ∙ sym (ap (λ (s : State). s.own) same)) (c.deref.ensures.value ∙ devices ∙ sym (ap (λ (s : State). keys s.devices) same)) ∙ ap totals_of same)

pub returns-clause-store : goal.returns-clause-store
returns-clause-store g c =
    let mid = c.device_numbers.new.self in
    let new = c.totals_of_devices.new.self in
    blamed_then (view g.S.Store c.args.self.now.conn) (view g.S.Store mid.conn) (view g.S.Store new.conn) c.args.self.now.refused mid.refused new.refused
    c.in_ok-devices.devices _ c.in_ok-devices.ensures.looks c.in_ok-devices.ensures.store c.totals_of_devices.result _ c.totals_of_devices.ensures.looks c.totals_of_devices.ensures.store
