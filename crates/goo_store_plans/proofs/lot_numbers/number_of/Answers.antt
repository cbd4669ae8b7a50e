use Rattle.sqlite.specs.Held.{state}
use Rattle.std.proofs.Common.{Ok}
use Rattle.goo_store_plans.proofs.LookUps.{looks_none, looks_so}
use Rattle.std.proofs.Common.{◌≡◌, inl, inr, refl}
use Rattle.goo_store_plans.proofs.Refusing.{blames_none, blames_so, no_such}
use Rattle.goo_store_plans.proofs.lot_numbers.number_of.Goals as goal

pub returns-in-Some-clause-looks : goal.returns-in-Some-clause-looks
returns-in-Some-clause-looks g c = looks_none (state g.S.Store c.args.conn.now) (Ok c.in-Some.number) _ (λ t it lots with. c.in-Some.ensures.value lots with.added_are)

pub returns-in-None-clause-looks : goal.returns-in-None-clause-looks
returns-in-None-clause-looks g c =
    looks_so (state g.S.Store c.args.conn.now) (state g.S.Store c.find_number.new.conn) c.find_number.result _ _ c.find_number.ensures.looks
    (λ t it n is lots with. record { row = is.row; there = with.kept n is.row is.there; states = is.states })

pub returns-in-Some-clause-blames : goal.returns-in-Some-clause-blames
returns-in-Some-clause-blames g c = blames_none (state g.S.Store c.args.conn.now) (Ok c.in-Some.number) _ (λ t stands kept needs. tt)

pub returns-in-None-clause-blames : goal.returns-in-None-clause-blames
returns-in-None-clause-blames g c =
    blames_so (state g.S.Store c.args.conn.now) (state g.S.Store c.find_number.new.conn) c.find_number.result _ _ c.find_number.ensures.blames
    (λ t stands kept at_hand. elim at_hand [
      | inl added ↦ absurd (no_such (λ x. x.lot ≡ c.args.lot.now) c.args.added.now (c.in-None.ensures.none refl) added)
      | inr known ↦ known
    ])
