use Rattle.std.proofs.Common.{Ok, subst, arith}
use Rattle.sqlite.specs.Held.{state}
use Rattle.goo_store_plans.specs.PlanNeeds.{HasRoomFor}
use Rattle.goo_store_plans.proofs.LookUps.{looks_none}
use Rattle.goo_store_plans.proofs.Refusing.{blames_none, blames_so}
use Rattle.goo_store_plans.proofs.known_basis.with_numbers.Goals as goal

pub returns-in-Declare-clause-blames : goal.returns-in-Declare-clause-blames
returns-in-Declare-clause-blames g c =
    blames_so (state g.S.Store c.args.conn.now) (state g.S.Store c.with_both.new.conn) c.with_both.result _ _ c.with_both.ensures.blames
    (λ t stands kept room.
    let both = subst (HasRoomFor t) c.in-Declare.is room in
    (λ n next. let left = both.0 n next in omega (arith, left), λ n next. let left = both.1 n next in omega (arith, left)))

pub returns-in-Import-clause-blames : goal.returns-in-Import-clause-blames
returns-in-Import-clause-blames g c =
    blames_so (state g.S.Store c.args.conn.now) (state g.S.Store c.with_next_lot.new.conn) c.with_next_lot.result _ _ c.with_next_lot.ensures.blames
    (λ t stands kept room n next. let left = subst (HasRoomFor t) c.in-Import.is room n next in omega (arith, left))

pub returns-in-Correct-clause-blames : goal.returns-in-Correct-clause-blames
returns-in-Correct-clause-blames g c =
    blames_so (state g.S.Store c.args.conn.now) (state g.S.Store c.with_correction.new.conn) c.with_correction.result _ _ c.with_correction.ensures.blames
    (λ t stands kept room n next. let left = subst (HasRoomFor t) c.in-Correct.is room n next in omega (arith, left))

pub returns-in_default-clause-looks : goal.returns-in_default-clause-looks
returns-in_default-clause-looks g c = looks_none (state g.S.Store c.args.conn.now) (Ok c.args.known) _ (λ t it known. known)

pub returns-in_default-clause-blames : goal.returns-in_default-clause-blames
returns-in_default-clause-blames g c = blames_none (state g.S.Store c.args.conn.now) (Ok c.args.known) _ (λ t stands kept room. tt)
