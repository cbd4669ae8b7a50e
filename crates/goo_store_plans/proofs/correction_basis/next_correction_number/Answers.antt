use Rattle.std.proofs.Common.{Ok, subst}
use Rattle.sqlite.specs.Held.{state}
use Rattle.goo_tables_rows.specs.Rows.{correction_key}
use Rattle.goo_store_plans.specs.Found.{IsNext}
use Rattle.goo_store_plans.proofs.LookUps.{looks_none, looks_so}
use Rattle.goo_store_plans.proofs.Refusing.{blames_none}
use Rattle.goo_store_plans.proofs.correction_basis.next_correction_number.Goals as goal

pub returns-in-Some-clause-looks : goal.returns-in-Some-clause-looks
returns-in-Some-clause-looks g c = looks_none (state g.S.Store c.args.conn.now) (Ok c.in-Some.number) _ (λ t it next. subst (λ o. IsNext o correction_key t.corrections) c.in-Some.is next)

pub returns-in-None-clause-looks : goal.returns-in-None-clause-looks
returns-in-None-clause-looks g c =
    looks_so (state g.S.Store c.args.conn.now) (state g.S.Store c.find_correction_number.new.conn) c.find_correction_number.result _ _ c.find_correction_number.ensures.looks (λ t it n is next. is)

pub returns-in-Some-clause-blames : goal.returns-in-Some-clause-blames
returns-in-Some-clause-blames g c = blames_none (state g.S.Store c.args.conn.now) (Ok c.in-Some.number) _ (λ t stands kept room. tt)
