use Rattle.std.proofs.Common.{Ok, true, false, ap, sym, ◌∙◌}
use Rattle.sqlite.specs.Held.{state}
use Rattle.goo_spec.specs.Lots.{key_of}
use Rattle.goo_store_plans.specs.LotRows.{is_among, is_among_missing}
use Rattle.goo_store_plans.proofs.Found.{kept_known, missing_unknown}
use Rattle.goo_store_plans.proofs.LookUps.{looks_none, looks_so}
use Rattle.goo_store_plans.proofs.Refusing.{blames_none}
use Rattle.goo_store_plans.proofs.gathered_lots.is_there_already.Goals as goal

pub returns-then-among-clause-looks : goal.returns-then-among-clause-looks
returns-then-among-clause-looks g c = looks_none (state g.S.Store c.args.conn.now) (Ok true) _ (λ t it are. sym (kept_known t.lots c.args.kept.now.found.items (key_of c.args.lot.now) are.found (ap (λ xs. is_among xs (key_of c.args.lot.now)) (sym c.deref.ensures.value) ∙ sym c.is_among_lots-among.ensures ∙ c.if-among.true)))

pub returns-then-missing-clause-looks : goal.returns-then-missing-clause-looks
returns-then-missing-clause-looks g c =
    looks_none (state g.S.Store c.args.conn.now) (Ok false) _
    (λ t it are. sym (missing_unknown t.lots c.args.kept.now.missing.items (key_of c.args.lot.now) are.missing (ap (λ ks. is_among_missing ks (key_of c.args.lot.now)) (sym c.deref-2.ensures.value) ∙ sym c.is_missing-missing.ensures ∙ c.if-missing.true)))

pub returns-clause-looks : goal.returns-clause-looks
returns-clause-looks g c = looks_so (state g.S.Store c.args.conn.now) (state g.S.Store c.is_in_table.new.conn) c.is_in_table.result _ _ c.is_in_table.ensures.looks (λ t it known is are. is)

pub returns-then-among-clause-blames : goal.returns-then-among-clause-blames
returns-then-among-clause-blames g c = blames_none (state g.S.Store c.args.conn.now) (Ok true) _ (λ t stands kept needs. tt)

pub returns-then-missing-clause-blames : goal.returns-then-missing-clause-blames
returns-then-missing-clause-blames g c = blames_none (state g.S.Store c.args.conn.now) (Ok false) _ (λ t stands kept needs. tt)
