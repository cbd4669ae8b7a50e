use Rattle.std.proofs.Common.{◌≡◌, Ok, Err, ap, sym, ◌∙◌, arith, rules}
use Rattle.sqlite.specs.Held.{state}
use Rattle.goo_spec.specs.Lots.{key_of}
use Rattle.goo_store_plans.specs.LotRows.{is_among}
use Rattle.goo_store_plans.proofs.LookUps.{on_if, looks_none, looks_made}
use Rattle.goo_store_plans.proofs.PutIn.{put_before, put_there, put_new}
use Rattle.goo_store_plans.proofs.LookUps.{on}
use Rattle.goo_store_plans.proofs.Refusing.{blames_err, blames_made, blames_none, blames_so}
use Rattle.goo_store_plans.proofs.gathered_lots.gather_lot.Goals as goal

pub returns-then-among-clause-looks : goal.returns-then-among-clause-looks
returns-then-among-clause-looks g c =
    looks_none (state g.S.Store c.args.conn.now) (Ok tt) _ (λ t it are all left put. put_before t.lots all left c.args.part.now c.args.gathered.now (ap (λ xs. is_among xs (key_of c.args.part.now.lot)) (sym c.deref.ensures.value) ∙ sym c.is_among_lots-among.ensures ∙ c.if-among.true) put)

pub returns-then-known-clause-looks : goal.returns-then-known-clause-looks
returns-then-known-clause-looks g c =
    looks_made (state g.S.Store c.args.conn.now) (state g.S.Store c.is_there_already.new.conn) c.in_ok-known.known (Ok tt) _ _ c.in_ok-known.ensures.looks
    (λ t it is are all left put. put_there t.lots all left c.args.part.now c.args.gathered.now (sym (is are) ∙ c.if-known.true) put)

pub returns-clause-looks : goal.returns-clause-looks
returns-clause-looks g c =
    looks_made (state g.S.Store c.args.conn.now) (state g.S.Store c.is_there_already.new.conn) c.in_ok-known.known c.add_lot.result _ _ c.in_ok-known.ensures.looks
    (λ t it is. on_if c.add_lot.result c.add_lot.ensures.added (λ _ adds are all left put. put_new t.lots all left c.args.part.now c.args.gathered.now c.add_lot.new.gathered (sym (is are) ∙ c.if-known.false) (ap (λ xs. is_among xs (key_of c.args.part.now.lot)) (sym c.deref.ensures.value) ∙ sym c.is_among_lots-among.ensures ∙ c.if-among.false) adds put))

pub returns-clause-counts : goal.returns-clause-counts
returns-clause-counts g c = on c.add_lot.result c.add_lot.ensures.added (λ it. omega (arith, it.next))

pub returns-then-among-clause-blames : goal.returns-then-among-clause-blames
returns-then-among-clause-blames g c = blames_none (state g.S.Store c.args.conn.now) (Ok tt) _ (λ t stands kept low. tt)

pub returns-in_err-known-clause-blames : goal.returns-in_err-known-clause-blames
returns-in_err-known-clause-blames g c =
    let s0 = state g.S.Store c.args.conn.now in
    let s1 = state g.S.Store c.is_there_already.new.conn in
    let same : c.from_residual.result ≡ Err c.in_err-known.field-0.0 = search rules in
    blames_err s0 s1 c.in_err-known.field-0.0 c.from_residual.result _ same (blames_so s0 s1 (Err c.in_err-known.field-0.0) _ _ c.in_err-known.ensures.blames (λ t stands kept low. tt))

pub returns-then-known-clause-blames : goal.returns-then-known-clause-blames
returns-then-known-clause-blames g c =
    blames_made (state g.S.Store c.args.conn.now) (state g.S.Store c.is_there_already.new.conn) c.in_ok-known.known _ c.in_ok-known.ensures.looks _ c.in_ok-known.ensures.blames (Ok tt) _ (λ t stands kept low first. tt)

pub returns-clause-blames : goal.returns-clause-blames
returns-clause-blames g c =
    blames_made (state g.S.Store c.args.conn.now) (state g.S.Store c.is_there_already.new.conn) c.in_ok-known.known _ c.in_ok-known.ensures.looks _ c.in_ok-known.ensures.blames c.add_lot.result _
    (λ t stands kept low first. c.add_lot.ensures.memory low)
