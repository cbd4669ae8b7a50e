use Rattle.std.proofs.Common.{◌∙◌, ap, arith, inr, IfSome, IsTrue, Option, rules, subst, sym}
use Rattle.sqlite.specs.Effect.{Database}
use Rattle.sqlite.specs.Held.{state}
use Rattle.sqlite.specs.State.{HasCleanDisk}
use Rattle.goo_store_anew.specs.Answered.{IsSameIn}
use Rattle.goo_store_open.proofs.OnFiles.{if_both}
use Rattle.goo_store_open.specs.declared.layout.Layout.{Layout}
use Rattle.goo_store_trees.proofs.Opened.{err_both}
use Rattle.goo_store_adoption.specs.Judged.{count_of, HoldsRegistry}
use Rattle.goo_store_adoption.proofs.taking.adopted.Goals as goal

pub returns-in-Ok-Some-clause-comes : goal.returns-in-Ok-Some-clause-comes
returns-in-Ok-Some-clause-comes g c =
    let a = state g.S.Store c.args.conn in
    let b = state g.S.Store c.adopt.new.conn in
    let out : IsTrue c.is_autocommit-settled.result = search rules in
    if_both c.reopened.result
    (λ conn kept same clean.
    let it = same clean in
    let late : HasCleanDisk b = omega (arith, kept, clean) in
    let judged = subst (λ (o : Option Layout). IfSome o (λ layout. HoldsRegistry layout a.now)) c.in-Ok-Some.field-0-is (c.in-Ok-Some.ensures.judged late) in
    let alike = subst (λ (o : Option Layout). IfSome o (λ layout. IsSameIn (count_of layout) a.now b.now)) c.in-Ok-Some.field-0-is (c.in-Ok-Some.ensures.same late) in
    inr (c.in-Ok-Some.field-0-0, judged, b.now, it.1 ∙ sym (ap (λ (d : Database). d.trees) (c.is_autocommit-settled.ensures.settled out it.0)), alike))
    c.reopened.ensures.clean c.reopened.ensures.same

pub returns-in-Ok-Some-clause-left : goal.returns-in-Ok-Some-clause-left
returns-in-Ok-Some-clause-left g c =
    err_both c.reopened.result (λ e lost left clean db may. c.in-Ok-Some.ensures.crash.crash (omega (arith, lost, clean)) db (left db may)) c.reopened.ensures.lost c.reopened.ensures.left

pub returns-in-Err-clause-word : goal.returns-in-Err-clause-word
returns-in-Err-clause-word g c = λ clean.
    let late : HasCleanDisk (state g.S.Store c.adopt.new.conn) = omega (arith, clean, c.settled_store.ensures.quiet.clean) in
    c.in-Err.ensures.word late
