use Rattle.std.proofs.Common.{◌<◌, ◌∙◌, take, length, refl, ap, subst, arith, rules}
use Rattle.std.proofs.lemmas.List.{take_all}
use Rattle.goo_spec_tables.specs.States.{state_of}
use Rattle.goo_tables_rows.proofs.Inside.{fold_more}
use Rattle.goo_store_changes.specs.Changes.{made, made_all}
use Rattle.goo_store_pieces.specs.Caching.{AreLeft}
use Rattle.goo_store_pieces.proofs.cache.all_leave.Goals as goal

pub loop-change-init : goal.loop-change-init
loop-change-init c t = refl

pub loop-change-preserved : goal.loop-change-preserved
loop-change-preserved c t =
    let xs = c.args.changes.now in
    let i = c.loop-change.change-index in
    let item = c.change-item.result in
    let low : i < length xs = omega (arith, c.loop-change-test.true) in
    subst (λ u. AreLeft (state_of t) (state_of u)) (ap (made (made_all t (take i xs))) c.change-item.is ∙ fold_more made t xs i item low)
    (c.leaves.ensures (search rules) (made_all t (take i xs)) ∙ c.loop-change.invariant t)

pub returns : goal.returns
returns c is t =
    subst (λ xs. AreLeft (state_of t) (state_of (made_all t xs))) (take_all c.loop-change.change-index c.args.changes.now (omega (arith, c.loop-change-test.false))) (c.loop-change.invariant t)
