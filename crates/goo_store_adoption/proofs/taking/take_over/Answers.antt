use Rattle.std.proofs.Common.{◌≡◌, ◌∙◌, ap, arith, false, inl, inr, rules, sym}
use Rattle.sqlite.specs.Effect.{Database}
use Rattle.sqlite.specs.Held.{state}
use Rattle.sqlite.specs.State.{HasCleanDisk}
use Rattle.goo_store_open.proofs.OnFiles.{if_both}
use Rattle.goo_store_trees.proofs.Opened.{err_both}
use Rattle.goo_store_adoption.specs.Judged.{IsOurs}
use Rattle.goo_store_adoption.proofs.Steps.{became_by, became_less, foreign_by}
use Rattle.goo_store_adoption.proofs.taking.take_over.Goals as goal

pub returns-in-Ok-clause-became : goal.returns-in-Ok-clause-became
returns-in-Ok-clause-became g c =
    let a = state g.S.Store c.args.conn in
    let m = state g.S.Store c.in-Ok.conn in
    let no : c.has_our_schema.result ≡ false = search rules in
    let nor : c.has_first_schema.result ≡ false = search rules in
    let foreign : IsOurs a.now.schema → ⊥ = foreign_by a.now.schema c.has_our_schema.result c.has_first_schema.result c.has_our_schema.ensures.schema.1 c.has_first_schema.ensures.schema.1 no nor in
    if_both c.adopted.result (λ conn kept comes. inr (λ clean. became_by a.now m.now _ foreign (c.in-Ok.ensures.less (omega (arith, kept, clean))) (comes clean))) c.adopted.ensures.clean c.adopted.ensures.comes

pub returns-in-Ok-clause-left : goal.returns-in-Ok-clause-left
returns-in-Ok-clause-left g c =
    let a = state g.S.Store c.args.conn in
    let m = state g.S.Store c.in-Ok.conn in
    let no : c.has_our_schema.result ≡ false = search rules in
    let nor : c.has_first_schema.result ≡ false = search rules in
    let foreign : IsOurs a.now.schema → ⊥ = foreign_by a.now.schema c.has_our_schema.result c.has_first_schema.result c.has_our_schema.ensures.schema.1 c.has_first_schema.ensures.schema.1 no nor in
    err_both c.adopted.result
    (λ e lost left clean db may.
    let late : HasCleanDisk m = omega (arith, lost, clean) in
    let it = c.in-Ok.ensures.opened.opened late in
    elim (left clean db may) [
      | inl there ↦ inr (became_by a.now m.now db foreign (c.in-Ok.ensures.less late) (inl (g.met.S.Store.settled c.in-Ok.conn.store db it.0.is_open there ∙ sym (ap (λ (d : Database). d.trees) it.0.clean))))
      | inr same ↦ inr (became_by a.now m.now db foreign (c.in-Ok.ensures.less late) (inr same))
    ])
    c.adopted.ensures.lost c.adopted.ensures.left

pub returns-in-Err-clause-left : goal.returns-in-Err-clause-left
returns-in-Err-clause-left g c = λ clean db may.
    let a = state g.S.Store c.args.conn in
    let no : c.has_our_schema.result ≡ false = search rules in
    let nor : c.has_first_schema.result ≡ false = search rules in
    let foreign : IsOurs a.now.schema → ⊥ = foreign_by a.now.schema c.has_our_schema.result c.has_first_schema.result c.has_our_schema.ensures.schema.1 c.has_first_schema.ensures.schema.1 no nor in
    elim (c.in-Err.ensures.left clean db may) [
      | inl there ↦ inl there
      | inr less ↦ inr (became_less a.now db foreign less)
    ]
