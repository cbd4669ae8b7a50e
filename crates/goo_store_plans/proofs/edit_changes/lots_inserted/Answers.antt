use Rattle.std.proofs.Common.{◌≡◌, ◌<◌, All, inl, inr, length, sym, subst, take, take_all, arith}
use Rattle.std.specs.List.{Any, Contains}
use Rattle.std.proofs.lemmas.List.Elements.{All-more, All-weaker}
use Rattle.goo_store_plans.proofs.edit_changes.lots_inserted.Goals as goal

pub loop-edit-preserved : goal.loop-edit-preserved
loop-edit-preserved c =
    let edits = c.args.edits.now in
    let i = c.loop-edit.edit-index in
    let low : i < length edits = omega (arith, c.loop-edit-test.true) in
    let before = c.loop-edit.lots.items in
    let after = c.note_lots.new.lots.items in
    record {
      only = λ x has. elim (c.in_ok-note_lots.ensures.only x has) [
        | inl earlier ↦ c.loop-edit.invariant.only x earlier
        | inr there ↦ (i, c.edit-item.result, low, sym c.edit-item.is, subst (Any (λ p. p.lot ≡ x)) c.deref.ensures.value there)
      ];
      noted = All-more (λ e. All (λ p. Contains after p.lot) e.insert.items) edits i c.edit-item.result low
          (All-weaker (λ e. All (λ p. Contains before p.lot) e.insert.items) (λ e. All (λ p. Contains after p.lot) e.insert.items) (λ e. All-weaker (λ p. Contains before p.lot) (λ p. Contains after p.lot) (λ p. c.in_ok-note_lots.ensures.kept p.lot) e.insert.items) (take i edits) c.loop-edit.invariant.noted)
          (subst (λ e. All (λ p. Contains after p.lot) e.insert.items) c.edit-item.is (subst (All (λ p. Contains after p.lot)) c.deref.ensures.value c.in_ok-note_lots.ensures.noted));
    }

pub returns-clause-noted : goal.returns-clause-noted
returns-clause-noted c = subst (All (λ e. All (λ p. Contains c.loop-edit.lots.items p.lot) e.insert.items)) (take_all c.loop-edit.edit-index c.args.edits.now c.loop-edit-test.false) c.loop-edit.invariant.noted

pub returns-clause-only : goal.returns-clause-only
returns-clause-only c = c.loop-edit.invariant.only
