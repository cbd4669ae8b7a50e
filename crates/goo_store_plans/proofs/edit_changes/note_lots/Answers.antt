use Rattle.std.proofs.Common.{◌<◌, All, inl, inr, length, sym, subst, take, take_all, arith}
use Rattle.std.specs.List.{Contains}
use Rattle.std.proofs.lemmas.List.Elements.{All-more, All-weaker}
use Rattle.goo_store_plans.proofs.edit_changes.note_lots.Goals as goal

pub loop-piece-preserved : goal.loop-piece-preserved
loop-piece-preserved c =
    let pieces = c.args.pieces.now in
    let i = c.loop-piece.piece-index in
    let low : i < length pieces = omega (arith, c.loop-piece-test.true) in
    let before = c.loop-piece.lots.items in
    let after = c.note_lot.new.lots.items in
    record {
      kept = λ x had. c.in_ok-note_lot.ensures.kept x (c.loop-piece.invariant.kept x had);
      only = λ x has. elim (c.in_ok-note_lot.ensures.only x has) [
        | inl before ↦ c.loop-piece.invariant.only x before
        | inr is ↦ inr (i, c.piece-item.result, low, sym c.piece-item.is, is)
      ];
      noted = All-more (λ p. Contains after p.lot) pieces i c.piece-item.result low
          (All-weaker (λ p. Contains before p.lot) (λ p. Contains after p.lot) (λ p. c.in_ok-note_lot.ensures.kept p.lot) (take i pieces) c.loop-piece.invariant.noted)
          (subst (λ p. Contains after p.lot) c.piece-item.is c.in_ok-note_lot.ensures.noted);
    }

pub returns-clause-noted : goal.returns-clause-noted
returns-clause-noted c = subst (All (λ p. Contains c.loop-piece.lots.items p.lot)) (take_all c.loop-piece.piece-index c.args.pieces.now c.loop-piece-test.false) c.loop-piece.invariant.noted

pub returns-clause-only : goal.returns-clause-only
returns-clause-only c = c.loop-piece.invariant.only
