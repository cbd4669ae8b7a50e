use Rattle.std.proofs.Common.{List, ◌+◌, drop, subst, arith}
use Rattle.std.proofs.lemmas.List.{drop_all}
use Rattle.goo_types.specs.Piece.{IsRising}
use Rattle.goo_types.specs.declared.piece.Piece.{Piece}
use Rattle.goo_ranges_pieces.proofs.Rest.{drop-piece}
use Rattle.goo_ranges_pieces.proofs.Rising.{rising-drop}
use Rattle.goo_core_judges.specs.Walk.{HasParts}
use Rattle.goo_core_judges.proofs.Walking.{has_step, has_all, all_there}
use Rattle.goo_core_judges.proofs.parts.parts_in.Goals as goal

pub loop-piece-preserved : goal.loop-piece-preserved
loop-piece-preserved c =
    let pieces = c.args.pieces.now in
    let i = c.loop-piece.piece-index in
    let p = c.piece-item.result in
    let split = drop-piece pieces i p (omega (arith, c.loop-piece-test.true)) c.piece-item.is in
    has_step pieces c.args.range (all_there pieces c.args.range c.requires.there) p (drop (i + 1) pieces) c.loop-piece.next c.in_ok-next.next c.loop-piece.parts.items c.push_stretch.new.parts.items
    (subst IsRising split (rising-drop pieces i c.requires.rising))
    (subst (λ (left : List Piece). HasParts pieces left c.args.range c.loop-piece.next c.loop-piece.parts.items) split c.loop-piece.invariant)
    c.in_ok-next.ensures

pub returns-clause-parts : goal.returns-clause-parts
returns-clause-parts c =
    let pieces = c.args.pieces.now in
    has_all pieces c.args.range (all_there pieces c.args.range c.requires.there) c.loop-piece.next c.loop-piece.parts.items
    (subst (λ (left : List Piece). HasParts pieces left c.args.range c.loop-piece.next c.loop-piece.parts.items) (drop_all c.loop-piece.piece-index pieces (omega (arith, c.loop-piece-test.false))) c.loop-piece.invariant)
