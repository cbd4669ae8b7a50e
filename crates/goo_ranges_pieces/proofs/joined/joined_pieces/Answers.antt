use Rattle.std.proofs.Common.{◌+◌, [], ◌∷◌, take, arith}
use Rattle.std.proofs.lemmas.List.{take_all}
use Rattle.goo_ranges_pieces.proofs.Joining.{joining-self, joining-then, joining-append, rising-take, take-piece}
use Rattle.goo_ranges_pieces.proofs.joined.joined_pieces.Goals as goal

pub push_joined-requires : goal.push_joined-requires
push_joined-requires c =
    let items = c.args.pieces.now in
    let i = c.loop-piece.piece-index in
    let p = c.piece-item.result in
    let front = rw (take-piece items i p (omega arith) c.piece-item.is) at (rising-take items (i + 1) c.requires) in
    (joining-append (take i items) c.loop-piece.out.items (p ∷ []) c.loop-piece.invariant.joined).rising 0 front

pub loop-piece-init : goal.loop-piece-init
loop-piece-init c = rw c.new-out.ensures.items (record { joined = joining-self []; apart = tt })

pub loop-piece-preserved : goal.loop-piece-preserved
loop-piece-preserved c =
    let items = c.args.pieces.now in
    let i = c.loop-piece.piece-index in
    let p = c.piece-item.result in
    let front = joining-append (take i items) c.loop-piece.out.items (p ∷ []) c.loop-piece.invariant.joined in
    record {
      joined = rw (take-piece items i p (omega arith) c.piece-item.is) (joining-then _ _ _ front c.in_ok-push_joined.ensures.joined);
      apart = c.in_ok-push_joined.ensures.apart c.loop-piece.invariant.apart;
    }

pub returns-clause-joined : goal.returns-clause-joined
returns-clause-joined c = rw (take_all c.loop-piece.piece-index c.args.pieces.now (omega arith)) at c.loop-piece.invariant.joined
