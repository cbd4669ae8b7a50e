use Rattle.std.proofs.Common.{◌+◌, ◌++◌, take, arith}
use Rattle.std.specs.Option.{option_to_list}
use Rattle.goo_ranges_pieces.specs.Change.{IsKept}
use Rattle.goo_ranges_pieces.proofs.Joining.{piece-forward, rising-take, take-piece}
use Rattle.goo_ranges.proofs.Keeping.{kept-nil, kept-more, kept-joining}
use Rattle.goo_ranges_pieces.proofs.Rising.{rising-weaken}
use Rattle.goo_ranges.proofs.cutting.kept_pieces.Goals as goal
use Rattle.goo_ranges.proofs.cutting.kept_pieces.Goals.{After-part}

pub part-requires : goal.part-requires
part-requires c = piece-forward 0 c.args.pieces.now c.loop-piece.piece-index c.piece-item.result c.requires (omega arith) c.piece-item.is

kept-now : (c : After-part) → IsKept c.args.low c.args.high (take (c.loop-piece.piece-index + 1) c.args.pieces.now) (c.loop-piece.out.items ++ option_to_list c.part.result)
kept-now c =
    rw (take-piece c.args.pieces.now c.loop-piece.piece-index c.piece-item.result (omega arith) c.piece-item.is)
    (kept-more c.args.low c.args.high _ c.loop-piece.out.items c.piece-item.result c.part.result c.loop-piece.invariant c.part.ensures)

pub push_part-requires : goal.push_part-requires
push_part-requires c =
    let here = kept-now (goal.at.push_part-requires c).After-part in
    rising-weaken 0 _ _ (omega arith) (here.rising 0 (rising-take c.args.pieces.now (c.loop-piece.piece-index + 1) c.requires))

pub loop-piece-init : goal.loop-piece-init
loop-piece-init c = rw c.new-out.ensures.items (kept-nil c.args.low c.args.high)

pub loop-piece-preserved : goal.loop-piece-preserved
loop-piece-preserved c = kept-joining c.args.low c.args.high _ _ _ (kept-now (goal.at.loop-piece-preserved c).After-part) c.in_ok-push_part.ensures.joined
