use Rattle.std.proofs.Common.{◌+◌, [], ◌∷◌, ◌++◌, take, arith}
use Rattle.std.specs.Option.{option_to_list}
use Rattle.goo_types.specs.Piece.{IsRising}
use Rattle.goo_ranges_pieces.specs.Change.{IsChanged, moved, cuts}
use Rattle.goo_ranges_pieces.proofs.Changing.{changed-nil, changed-joining, changed-append, changed-piece, moved-none}
use Rattle.goo_ranges_pieces.proofs.Joining.{piece-forward, rising-take, take-piece, push-first, push-second, push-third, push-all}
use Rattle.goo_ranges_pieces.proofs.joined.moved_pieces.Goals as goal
use Rattle.goo_ranges_pieces.proofs.joined.moved_pieces.Goals.{After-part-right}

pub part-left-requires : goal.part-left-requires
part-left-requires c = piece-forward 0 c.args.touched.now c.loop-piece.piece-index c.piece-item.result c.requires.rising (omega arith) c.piece-item.is

pub part-middle-requires : goal.part-middle-requires
part-middle-requires c = piece-forward 0 c.args.touched.now c.loop-piece.piece-index c.piece-item.result c.requires.rising (omega arith) c.piece-item.is

pub part-right-requires : goal.part-right-requires
part-right-requires c = piece-forward 0 c.args.touched.now c.loop-piece.piece-index c.piece-item.result c.requires.rising (omega arith) c.piece-item.is

-- the pieces so far, and the parts of this one
changed-now : (c : After-part-right) → IsChanged (moved c.args.first c.args.last c.args.place.now) (cuts c.args.first c.args.last) (take (c.loop-piece.piece-index + 1) c.args.touched.now) (c.loop-piece.out.items ++ (option_to_list c.part-left.result ++ (option_to_list c.part-middle.result ++ option_to_list c.part-right.result)))
changed-now c =
    let first = c.args.first in
    let last = c.args.last in
    let place = c.args.place.now in
    let p = c.piece-item.result in
    let i = c.loop-piece.piece-index in
    let left = rw c.get-first.ensures.value at c.part-left.ensures in
    let middle = rw (c.get-first.ensures.value, c.get-last.ensures.value) at c.part-middle.ensures in
    let right = rw (c.get-last.ensures.value, c.get.ensures.value) at c.part-right.ensures in
    let valid = c.get-first.ensures.limit in
    let here = changed-piece first last place p c.part-left.result c.part-middle.result c.part-right.result (omega arith) (omega arith) left middle right in
    rw (take-piece c.args.touched.now i p (omega arith) c.piece-item.is)
    (changed-append (moved first last place) (cuts first last) (moved-none first last place) (take i c.args.touched.now) (p ∷ []) c.loop-piece.out.items _ c.loop-piece.invariant.changed here)

rising-now : (c : After-part-right) → IsRising (c.loop-piece.out.items ++ (option_to_list c.part-left.result ++ (option_to_list c.part-middle.result ++ option_to_list c.part-right.result)))
rising-now c = (changed-now c).rising 0 (rising-take c.args.touched.now (c.loop-piece.piece-index + 1) c.requires.rising)

pub push_part-requires : goal.push_part-requires
push_part-requires c = push-first c.loop-piece.out.items (option_to_list c.part-left.result) (option_to_list c.part-middle.result) (option_to_list c.part-right.result) (rising-now (goal.at.push_part-requires c).After-part-right)

pub push_part-requires-in-loop-piece : goal.push_part-requires-in-loop-piece
push_part-requires-in-loop-piece c =
    push-second c.loop-piece.out.items (option_to_list c.part-left.result) (option_to_list c.part-middle.result) (option_to_list c.part-right.result) (rising-now (goal.at.push_part-requires-in-loop-piece c).After-part-right) _ c.in_ok-push_part.ensures.joined

pub push_part-requires-in-loop-piece-2 : goal.push_part-requires-in-loop-piece-2
push_part-requires-in-loop-piece-2 c =
    push-third c.loop-piece.out.items (option_to_list c.part-left.result) (option_to_list c.part-middle.result) (option_to_list c.part-right.result) (rising-now (goal.at.push_part-requires-in-loop-piece-2 c).After-part-right) _ _ c.in_ok-push_part.ensures.joined c.in_ok-push_part-2.ensures.joined

pub loop-piece-init : goal.loop-piece-init
loop-piece-init c = rw c.new-out.ensures.items (record { changed = changed-nil _ _ (moved-none c.args.first c.args.last c.args.place.now); apart = tt })

pub loop-piece-preserved : goal.loop-piece-preserved
loop-piece-preserved c =
    let first = c.args.first in
    let last = c.args.last in
    let place = c.args.place.now in
    let here = (goal.at.loop-piece-preserved c).After-part-right in
    record {
      changed = changed-joining (moved first last place) (cuts first last) (moved-none first last place) (take (c.loop-piece.piece-index + 1) c.args.touched.now) (c.loop-piece.out.items ++ (option_to_list c.part-left.result ++ (option_to_list c.part-middle.result ++ option_to_list c.part-right.result))) c.push_part-in-loop-piece-2.new.pieces.items (changed-now here)
          (push-all c.loop-piece.out.items (option_to_list c.part-left.result) (option_to_list c.part-middle.result) (option_to_list c.part-right.result) (rising-now here) _ _ _ c.in_ok-push_part.ensures.joined c.in_ok-push_part-2.ensures.joined c.in_ok-push_part-3.ensures.joined);
      apart = c.in_ok-push_part-3.ensures.apart (c.in_ok-push_part-2.ensures.apart (c.in_ok-push_part.ensures.apart c.loop-piece.invariant.apart));
    }
