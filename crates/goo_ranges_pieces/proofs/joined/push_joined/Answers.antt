use Rattle.std.proofs.Common.{◌≡◌, ◌-◌, arith, rules, sym, ◌∙◌}
use Rattle.std.proofs.lemmas.List.{get_or_read}
use Rattle.goo_types.specs.Piece.{Follows}
use Rattle.goo_ranges_pieces.proofs.Joining.{joining-set, apart-set, apart-more, apart-first}
use Rattle.goo_ranges_pieces.proofs.joined.push_joined.Goals as goal
use Rattle.goo_ranges_pieces.proofs.joined.push_joined.Goals.{else-end-gt0-via-then-end-gt0+else-is_followed_by, else-end-gt0-via-else-end-gt0}

pub returns-then-is_followed_by-clause-joined : goal.returns-then-is_followed_by-clause-joined
returns-then-is_followed_by-clause-joined c =
    let xs = c.args.pieces.now.items in
    let i = c.len-end.result - 1 in
    let p = c.args.piece in
    let q = c.index-then-is_followed_by.result.now in
    let read = get_or_read xs i q (omega arith) c.index-then-is_followed_by.ensures c.index.result.now in
    let same : q ≡ c.index.result.now = read ∙ sym c.index.ensures in
    let facts = c.if-is_followed_by.ensures in
    let follows : Follows c.index.result.now p = search rules in
    joining-set xs i q p (omega arith) c.index-then-is_followed_by.ensures (rw same follows) facts.valid.1.0

pub returns-then-is_followed_by-clause-apart : goal.returns-then-is_followed_by-clause-apart
returns-then-is_followed_by-clause-apart c = apart-set c.args.pieces.now.items (c.len-end.result - 1) c.index-then-is_followed_by.result.now c.args.piece (omega arith) c.index-then-is_followed_by.ensures

pub returns-clause-apart : goal.returns-clause-apart
returns-clause-apart c = λ a.
    let xs = c.args.pieces.now.items in
    let i = c.len-end.result - 1 in
    let p = c.args.piece in
    rw c.in_ok-push.ensures.items (elim c.else-end-gt0.branch [
      | else-end-gt0-via-then-end-gt0+else-is_followed_by w ↦ (apart-more xs i w.index.result.now p (omega arith) w.index.ensures (search rules) a)
      | else-end-gt0-via-else-end-gt0 w ↦ apart-first xs p (omega arith)
    ])
