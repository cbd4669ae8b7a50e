use Rattle.std.proofs.Common.{◌≡◌, suc, ◌+◌, None, false, drop, arith, sym, refl}
use Rattle.goo_spec.specs.Lots.{is_absent}
use Rattle.std.proofs.lemmas.List.{drop_all}
use Rattle.goo_types.specs.Piece.{at_of}
use Rattle.goo_ranges_pieces.proofs.Find.{find-span-none, find-span-some}
use Rattle.goo_ranges_pieces.proofs.Rest.{drop-piece, known-next, rest-next, rest-gap, rest-end}
use Rattle.goo_ranges_pieces.proofs.lookups.least_missing.Goals as goal
use Rattle.goo_ranges_pieces.proofs.lookups.least_missing.Goals.{else-loop-piece-test, then-loop-piece-test+then-next-get}

pub loop-piece-init : goal.loop-piece-init
loop-piece-init c = record {
  rest = c.reaching-piece-items.ensures;
  low = omega arith;
  high = omega arith;
  present = λ m above below. absurd (omega arith);
}

pub loop-piece-preserved : goal.loop-piece-preserved
loop-piece-preserved c =
    let all = c.args.pieces.now in
    let items = c.reaching-piece-items.result.now in
    let i = c.loop-piece.piece-index in
    let p = c.piece-item.result in
    let split = drop-piece items i p (omega arith) c.piece-item.is in
    let rest = rw split at c.loop-piece.invariant.rest in
    let last = c.get-next-in-loop-piece.ensures.value in
    record {
      rest = rw last (rest-next all (drop (i + 1) items) p c.loop-piece.next rest);
      low = omega arith;
      high = omega arith;
      present = rw last (known-next (λ o. is_absent o ≡ false) all (drop (i + 1) items) p c.args.first c.loop-piece.next rest (omega arith) refl c.loop-piece.invariant.present);
    }

pub returns-then-next-get-2 : goal.returns-then-next-get-2
returns-then-next-get-2 c =
    let all = c.args.pieces.now in
    let items = c.reaching-piece-items.result.now in
    let i = c.loop-piece.piece-index in
    let p = c.piece-item.result in
    let split = drop-piece items i p (omega arith) c.piece-item.is in
    let rest = rw split at c.loop-piece.invariant.rest in
    let present = known-next (λ o. is_absent o ≡ false) all (drop (i + 1) items) p c.args.first c.loop-piece.next rest (omega arith) refl c.loop-piece.invariant.present in
    sym (find-span-none (λ n. is_absent (at_of all n)) c.args.first (suc c.args.last) (λ m above below. present m above (omega arith)))

pub returns : goal.returns
returns c =
    let all = c.args.pieces.now in
    let items = c.reaching-piece-items.result.now in
    let i = c.loop-piece.piece-index in
    let next = c.loop-piece.next in
    let inv = c.loop-piece.invariant in
    let missing : at_of all next ≡ None =
    elim c.loop-piece-test.branch [
      | else-loop-piece-test w ↦ (let none = drop_all i items (omega arith) in rest-end all next (rw none at inv.rest) next (omega arith))
      | then-loop-piece-test+then-next-get w ↦
          (let split = drop-piece items i w.piece-item.result (omega arith) w.piece-item.is in
          rest-gap all (drop (i + 1) items) w.piece-item.result next (rw split at inv.rest) next (omega arith) (omega arith))
    ]
    in
    rw c.between.ensures (sym (find-span-some (λ n. is_absent (at_of all n)) c.args.first next (suc c.args.last) (omega arith) (omega arith) inv.present (rw missing refl)))
