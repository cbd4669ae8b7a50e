use Rattle.std.proofs.Common.{◌-◌, ◌<◌, arith, rules}
use Rattle.std.proofs.lemmas.Bool.Decides.{nat_tests}
use Rattle.std.proofs.lemmas.List.{get_or_read}
use Rattle.goo_types.specs.Piece.{IsForward}
use Rattle.goo_ranges_pieces.proofs.Rising.{rising-more}
use Rattle.goo_ranges.proofs.page.Page.new.Goals as goal
use Rattle.goo_ranges.proofs.page.Page.new.Goals.{else-i-gt0-via-then-i-gt0+else-le, else-i-gt0-via-else-i-gt0}

pub loop-i-preserved : goal.loop-i-preserved
loop-i-preserved c =
    let ps = c.deref-piece-items.result.now in
    let i = c.loop-i.i in
    let p = c.piece-item.result in
    let forward : IsForward p = search rules in
    elim c.else-i-gt0.branch [
      | else-i-gt0-via-then-i-gt0+else-le w ↦
          (let q = w.index.result.now in
          let before : q.last < p.first = grind (arith, nat_tests, w.if-le.ensures) in
          let read = rw (← c.deref-piece-items.ensures.value) at w.index.ensures in
          rising-more ps i p (omega arith) c.piece-item.is forward c.loop-i.invariant
          (λ _ d. let e = get_or_read ps (i - 1) q (omega arith) read d in rw (← e) before))
      | else-i-gt0-via-else-i-gt0 w ↦
          rising-more ps i p (omega arith) c.piece-item.is forward c.loop-i.invariant (λ above d. absurd (omega arith))
    ]
