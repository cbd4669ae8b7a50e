use Rattle.std.proofs.Common.{◌<◌, ◌≤◌, arith, sym}
use Rattle.std.proofs.lemmas.Bool.Decides.{nat_tests}
use Rattle.goo_ranges_pieces.proofs.Rest.{rest-head, rest-gap, rest-inside}
use Rattle.goo_ranges.proofs.page.Page.at.Goals as goal

pub returns-then-lt : goal.returns-then-lt
returns-then-lt c =
    let n = c.args.number in
    let p = c.in_ok-piece.piece.now in
    let rest = rw c.get.ensures.value at c.reaching.ensures in
    let head = rest-head c.args.self.now c.reaching.result.now p n rest (sym c.in_ok-piece.ensures.value) in
    let below : n < p.first = grind (arith, nat_tests, c.if-lt.ensures) in
    sym (rest-gap c.args.self.now head.0 p n head.1 n (omega arith) below)

pub returns : goal.returns
returns c =
    let n = c.args.number in
    let p = c.in_ok-piece.piece.now in
    let rest = rw c.get.ensures.value at c.reaching.ensures in
    let head = rest-head c.args.self.now c.reaching.result.now p n rest (sym c.in_ok-piece.ensures.value) in
    let from : p.first ≤ n = grind (arith, nat_tests, c.if-lt.ensures) in
    sym (rest-inside c.args.self.now head.0 p n head.1 n (omega arith) from head.1.reaches)
