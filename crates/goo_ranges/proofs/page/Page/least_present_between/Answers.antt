use Rattle.std.proofs.Common.{◌≡◌, suc, ◌<◌, ◌≤◌, arith, sym, refl, ◌∙◌}
use Rattle.std.specs.Prelude.{is_some, max}
use Rattle.std.proofs.lemmas.Bool.Decides.{nat_tests}
use Rattle.goo_types.specs.Piece.{at_of}
use Rattle.goo_ranges_pieces.proofs.Find.{find-span-none, find-span-some}
use Rattle.goo_ranges_pieces.proofs.Rest.{rest-head, rest-empty, rest-end, rest-gap, rest-inside, later-of}
use Rattle.goo_ranges.proofs.page.Page.least_present_between.Goals as goal

pub returns-in_err-piece : goal.returns-in_err-piece
returns-in_err-piece c =
    let all = c.args.self.now in
    let low = c.args.first in
    let rest = rw c.get.ensures.value at c.reaching.ensures in
    let empty = rest-empty all c.reaching.result.now low rest (sym c.in_err-piece.ensures.value) in
    let none = find-span-none (λ n. is_some (at_of all n)) low (suc c.args.last) (λ m above below. rw (rest-end all low empty m above) refl) in
    cc

pub returns-then-lt : goal.returns-then-lt
returns-then-lt c =
    let all = c.args.self.now in
    let low = c.args.first in
    let p = c.in_ok-piece.piece.now in
    let rest = rw c.get.ensures.value at c.reaching.ensures in
    let head = rest-head all c.reaching.result.now p low rest (sym c.in_ok-piece.ensures.value) in
    let beyond : c.args.last < p.first = grind (arith, nat_tests, c.if-lt.ensures) in
    sym (find-span-none (λ n. is_some (at_of all n)) low (suc c.args.last) (λ m above below. rw (rest-gap all head.0 p low head.1 m above (omega arith)) refl))

pub returns : goal.returns
returns c =
    let all = c.args.self.now in
    let low = c.args.first in
    let p = c.in_ok-piece.piece.now in
    let rest = rw c.get.ensures.value at c.reaching.ensures in
    let head = rest-head all c.reaching.result.now p low rest (sym c.in_ok-piece.ensures.value) in
    let within : p.first ≤ c.args.last = grind (arith, nat_tests, c.if-lt.ensures) in
    let later : c.max.result ≡ max low p.first = c.max.ensures ∙ later-of low p.first in
    let reached : low ≤ p.last = head.1.reaches in
    let forward : p.first ≤ p.last = head.1.rising.1.0 in
    let here = rest-inside all head.0 p low head.1 (max low p.first) (omega arith) (omega arith) (omega arith) in
    rw later (sym (find-span-some (λ n. is_some (at_of all n)) low (max low p.first) (suc c.args.last) (omega arith) (omega arith)
    (λ m above below. rw (rest-gap all head.0 p low head.1 m above (omega arith)) refl) (rw here refl)))
