use Rattle.std.proofs.Common.{◌≡◌, ℕ, ◌++◌, ◌∙◌, List, take, drop, ap}
use Rattle.goo_types.specs.declared.piece.Piece.{Piece}
use Rattle.goo_types.specs.Piece.{at_of, IsRising}
use Rattle.goo_ranges_pieces.specs.Change.{set_to}
use Rattle.goo_ranges.specs.Paging.{joined, between}
use Rattle.goo_ranges.proofs.Maximal.{apart-front, apart-back}
use Rattle.goo_ranges.proofs.Paging.{joined-three}
use Rattle.goo_ranges.proofs.Sparing.{sparing-within}
use Rattle.goo_ranges.proofs.Windows.{window-rising, window-apart, window-exact, window-few, set-out, window-set}
use Rattle.goo_ranges.proofs.pages.changes.add_in.Goals as goal
use Rattle.goo_ranges.proofs.pages.changes.add_in.Goals.{In_ok-put_pieces}

-- the pieces before the window, in it, and behind it
abbrev front : In_ok-put_pieces → List Piece
front c = joined (take c.window-from.result.0 c.args.pages.now.items)

abbrev old : In_ok-put_pieces → List Piece
old c = between c.args.pages.now.items c.window-from.result.0 c.window-from.result.1

abbrev after : In_ok-put_pieces → List Piece
after c = joined (drop c.window-from.result.1 c.args.pages.now.items)

was : (c : In_ok-put_pieces) → front c ++ (old c ++ after c) ≡ joined c.args.pages.now.items
was c = joined-three c.args.pages.now.items c.window-from.result.0 c.window-from.result.1 c.window-from.ensures.order

rises : (c : In_ok-put_pieces) → IsRising (front c ++ (old c ++ after c))
rises c = rw (was c) c.requires.rising

-- the page of the window, changed
abbrev new : In_ok-put_pieces → List Piece
new c = c.add_between.new.self

is : (c : In_ok-put_pieces) → joined c.put_pieces.new.pages.items ≡ front c ++ (new c ++ after c)
is c = c.in_ok-put_pieces.ensures.ok ∙ ap (λ l. front c ++ (l ++ after c)) c.pieces.ensures.value

-- the change of the window, as one of the list that it was made of
same : (c : In_ok-put_pieces) → (n : ℕ) → at_of (new c) n ≡ set_to c.args.first c.args.last (c.args.lot, c.args.place) n (at_of (old c) n)
same c n = rw c.in_ok-page.ensures at c.in_ok-edit.ensures.map n

pub returns-clause-map : goal.returns-clause-map
returns-clause-map c n =
    let k = (goal.at.returns-clause-map c).In_ok-put_pieces in
    let w = rw c.deref.ensures.value at c.window-from.ensures in
    rw (is k, ← was k) (window-set (front k) (old k) (new k) (after k) c.args.first c.args.last (rises k) c.in_ok-edit.ensures.disjoint c.requires.forward w.below w.above (c.args.lot, c.args.place) (same k) n)

pub returns-clause-exact : goal.returns-clause-exact
returns-clause-exact c =
    let k = (goal.at.returns-clause-exact c).In_ok-put_pieces in
    rw (is k, ← was k) (window-exact (front k) (old k) (new k) (after k) c.in_ok-edit.edit (rw c.in_ok-page.ensures at c.in_ok-edit.ensures.exact))

pub returns-clause-maximal : goal.returns-clause-maximal
returns-clause-maximal c =
    let k = (goal.at.returns-clause-maximal c).In_ok-put_pieces in
    let w = rw c.deref.ensures.value at c.window-from.ensures in
    rw (is k, ← was k) (λ a. window-apart (front k) (old k) (new k) (after k) c.args.first c.args.last (rises k) c.in_ok-edit.ensures.disjoint c.requires.forward w.below w.above (set-out _ _ _ (old k) (new k) (same k))
    ((rw c.in_ok-page.ensures at c.in_ok-edit.ensures.maximal) (apart-front (old k) (after k) (apart-back (front k) (old k ++ after k) a))) a)

pub returns-clause-few : goal.returns-clause-few
returns-clause-few c =
    let k = (goal.at.returns-clause-few c).In_ok-put_pieces in
    rw (← was k) (window-few (front k) (old k) (after k) c.args.first c.args.last c.in_ok-edit.edit (rw c.in_ok-page.ensures at c.in_ok-edit.ensures.few))

pub returns-clause-spares : goal.returns-clause-spares
returns-clause-spares c =
    let k = (goal.at.returns-clause-spares c).In_ok-put_pieces in
    rw (← was k) (sparing-within (front k) (old k) (after k) c.args.first c.args.last c.in_ok-edit.edit (rw c.in_ok-page.ensures at c.in_ok-edit.ensures.spares))

pub returns-clause-rising : goal.returns-clause-rising
returns-clause-rising c =
    let k = (goal.at.returns-clause-rising c).In_ok-put_pieces in
    let w = rw c.deref.ensures.value at c.window-from.ensures in
    rw (is k) (window-rising (front k) (old k) (new k) (after k) c.args.first c.args.last (rises k) c.in_ok-edit.ensures.disjoint c.requires.forward w.below w.above (set-out _ _ _ (old k) (new k) (same k)))
