use Rattle.std.proofs.Common.{◌≡◌, List, [], ◌∷◌, map, refl, sym, ap, ◌∙◌, rules}
use Rattle.std.proofs.lemmas.Iterator.{items_from_drains}
use Rattle.std.proofs.lemmas.Iterator.Adapters.{YieldsList-from_vec}
use Rattle.goo_types.specs.declared.piece.Piece.{Piece}
use Rattle.goo_ranges.proofs.cutting.put_between.Goals as goal

same : (xs : List Piece) → map (λ y. y) xs ≡ xs
same [] = refl
same (x ∷ xs) = ap (λ l. x ∷ l) (same xs)

pub returns-clause-ok : goal.returns-clause-ok
returns-clause-ok c =
    let e = c.in_ok-splice.ensures.items in
    let gives = e.2 in
    let drained = e.3 in
    let left = YieldsList-from_vec {s = e.0} c.args.more.items gives.0 (gives.1 ∙ (search rules)) in
    let all : e.1 ≡ c.args.more.items = sym (same e.1) ∙ items_from_drains e.1 (drained.1.0, drained.1.1, λ _. (drained.0, drained.1.2)) left in
    e.4 ∙ rw all refl
