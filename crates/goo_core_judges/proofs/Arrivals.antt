-- What is known of the parts of a notice, and what their checks find.
use Rattle.std.proofs.Common.{◌≡◌, ◌∙◌, ℕ, ◌+◌, ◌<◌, List, [], ◌∷◌, ◌++◌, length, get_or, take, ap, sym, subst}
use Rattle.std.proofs.lemmas.List.{take_more}
use Rattle.goo_types.specs.declared.part.Part.{Part}
use Rattle.goo_types.specs.declared.piece.Piece.{Piece}
use Rattle.goo_spec.specs.State.{State}
use Rattle.goo_core_judges.specs.Import.{IsArriving, AreArriving}
use Rattle.goo_core_moves.specs.declared.arriving.Arriving.{Arriving}

arriving-push : (s : State) (rows : List Piece) (ps : List Part) (known : List Arriving) (p : Part) (a : Arriving) → AreArriving s rows ps known → IsArriving s rows p a → AreArriving s rows (ps ++ p ∷ []) (known ++ a ∷ [])
arriving-push s rows [] [] p a are is = (is, tt)
arriving-push s rows [] (b ∷ known) p a are is = absurd are
arriving-push s rows (q ∷ ps) [] p a are is = absurd are
arriving-push s rows (q ∷ ps) (b ∷ known) p a are is = (are.0, arriving-push s rows ps known p a are.1 is)

-- one part more
pub arriving_more : (s : State) (rows : List Piece) (ps : List Part) (i : ℕ) (known new : List Arriving) (p : Part) (a : Arriving) → i < length ps → p ≡ get_or ps i p
    → AreArriving s rows (take i ps) known → IsArriving s rows p a → new ≡ known ++ a ∷ [] → AreArriving s rows (take (i + 1) ps) new
arriving_more s rows ps i known new p a lt is are here pushed =
    subst (λ (l : List Part). AreArriving s rows l new) (sym (take_more ps i p lt ∙ ap (λ (q : Part). take i ps ++ q ∷ []) (sym is)))
    (subst (λ l. AreArriving s rows (take i ps ++ p ∷ []) l) (sym pushed) (arriving-push s rows (take i ps) known p a are here))
