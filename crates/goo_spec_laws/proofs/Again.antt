-- A request again at once changes nothing, however often.
use Rattle.std.proofs.Common.{◌≡◌, ◌∙◌, ℕ, zero, suc, false, List, [], ◌∷◌, ◌++◌, refl, ap}
use Rattle.std.specs.Prelude.{replicate}
use Rattle.goo_types.specs.declared.outcome.Outcome.{Outcome}
use Rattle.goo_types.specs.declared.outcome.Outcome.TheVariants.{Accepted, Repeated, Refused}
use Rattle.goo_types.specs.declared.request.Request.{Request}
use Rattle.goo_spec.specs.State.{State}
use Rattle.goo_spec.specs.Step.{outcome, next}
use Rattle.goo_spec.specs.Run.{outcomes, final}
use Rattle.goo_spec.specs.Known.{is_accepted}
use Rattle.goo_spec.proofs.Again.{repeated_at_once}
use Rattle.goo_spec.proofs.Promising.{idle_next}
use Rattle.goo_spec_laws.specs.Again.{again, AgainIsIdle, alone, with_copies, with_theirs, CopiesAreIdle}

-- the outcome again, by the first one
again_by : (s : State) (q : Request) (o : Outcome) → outcome s q ≡ o → outcome (next s q) q ≡ again o
again_by s q (Accepted reply) is = repeated_at_once s q reply is
again_by s q (Repeated reply) is = ap (λ t. outcome t q) (idle_next s q (ap is_accepted is)) ∙ is
again_by s q (Refused refusal) is = ap (λ t. outcome t q) (idle_next s q (ap is_accepted is)) ∙ is

again_is : (s : State) (q : Request) → outcome (next s q) q ≡ again (outcome s q)
again_is s q = again_by s q (outcome s q) refl

isnt_accepted : (o : Outcome) → is_accepted (again o) ≡ false
isnt_accepted (Accepted reply) = refl
isnt_accepted (Repeated reply) = refl
isnt_accepted (Refused refusal) = refl

still : (s : State) (q : Request) → next (next s q) q ≡ next s q
still s q = idle_next (next s q) q (ap is_accepted (again_is s q) ∙ isnt_accepted (outcome s q))

pub again_is_idle : AgainIsIdle
again_is_idle s q = (still s q, again_is s q)

-- copies of a request that changes nothing in a state
final_copies : (t : State) (q : Request) (n : ℕ) (rest : List Request) → next t q ≡ t → final t (replicate n q ++ rest) ≡ final t rest
final_copies t q zero rest is = refl
final_copies t q (suc n) rest is = ap (λ u. final u (replicate n q ++ rest)) is ∙ final_copies t q n rest is

outcomes_copies : (t : State) (q : Request) (n : ℕ) (rest : List Request) → next t q ≡ t → outcomes t (replicate n q ++ rest) ≡ replicate n (outcome t q) ++ outcomes t rest
outcomes_copies t q zero rest is = refl
outcomes_copies t q (suc n) rest is = ap (λ l. outcome t q ∷ l) (ap (λ u. outcomes u (replicate n q ++ rest)) is ∙ outcomes_copies t q n rest is)

final_with : (s : State) (ps : List (Request × ℕ)) → final s (with_copies ps) ≡ final s (alone ps)
final_with s [] = refl
final_with s (p ∷ ps) = final_copies (next s p.0) p.0 p.1 (with_copies ps) (still s p.0) ∙ final_with (next s p.0) ps

outcomes_with : (s : State) (ps : List (Request × ℕ)) → outcomes s (with_copies ps) ≡ with_theirs ps (outcomes s (alone ps))
outcomes_with s [] = refl
outcomes_with s (p ∷ ps) =
    let t = next s p.0 in
    ap (λ l. outcome s p.0 ∷ l)
    (outcomes_copies t p.0 p.1 (with_copies ps) (still s p.0)
    ∙ ap (λ o. replicate p.1 o ++ outcomes t (with_copies ps)) (again_is s p.0)
    ∙ ap (λ l. replicate p.1 (again (outcome s p.0)) ++ l) (outcomes_with t ps))

pub copies_are_idle : CopiesAreIdle
copies_are_idle s ps = (final_with s ps, outcomes_with s ps)
