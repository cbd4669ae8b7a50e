-- The accepted requests alone have the outcomes that they had.
use Rattle.std.proofs.Common.{◌≡◌, ◌∙◌, List, [], ◌∷◌, refl, ap, sym}
use Rattle.std.specs.List.{filter}
use Rattle.goo_types.specs.declared.outcome.Outcome.{Outcome}
use Rattle.goo_types.specs.declared.outcome.Outcome.TheVariants.{Accepted, Repeated, Refused}
use Rattle.goo_types.specs.declared.request.Request.{Request}
use Rattle.goo_spec.specs.State.{State}
use Rattle.goo_spec.specs.Step.{outcome, next}
use Rattle.goo_spec.specs.Run.{outcomes, final, kept, accepted}
use Rattle.goo_spec.specs.Known.{is_accepted}
use Rattle.goo_spec.proofs.Promising.{idle_next, others_left_out}
use Rattle.goo_spec_laws.specs.Idle.{OthersMakeNoDifference, OthersNeverMakeADifference}

-- the first request, by its outcome
first_by : (s : State) (q : Request) (qs : List Request) (o : Outcome) → outcome s q ≡ o → filter is_accepted (outcomes (next s q) qs) ≡ outcomes (next s q) (accepted (next s q) qs)
    → filter is_accepted (o ∷ outcomes (next s q) qs) ≡ outcomes s (kept o q (accepted (next s q) qs))
first_by s q qs (Accepted reply) is rest = ap (λ l. Accepted reply ∷ l) rest ∙ ap (λ o. o ∷ outcomes (next s q) (accepted (next s q) qs)) (sym is)
first_by s q qs (Repeated reply) is rest = rest ∙ ap (λ t. outcomes t (accepted (next s q) qs)) (idle_next s q (ap is_accepted is))
first_by s q qs (Refused refusal) is rest = rest ∙ ap (λ t. outcomes t (accepted (next s q) qs)) (idle_next s q (ap is_accepted is))

outcomes_left : (s : State) (qs : List Request) → filter is_accepted (outcomes s qs) ≡ outcomes s (accepted s qs)
outcomes_left s [] = refl
outcomes_left s (q ∷ qs) = first_by s q qs (outcome s q) refl (outcomes_left (next s q) qs)

pub each_is_idle : OthersNeverMakeADifference
each_is_idle s qs = record { state = others_left_out s qs; outcomes_are = outcomes_left s qs }

-- of a run that answered by the definitions
pub others_idle : (s : State) (qs : List Request) (given : List Outcome) (t : State) → given ≡ outcomes s qs → t ≡ final s qs → OthersMakeNoDifference s qs given t
others_idle s qs given t given_is is =
    let all = each_is_idle s qs in
    record { state = is ∙ all.state; outcomes_are = ap (filter is_accepted) given_is ∙ all.outcomes_are }
