-- Requests that are sent again at once.
use Rattle.std.specs.Prelude.{◌≡◌, ℕ, List, [], ◌∷◌, ◌++◌, map, replicate}
use Rattle.goo_types.specs.declared.outcome.Outcome.{Outcome}
use Rattle.goo_types.specs.declared.outcome.Outcome.TheVariants.{Accepted, Repeated, Refused}
use Rattle.goo_types.specs.declared.request.Request.{Request}
use Rattle.goo_spec.specs.State.{State}
use Rattle.goo_spec.specs.Step.{outcome, next}
use Rattle.goo_spec.specs.Run.{outcomes, final}

-- what a request with this outcome is answered when it comes again at once
abbrev pub again : Outcome → Outcome
again (Accepted reply) = Repeated reply
again (Repeated reply) = Repeated reply
again (Refused refusal) = Refused refusal

-- it changes nothing then
abbrev pub AgainIsIdle : Type 0
AgainIsIdle = (s : State) (q : Request) → (next (next s q) q ≡ next s q) × (outcome (next s q) q ≡ again (outcome s q))

-- ---- any number of copies behind each request

-- some requests, each with the number of its copies
abbrev pub alone : List (Request × ℕ) → List Request
alone = map (λ p. p.0)

abbrev pub with_copies : List (Request × ℕ) → List Request
with_copies [] = []
with_copies (p ∷ ps) = p.0 ∷ replicate p.1 p.0 ++ with_copies ps

-- the outcomes of the requests alone, each followed by those of the copies
abbrev pub with_theirs : List (Request × ℕ) → List Outcome → List Outcome
with_theirs [] os = []
with_theirs (p ∷ ps) [] = []
with_theirs (p ∷ ps) (o ∷ os) = o ∷ replicate p.1 (again o) ++ with_theirs ps os

abbrev pub CopiesAreIdle : Type 0
CopiesAreIdle =
    (s : State) (ps : List (Request × ℕ))
    → (final s (with_copies ps) ≡ final s (alone ps)) × (outcomes s (with_copies ps) ≡ with_theirs ps (outcomes s (alone ps)))
