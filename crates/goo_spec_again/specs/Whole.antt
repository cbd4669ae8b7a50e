-- A list of requests that is sent again from its first request on.
use Rattle.std.specs.Prelude.{◌≡◌, false, List, [], ◌∷◌, ◌++◌, All, Some}
use Rattle.std.specs.FinMap.{get}
use Rattle.goo_types.specs.declared.command.Command.{Command}
use Rattle.goo_types.specs.declared.command.Command.TheVariants.{Declare}
use Rattle.goo_types.specs.declared.outcome.Outcome.{Outcome}
use Rattle.goo_types.specs.declared.outcome.Outcome.TheVariants.{Accepted, Repeated, Refused}
use Rattle.goo_types.specs.declared.refusal.Refusal.{Refusal}
use Rattle.goo_types.specs.declared.reply.Reply.{Reply}
use Rattle.goo_types.specs.declared.request.Request.{Request}
use Rattle.goo_spec.specs.Known.{is_accepted}
use Rattle.goo_spec.specs.State.{State}
use Rattle.goo_spec.specs.Step.{outcome, next}
use Rattle.goo_spec.specs.Run.{outcomes, final}

-- ---- one request

-- the request is repeated with the reply, and changes nothing
pub record IsRepeated (t : State) (q : Request) (reply : Reply) : Type 0 where
  pub answer : outcome t q ≡ Repeated reply
  pub still : next t q ≡ t

-- a request whose key is kept, with its command, is repeated with the kept reply, whatever the state
abbrev pub KeptIsRepeated : Type 0
KeptIsRepeated = (t : State) (q : Request) (reply : Reply) → get t.receipts (q.caller, q.key) ≡ Some (Some q.command, reply) → IsRepeated t q reply

-- an accepted request is repeated with its first reply, whatever was sent in between
abbrev pub AcceptedIsRepeated : Type 0
AcceptedIsRepeated = (s : State) (q : Request) (reply : Reply) (between : List Request) → outcome s q ≡ Accepted reply → IsRepeated (final (next s q) between) q reply

-- ---- a list

abbrev pub IsRefused : Outcome → Type 0
IsRefused given = (refusal : Refusal) × (given ≡ Refused refusal)

-- the second answer to a request: accepted requests are repeated with their first reply, and refused ones refused, perhaps for another reason
abbrev pub IsAgain : (first second : Outcome) → Type 0
IsAgain (Accepted reply) second = second ≡ Repeated reply
IsAgain (Repeated reply) second = second ≡ Repeated reply
IsAgain (Refused refusal) second = IsRefused second

-- the outcomes of a list sent once, and of the same list where the requests of its first part were sent before: these are answered again,
-- and the others alike
abbrev pub AreAgain : (part : List Request) → (once again : List Outcome) → Type 0
AreAgain [] once again = again ≡ once
AreAgain (q ∷ part) [] again = ⊥
AreAgain (q ∷ part) (first ∷ once) [] = ⊥
AreAgain (q ∷ part) (first ∷ once) (second ∷ again) = IsAgain first second × AreAgain part once again

-- a registry in the state s that was sent the requests of a part, and then the whole list, is as one that was sent the list once
pub record IsAsSentOnce (s : State) (part rest : List Request) : Type 0 where
  pub state : final (final s part) (part ++ rest) ≡ final s (part ++ rest)
  pub outcomes_are : AreAgain part (outcomes s (part ++ rest)) (outcomes (final s part) (part ++ rest))

-- each request that was not accepted is answered again so in the state t
abbrev pub OthersStay : State → List Request → State → Type 0
OthersStay s [] t = Unit {0}
OthersStay s (q ∷ qs) t = (is_accepted (outcome s q) ≡ false → IsAgain (outcome s q) (outcome t q)) × OthersStay (next s q) qs t

-- of all lists of which no request is accepted only at the end of the first part
abbrev pub ListsAgain : Type 0
ListsAgain = (s : State) (part rest : List Request) → OthersStay s part (final s part) → IsAsSentOnce s part rest

-- ---- declarations

abbrev pub IsDeclaration : Command → Type 0
IsDeclaration (Declare x) = Unit {0}
IsDeclaration _ = ⊥

abbrev pub AreDeclarations : List Request → Type 0
AreDeclarations = All (λ q. IsDeclaration q.command)

-- of all declarations, whoever declares them, with any requests behind them
abbrev pub DeclarationsAgain : Type 0
DeclarationsAgain = (s : State) (part rest : List Request) → AreDeclarations part → IsAsSentOnce s part rest
