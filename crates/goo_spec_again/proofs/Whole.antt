-- A list sent again: what was carried out is repeated, and the rest begins where the first part ended.
use Rattle.std.proofs.Common.{◌≡◌, ◌∙◌, false, cond, List, [], ◌∷◌, ◌++◌, Some, refl, sym, ap, subst}
use Rattle.std.specs.FinMap.{get}
use Rattle.goo_types.specs.declared.outcome.Outcome.{Outcome}
use Rattle.goo_types.specs.declared.outcome.Outcome.TheVariants.{Accepted, Repeated, Refused}
use Rattle.goo_types.specs.declared.refusal.Refusal.TheVariants.{KeyReused}
use Rattle.goo_types.specs.declared.reply.Reply.{Reply}
use Rattle.goo_types.specs.declared.request.Request.{Request}
use Rattle.goo_spec.specs.Known.{is_accepted}
use Rattle.goo_spec.specs.State.{State}
use Rattle.goo_spec.specs.Step.{outcome, next, keyed_outcome, fresh_outcome, refusal, reply_to, repeats}
use Rattle.goo_spec.specs.Run.{outcomes, final}
use Rattle.goo_spec.proofs.Again.{same_itself}
use Rattle.goo_spec.proofs.Promising.{idle_next}
use Rattle.goo_spec.proofs.Receipts.{repeated_later}
use Rattle.goo_spec_again.specs.Whole.{IsRepeated, KeptIsRepeated, AcceptedIsRepeated, IsAgain, AreAgain, OthersStay, ListsAgain}

-- ---- one request

answered : (t : State) (q : Request) (reply : Reply) → get t.receipts (q.caller, q.key) ≡ Some (Some q.command, reply) → outcome t q ≡ Repeated reply
answered t q reply is =
    let fresh = fresh_outcome (repeats t q.caller q.command) (refusal t q.caller q.command) (reply_to t q.command) in
    ap (λ o. keyed_outcome o q.command fresh) is ∙ ap (λ b. cond b (Repeated reply) (Refused KeyReused)) (same_itself q.command)

is_repeated : (t : State) (q : Request) (reply : Reply) → outcome t q ≡ Repeated reply → IsRepeated t q reply
is_repeated t q reply is = record { answer = is; still = idle_next t q (ap is_accepted is) }

pub kept_is_repeated : KeptIsRepeated
kept_is_repeated t q reply kept = is_repeated t q reply (answered t q reply kept)

pub accepted_is_repeated : AcceptedIsRepeated
accepted_is_repeated s q reply between is = is_repeated (final (next s q) between) q reply (repeated_later s q reply between is)

-- ---- a list

not_accepted : (first second : Outcome) → IsAgain first second → is_accepted second ≡ false
not_accepted (Accepted reply) second is = ap is_accepted is
not_accepted (Repeated reply) second is = ap is_accepted is
not_accepted (Refused refusal) second is = ap is_accepted is.1

-- each request is answered again in the state t
abbrev AllAgain : State → List Request → State → Type 0
AllAgain s [] t = Unit {0}
AllAgain s (q ∷ qs) t = IsAgain (outcome s q) (outcome t q) × AllAgain (next s q) qs t

again_by : (s : State) (q : Request) (qs : List Request) (o : Outcome) → outcome s q ≡ o
    → (is_accepted o ≡ false → IsAgain o (outcome (final (next s q) qs) q)) → IsAgain o (outcome (final (next s q) qs) q)
again_by s q qs (Accepted reply) is other = repeated_later s q reply qs is
again_by s q qs (Repeated reply) is other = other refl
again_by s q qs (Refused refusal) is other = other refl

all_again : (s : State) (qs : List Request) (t : State) → final s qs ≡ t → OthersStay s qs t → AllAgain s qs t
all_again s [] t is others = tt
all_again s (q ∷ qs) t is others =
    let stays = subst (λ (u : State). is_accepted (outcome s q) ≡ false → IsAgain (outcome s q) (outcome u q)) (sym is) others.0 in
    (subst (λ (u : State). IsAgain (outcome s q) (outcome u q)) is (again_by s q qs (outcome s q) refl stays), all_again (next s q) qs t is others.1)

module _ (t : State) (rest : List Request) where
  state_again : (s : State) (qs : List Request) → AllAgain s qs t → final t (qs ++ rest) ≡ final t rest
  state_again s [] all = refl
  state_again s (q ∷ qs) all = ap (λ u. final u (qs ++ rest)) (idle_next t q (not_accepted (outcome s q) (outcome t q) all.0)) ∙ state_again (next s q) qs all.1

  outcomes_again : (s : State) (qs : List Request) → final s qs ≡ t → AllAgain s qs t → AreAgain qs (outcomes s (qs ++ rest)) (outcomes t (qs ++ rest))
  outcomes_again s [] is all = ap (λ u. outcomes u rest) (sym is)
  outcomes_again s (q ∷ qs) is all =
      let still = idle_next t q (not_accepted (outcome s q) (outcome t q) all.0) in
      (all.0, subst (λ u. AreAgain qs (outcomes (next s q) (qs ++ rest)) (outcomes u (qs ++ rest))) (sym still) (outcomes_again (next s q) qs is all.1))

final_on : (s : State) (part rest : List Request) → final s (part ++ rest) ≡ final (final s part) rest
final_on s [] rest = refl
final_on s (q ∷ part) rest = final_on (next s q) part rest

pub lists_again : ListsAgain
lists_again s part rest others =
    let all = all_again s part (final s part) refl others in
    record {
      state = state_again (final s part) rest s part all ∙ sym (final_on s part rest);
      outcomes_are = outcomes_again (final s part) rest s part refl all;
    }
