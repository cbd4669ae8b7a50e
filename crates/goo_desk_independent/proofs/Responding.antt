-- From what is shown to what is answered.
use Rattle.std.proofs.Common.{◌≡◌, ◌∙◌, ℕ, false, List, Option, Some, None, Result, Ok, Err, sym, ap, subst}
use Rattle.goo_spec.specs.State.{State}
use Rattle.goo_spec.proofs.Mapping.{none_some, inside}
use Rattle.goo_core_reads.specs.declared.denial.Denial.{Denial}
use Rattle.goo_desk_heads.proofs.HeadFacts.{decides-one}
use Rattle.goo_desk_heads.specs.Requests.{Parts}
use Rattle.goo_desk_heads.specs.declared.request.RefusedHead.{RefusedHead}
use Rattle.goo_desk_responses.specs.Responses.{response_text}
use Rattle.goo_desk_responses.specs.declared.status.Status.{Status}
use Rattle.goo_desk_routes.specs.declared.task.Subject.{Subject}
use Rattle.goo_desk_routes.specs.declared.task.Task.TheVariants.{Show}
use Rattle.goo_desk_backend.specs.Showing.{shown_by, imported_by, IsTextUnless}
use Rattle.goo_desk_answers.specs.Handling.{handling_of}
use Rattle.goo_desk_answers.specs.Responds.{Does, Handles, RespondsTo, IsGiven, show_response}
use Rattle.goo_desk_answers.specs.declared.handling.Handling.{Handling}
use Rattle.goo_desk_independent.specs.Asking.{Asks, Answers, AnswerAlike}

-- what the answer shows
abbrev pub IsShownIn : State → List ℕ → Subject → Status → List ℕ → Type 0
IsShownIn s caller subject status text = (shown : Result (List ℕ) Denial) × shown_by s caller subject shown × IsGiven (show_response subject shown) status text

done : (s after : State) (caller body : List ℕ) (subject : Subject) (status : Status) (text : List ℕ) → Does shown_by imported_by s caller body (Show subject) status text after → IsShownIn s caller subject status text
done s after caller body subject status text (shown, is, given, same) = (shown, is, given)

pub shown_in : (s : State) (bytes caller : List ℕ) (subject : Subject) (status : Status) (text : List ℕ) → Asks bytes caller subject → Answers s bytes status text → IsShownIn s caller subject status text
shown_in s bytes caller subject status text asks (after, (d, decides, responds)) =
    let whole : d ≡ Ok asks.parts = decides-one bytes d (Ok asks.parts) decides asks.decides in
    let to : Handles shown_by imported_by s asks.parts (handling_of asks.parts) status text after =
    subst (λ (e : Result Parts RefusedHead). RespondsTo shown_by imported_by s e status text after) whole responds in
    done s after caller asks.parts.body subject status text (subst (λ (h : Handling). Handles shown_by imported_by s asks.parts h status text after) asks.handled to)

-- where two states show one thing, they answer alike
pub answer_alike : (s t : State) (bytes caller : List ℕ) (subject : Subject) → Asks bytes caller subject
    → ((x y : Result (List ℕ) Denial) → shown_by s caller subject x → shown_by t caller subject y → x ≡ y) → AnswerAlike bytes s t
answer_alike s t bytes caller subject asks same one other text as_well is is_too =
    let (x, shows, given) = shown_in s bytes caller subject one text asks is in
    let (y, shows_too, given_too) = shown_in t bytes caller subject other as_well asks is_too in
    let both : x ≡ y = same x y shows shows_too in (
      given.status ∙ ap (λ (r : Result (List ℕ) Denial). (show_response subject r).status) both ∙ sym given_too.status,
      given.text ∙ ap (λ (r : Result (List ℕ) Denial). response_text false (show_response subject r)) both ∙ sym given_too.text,
    )

-- two texts, or two denials
pub text_alike : (d e : Option Denial) (right other : List ℕ → Type 0) → d ≡ e → (d ≡ None → (t u : List ℕ) → right t → other u → t ≡ u) → (x y : Result (List ℕ) Denial) → IsTextUnless d right x → IsTextUnless e other y → x ≡ y
text_alike d e right other same one (Ok t) (Ok u) p q = ap Ok (one p.0 t u p.1 q.1)
text_alike d e right other same one (Ok t) (Err why) p q = none_some why (sym p.0 ∙ same ∙ q)
text_alike d e right other same one (Err why) (Ok u) p q = none_some why (sym q.0 ∙ sym same ∙ p)
text_alike d e right other same one (Err why) (Err reason) p q = ap Err (inside why reason (sym p ∙ same ∙ q))

-- two denials for one reason
pub denied_alike : (why : Denial) (d e : Option Denial) (right other : List ℕ → Type 0) → d ≡ Some why → e ≡ Some why → (x y : Result (List ℕ) Denial) → IsTextUnless d right x → IsTextUnless e other y → x ≡ y
denied_alike why d e right other first second x y p q = text_alike d e right other (first ∙ sym second) (λ shown. none_some why (sym shown ∙ first)) x y p q
