-- A caller who is denied a subject is sent no byte of it.
use Rattle.std.proofs.Common.{◌≡◌, ◌⊎◌, ◌∙◌, ℕ, false, List, None, Result, Ok, Err, inl, inr, ap, subst}
use Rattle.goo_spec.specs.State.{State}
use Rattle.goo_core_reads.specs.declared.denial.Denial.{Denial}
use Rattle.goo_core_shelf.specs.Desk.{Seen}
use Rattle.goo_desk_heads.proofs.HeadFacts.{decides-one}
use Rattle.goo_desk_heads.specs.Requests.{Parts}
use Rattle.goo_desk_heads.specs.declared.request.RefusedHead.{RefusedHead}
use Rattle.goo_desk_responses.specs.Responses.{response_text, fixed}
use Rattle.goo_desk_responses.specs.declared.status.Status.{Status}
use Rattle.goo_desk_responses.specs.declared.status.Status.TheVariants.{Unavailable}
use Rattle.goo_desk_routes.specs.declared.task.Subject.{Subject}
use Rattle.goo_desk_routes.specs.declared.task.Task.TheVariants.{Show}
use Rattle.goo_desk_backend.proofs.OneShown.{shown-one}
use Rattle.goo_desk_backend.specs.Showing.{shown_by, imported_by, begun_by}
use Rattle.goo_desk_answers.specs.Handling.{handling_of}
use Rattle.goo_desk_answers.specs.Responds.{Does, Handles, RespondsTo, show_response}
use Rattle.goo_desk_answers.specs.declared.handling.Handling.TheVariants.{Own}
use Rattle.goo_desk_server.specs.ConnectionServed.{asks_for_head, IsServed, unread_text}
use Rattle.goo_desk.specs.Denied.{DeniedAreSentNothing, IsDeniedTo, TellsNothing, DeniedSeeNothing}

does_tell : (s after : State) (caller body : List ℕ) (parts : Parts) (subject : Subject) (why : Denial) (status : Status) (text : List ℕ) → shown_by s caller subject (Err why)
    → Does shown_by imported_by s caller body (Show subject) status text after → TellsNothing parts why text
does_tell s after caller body parts subject why status text denied (shown, is, given, same) =
    let one : shown ≡ Err why = shown-one s caller subject shown (Err why) is denied in
    inl (given.text ∙ ap (λ (r : Result (List ℕ) Denial). response_text false (show_response subject r)) one)

responds_tell : (s after : State) (parts : Parts) (d : Result Parts RefusedHead) (caller : List ℕ) (subject : Subject) (why : Denial) (status : Status) (text : List ℕ) → d ≡ Ok parts → handling_of parts ≡ Own caller (Show subject)
    → shown_by s caller subject (Err why) → RespondsTo shown_by imported_by s d status text after → TellsNothing parts why text
responds_tell s after parts d caller subject why status text is asks denied responds =
    let own : Handles shown_by imported_by s parts (handling_of parts) status text after = subst (λ e. RespondsTo shown_by imported_by s e status text after) is responds in
    does_tell s after caller parts.body parts subject why status text denied (subst (λ h. Handles shown_by imported_by s parts h status text after) asks own)

pub denied_see_nothing : DeniedSeeNothing
denied_see_nothing old bytes parts why status text new asked (inl answered) honest =
    let (d, decides, responds) = answered.response honest in
    responds_tell old.state new.state parts d asked.caller asked.subject why status text (decides-one bytes d (Ok parts) decides asked.decides) asked.asks asked.denied responds
denied_see_nothing old bytes parts why status text new asked (inr excused) honest =
    let (d, decides, is) = excused.text_is in
    inr (is ∙ ap (λ (e : Result Parts RefusedHead). response_text (asks_for_head e) (fixed Unavailable None)) (decides-one bytes d (Ok parts) decides asked.decides))

by_reply : (old new : Seen) (bytes : List ℕ) (parts : Parts) (why : Denial) (status : Status) (text : List ℕ) → IsDeniedTo old.state bytes parts why → new.corruptions ≡ 0
    → IsServed shown_by imported_by begun_by old bytes status text new ⊎ ((new ≡ old) × (text ≡ unread_text)) → TellsNothing parts why text ⊎ (text ≡ unread_text)
by_reply old new bytes parts why status text asked honest (inl served) = inl (denied_see_nothing old bytes parts why status text new asked served honest)
by_reply old new bytes parts why status text asked honest (inr (same, is)) = inr is

pub denied_are_sent_nothing : DeniedAreSentNothing
denied_are_sent_nothing known fresh closed old new one parts why asked honest = (one.text, by_reply old new one.bytes parts why one.status one.text asked honest one.replied, one.sent)
