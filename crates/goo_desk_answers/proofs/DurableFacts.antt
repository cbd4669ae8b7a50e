-- What a crash finds, by the requests that bytes bring.
use Rattle.std.proofs.Common.{◌≡◌, ◌∙◌, ◌⊎◌, ℕ, List, [], Option, Some, Result, Ok, Err, refl, inl, inr, ap}
use Rattle.goo_types.specs.declared.request.Request.{Request}
use Rattle.goo_spec.specs.Run.{final}
use Rattle.goo_spec.specs.State.{State}
use Rattle.goo_core_shelf.specs.Crash.{FindsOnly, FindsEither}
use Rattle.goo_desk_body.specs.Body.{body_of}
use Rattle.goo_desk_lines.specs.Lines.{body_reading}
use Rattle.goo_desk_heads.specs.Requests.{Decides, Parts}
use Rattle.goo_desk_heads.specs.declared.request.RefusedHead.{RefusedHead}
use Rattle.goo_desk_routes.specs.declared.task.Subject.{Subject}
use Rattle.goo_desk_routes.specs.declared.task.Task.TheVariants.{Apply, Import, Show}
use Rattle.goo_desk_backend.specs.Backends.{Importing, Beginning}
use Rattle.goo_desk_backend.specs.Durable.{FindsAmong}
use Rattle.goo_desk_backend.specs.Tables.{ImportsAreRuns}
use Rattle.goo_desk_answers.specs.Brought.{request_if_any, Brings, BringsFirst, MayBring, BringsBy, BringsIn, AreLeft, FindsLed, FindsLeft}
use Rattle.goo_desk_answers.specs.Handling.{handling_of}
use Rattle.goo_desk_answers.specs.Responds.{state_applied}
use Rattle.goo_desk_answers.specs.declared.handling.Handling.{Handling}
use Rattle.goo_desk_answers.specs.declared.handling.Handling.TheVariants.{Fixed, Own}
use Rattle.goo_desk_answers.proofs.BroughtFacts.{state_if_any}

-- nothing was called
pub nothing_led : (leaves : Option State → Type 0) (s : State) (are : List Request → Type 0) → are [] → FindsOnly leaves s → FindsLed leaves s are
nothing_led leaves s are none only o may = ([], none, only o may)

one_of : (s : State) (caller body : List ℕ) (o : Option State) → (o ≡ Some s) ⊎ (o ≡ Some (state_applied s caller body)) → (qs : List Request) × MayBring caller body Apply qs × (o ≡ Some (final s qs))
unfolding state_applied
one_of s caller body o (inl is) = ([], inr refl, is)
one_of s caller body o (inr is) = let r = body_reading (body_of caller body) in (request_if_any r, inl refl, is ∙ ap Some (state_if_any s r))

-- a body's request was applied, or was not
pub applied_led : (leaves : Option State → Type 0) (s : State) (caller body : List ℕ) → FindsEither leaves s (state_applied s caller body) → FindsLed leaves s (MayBring caller body Apply)
applied_led leaves s caller body either o may = one_of s caller body o (either o may)

-- some first rows of a table were
pub import_led : (imports : Importing) (begins : Beginning) → ImportsAreRuns imports begins → (leaves : Option State → Type 0) (s : State) (caller body : List ℕ) → FindsAmong leaves (begins s caller body)
    → FindsLed leaves s (MayBring caller body Import)
import_led imports begins runs leaves s caller body among o may =
    let (t, is, found) = among o may in
    let (qs, are, leads) = runs.begun s caller body t is in
    (qs, inr are, found ∙ ap Some leads)

-- something was shown
pub shown_led : (leaves : Option State → Type 0) (s : State) (caller body : List ℕ) (subject : Subject) → FindsOnly leaves s → FindsLed leaves s (MayBring caller body (Show subject))
shown_led leaves s caller body subject only = nothing_led leaves s (MayBring caller body (Show subject)) (inl refl) only

by_handling : (p : Parts) (h : Handling) (qs : List Request) → BringsBy MayBring p h qs → BringsBy Brings p h qs ⊎ BringsBy BringsFirst p h qs
by_handling p (Fixed why allow) qs is = inl is
by_handling p (Own caller task) qs either = either

by_head : (d : Result Parts RefusedHead) (qs : List Request) → BringsIn MayBring d qs → BringsIn Brings d qs ⊎ BringsIn BringsFirst d qs
by_head (Err refused) qs is = inl is
by_head (Ok p) qs is = by_handling p (handling_of p) qs is

are_left : (bytes : List ℕ) (d : Result Parts RefusedHead) (qs : List Request) → Decides bytes d → BringsIn Brings d qs ⊎ BringsIn BringsFirst d qs → AreLeft bytes qs
are_left bytes d qs decides (inl are) = inl (d, decides, are)
are_left bytes d qs decides (inr are) = inr (inr (d, decides, are))

-- all the bytes of a stream
pub bytes_led : (leaves : Option State → Type 0) (s : State) (bytes : List ℕ) (d : Result Parts RefusedHead) → Decides bytes d → FindsLed leaves s (BringsIn MayBring d) → FindsLeft leaves s bytes
bytes_led leaves s bytes d decides led o may = let (qs, are, is) = led o may in (qs, are_left bytes d qs decides (by_head d qs are), is)

pub nothing_left : (leaves : Option State → Type 0) (s : State) (bytes : List ℕ) → FindsOnly leaves s → FindsLeft leaves s bytes
nothing_left leaves s bytes only = nothing_led leaves s (AreLeft bytes) (inr (inl refl)) only
