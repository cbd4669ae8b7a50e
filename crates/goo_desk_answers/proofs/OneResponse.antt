-- Bytes are answered in one way: the response is a function of the bytes and of what the registry knows.
use Rattle.std.proofs.Common.{◌≡◌, ◌∙◌, ℕ, Bool, List, Option, Result, Ok, Err, sym, ap, refl, subst}
use Rattle.goo_spec.specs.State.{State}
use Rattle.goo_desk_heads.proofs.HeadFacts.{decides-one}
use Rattle.goo_desk_heads.specs.Requests.{Decides, Parts}
use Rattle.goo_desk_heads.specs.declared.request.RefusedHead.{RefusedHead}
use Rattle.goo_desk_responses.specs.Responses.{Response}
use Rattle.goo_desk_responses.specs.declared.status.Status.{Status}
use Rattle.goo_desk_routes.specs.declared.task.Task.{Task}
use Rattle.goo_desk_routes.specs.declared.task.Task.TheVariants.{Apply, Import, Show}
use Rattle.goo_core_reads.specs.declared.denial.Denial.{Denial}
use Rattle.goo_desk_backend.specs.Backends.{Showing, Importing, ShowsOne, ImportsOne}
use Rattle.goo_desk_answers.specs.Handling.{handling_of}
use Rattle.goo_desk_answers.specs.Responds.{IsFixed, IsGiven, Does, Handles, RespondsTo, Responds, IsOneResponse, show_response, import_response}
use Rattle.goo_desk_answers.specs.declared.handling.Handling.{Handling}
use Rattle.goo_desk_answers.specs.declared.handling.Handling.TheVariants.{Fixed, Own}

fixed-one : (s : State) (for_head : Bool) (why : Status) (r : Response) (a b : Status) (t u : List ℕ) (after next : State) → IsFixed s for_head why r a t after → IsFixed s for_head why r b u next → (a ≡ b) × (t ≡ u) × (after ≡ next)
fixed-one s for_head why r a b t u after next x y = (x.status ∙ sym y.status, x.text ∙ sym y.text, x.state ∙ sym y.state)

given-one : (r q : Response) (a b : Status) (t u : List ℕ) → r ≡ q → IsGiven r a t → IsGiven q b u → (a ≡ b) × (t ≡ u)
given-one r q a b t u same x y = let z = rw (sym same) at y in (x.status ∙ sym z.status, x.text ∙ sym z.text)

module _ (shows : Showing) (imports : Importing) (one : ShowsOne shows) (only : ImportsOne imports) where
  does-one : (s : State) (caller body : List ℕ) (task : Task) (a b : Status) (t u : List ℕ) (after next : State) → Does shows imports s caller body task a t after → Does shows imports s caller body task b u next → (a ≡ b) × (t ≡ u) × (after ≡ next)
  does-one s caller body Apply a b t u after next (x, p) (y, q) = let same = given-one _ _ a b t u refl x y in (same.0, same.1, p ∙ sym q)
  does-one s caller body Import a b t u after next (report, made, x) (other, did, y) =
      let both = only s caller body report other after next made did in
      let same = given-one _ _ a b t u (ap import_response both.0) x y in (same.0, same.1, both.1)
  does-one s caller body (Show subject) a b t u after next (shown, is, x, p) (other, was, y, q) =
      let same = given-one _ _ a b t u (ap (show_response subject) (one s caller subject shown other is was)) x y in (same.0, same.1, p ∙ sym q)

  handles-one : (s : State) (p : Parts) (h : Handling) (a b : Status) (t u : List ℕ) (after next : State) → Handles shows imports s p h a t after → Handles shows imports s p h b u next → (a ≡ b) × (t ≡ u) × (after ≡ next)
  handles-one s p (Fixed why allow) a b t u after next x y = fixed-one s _ why _ a b t u after next x y
  handles-one s p (Own caller task) a b t u after next x y = does-one s caller p.body task a b t u after next x y

  to-one : (s : State) (d : Result Parts RefusedHead) (a b : Status) (t u : List ℕ) (after next : State) → RespondsTo shows imports s d a t after → RespondsTo shows imports s d b u next → (a ≡ b) × (t ≡ u) × (after ≡ next)
  to-one s (Err refused) a b t u after next x y = fixed-one s _ _ _ a b t u after next x y
  to-one s (Ok p) a b t u after next x y = handles-one s p (handling_of p) a b t u after next x y

  pub responds-one : IsOneResponse shows imports
  responds-one s bytes a b t u after next (d, decides, x) (e, decided, y) =
      let same = decides-one bytes d e decides decided in
      to-one s d a b t u after next x (subst (λ f. RespondsTo shows imports s f b u next) (sym same) y)
