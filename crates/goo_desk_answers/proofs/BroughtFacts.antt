-- What bytes are answered is a run of the requests that they bring.
use Rattle.std.proofs.Common.{◌≡◌, ◌∙◌, ◌⊎◌, ℕ, true, false, List, [], Option, Result, Ok, Err, IsErr, IfOk, OnErr, refl, inl, inr}
use Rattle.std.proofs.lemmas.List.Elements.{All-nil, All-cons}
use Rattle.goo_types.specs.Obeys.{Obeys}
use Rattle.goo_types.specs.declared.fault.Fault.{Fault}
use Rattle.goo_types.specs.declared.request.Request.{Request}
use Rattle.goo_spec.specs.Obeys.{AllObey}
use Rattle.goo_spec.specs.Run.{final}
use Rattle.goo_spec.specs.Sound.{IsSound}
use Rattle.goo_spec.specs.State.{State}
use Rattle.goo_spec.proofs.Promising.{promised}
use Rattle.goo_core_shelf.specs.Desk.{Seen}
use Rattle.goo_desk_body.specs.Body.{body_of}
use Rattle.goo_desk_outcome.specs.declared.unreadable.Unreadable.{Unreadable}
use Rattle.goo_desk_lines.specs.Answers.{state_by}
use Rattle.goo_desk_lines.specs.Lines.{body_reading}
use Rattle.goo_desk_lines.proofs.Obeying.{body_obeys, from_reading}
use Rattle.goo_desk_heads.specs.Requests.{Decides, Parts}
use Rattle.goo_desk_heads.specs.declared.request.RefusedHead.{RefusedHead}
use Rattle.goo_desk_responses.specs.declared.status.Status.{Status}
use Rattle.goo_desk_routes.specs.declared.task.Task.{Task}
use Rattle.goo_desk_routes.specs.declared.task.Task.TheVariants.{Apply, Import, Show}
use Rattle.goo_desk_backend.specs.Backends.{Showing, Importing, Beginning}
use Rattle.goo_desk_backend.specs.Tables.{AreOfTable, BeginTable, ImportsAreRuns}
use Rattle.goo_desk_backend.proofs.TableFacts.{table_obeys, beginning_obeys}
use Rattle.goo_desk_answers.specs.Brought.{request_if_any, Brings, BringsFirst, BringsBy, BringsIn, AreBrought, AreFirstBrought, KeepsPromise}
use Rattle.goo_desk_answers.specs.Handling.{handling_of}
use Rattle.goo_desk_answers.specs.Responds.{Does, Handles, RespondsTo, Responds, state_applied, Stopped, Stops, StopsIn, StopsAt, Fails}
use Rattle.goo_desk_answers.specs.declared.answered.Answer.{Answer}
use Rattle.goo_desk_answers.specs.declared.handling.Handling.{Handling}
use Rattle.goo_desk_answers.specs.declared.handling.Handling.TheVariants.{Fixed, Own}

-- some of these requests, within their limits, lead from one state to the other
abbrev pub Leads : (List Request → Type 0) → State → State → Type 0
Leads are s t = (qs : List Request) × are qs × AllObey qs × (t ≡ final s qs)

none_lead : (are : List Request → Type 0) (s t : State) → are [] → t ≡ s → Leads are s t
none_lead are s t none is = ([], none, All-nil (λ q. Obeys q.command), is)

-- ---- a body's request

pub state_if_any : (s : State) (r : Result Request Unreadable) → state_by s r ≡ final s (request_if_any r)
state_if_any s (Ok q) = refl
state_if_any s (Err reason) = refl

if_any_obeys : (r : Result Request Unreadable) → ((q : Request) → r ≡ Ok q → Obeys q.command) → AllObey (request_if_any r)
if_any_obeys (Ok q) obeys = All-cons (λ p. Obeys p.command) q [] (obeys q refl) (All-nil (λ p. Obeys p.command))
if_any_obeys (Err reason) obeys = All-nil (λ p. Obeys p.command)

applied_leads : (s t : State) (caller body : List ℕ) → t ≡ state_applied s caller body → Leads (Brings caller body Apply) s t
unfolding state_applied
applied_leads s t caller body is =
    let r = body_reading (body_of caller body) in
    (request_if_any r, refl, if_any_obeys r (λ q read. body_obeys caller body q (from_reading (body_of caller body) q read)), is ∙ state_if_any s r)

module _ (shows : Showing) (imports : Importing) (begins : Beginning) (runs : ImportsAreRuns imports begins) where
  table_leads : (s t : State) (caller body : List ℕ) (report : Option (List ℕ)) → imports s caller body report t → Leads (AreOfTable caller body) s t
  table_leads s t caller body report is = let (qs, are, final_is) = runs.whole s caller body report t is in (qs, are, table_obeys caller body qs are, final_is)

  -- ---- all of it

  does_lead : (s t : State) (caller body : List ℕ) (task : Task) (given : Status) (text : List ℕ) → Does shows imports s caller body task given text t → Leads (Brings caller body task) s t
  does_lead s t caller body Apply given text (is_given, is) = applied_leads s t caller body is
  does_lead s t caller body Import given text (report, is, is_given) = table_leads s t caller body report is
  does_lead s t caller body (Show subject) given text (shown, is_shown, is_given, is) = none_lead (Brings caller body (Show subject)) s t refl is

  handles_lead : (s t : State) (p : Parts) (h : Handling) (given : Status) (text : List ℕ) → Handles shows imports s p h given text t → Leads (BringsBy Brings p h) s t
  handles_lead s t p (Fixed why allow) given text is = none_lead (BringsBy Brings p (Fixed why allow)) s t refl is.state
  handles_lead s t p (Own caller task) given text is = does_lead s t caller p.body task given text is

  to_lead : (s t : State) (d : Result Parts RefusedHead) (given : Status) (text : List ℕ) → RespondsTo shows imports s d given text t → Leads (BringsIn Brings d) s t
  to_lead s t (Err refused) given text is = none_lead (BringsIn Brings (Err refused)) s t refl is.state
  to_lead s t (Ok p) given text is = handles_lead s t p (handling_of p) given text is

  pub responds_lead : (s t : State) (bytes : List ℕ) (given : Status) (text : List ℕ) → Responds shows imports s bytes given text t → Leads (AreBrought bytes) s t
  responds_lead s t bytes given text (d, decides, is) = let (qs, are, obey, final_is) = to_lead s t d given text is in (qs, (d, decides, are), obey, final_is)

  -- ---- after a fault

  begun_lead : (s t : State) (caller body : List ℕ) → begins s caller body t → Leads (BeginTable caller body) s t
  begun_lead s t caller body is = let (qs, are, final_is) = runs.begun s caller body t is in (qs, are, beginning_obeys caller body qs are, final_is)

  -- all rows are the first of them, and a table without a header has none
  as_first : (caller body : List ℕ) (qs : List Request) → AreOfTable caller body qs → BeginTable caller body qs
  as_first caller body qs (inl (rows, are, is)) = (rows, inr are, is)
  as_first caller body qs (inr (lacks, is)) = ([], inl (inl refl), is)

  stopped_lead : (s t : State) (caller body : List ℕ) → Stopped imports begins s caller body t → Leads (BeginTable caller body) s t
  stopped_lead s t caller body (inl is) = begun_lead s t caller body is
  stopped_lead s t caller body (inr (report, is)) = let (qs, are, obey, final_is) = table_leads s t caller body report is in (qs, as_first caller body qs are, obey, final_is)

  stops_lead : (s t : State) (caller body : List ℕ) (task : Task) → Stops imports begins s caller body task t → Leads (BringsFirst caller body task) s t
  stops_lead s t caller body Apply is = none_lead (BringsFirst caller body Apply) s t refl is
  stops_lead s t caller body Import is = stopped_lead s t caller body is
  stops_lead s t caller body (Show subject) is = none_lead (BringsFirst caller body (Show subject)) s t refl is

  stops_in_lead : (s t : State) (p : Parts) (h : Handling) → StopsIn imports begins s p h t → Leads (BringsBy BringsFirst p h) s t
  stops_in_lead s t p (Fixed why allow) is = none_lead (BringsBy BringsFirst p (Fixed why allow)) s t refl is
  stops_in_lead s t p (Own caller task) is = stops_lead s t caller p.body task is

  stops_at_lead : (s t : State) (d : Result Parts RefusedHead) → StopsAt imports begins s d t → (t ≡ s) ⊎ Leads (BringsIn BringsFirst d) s t
  stops_at_lead s t (Err refused) is = inl is
  stops_at_lead s t (Ok p) (inl is) = inl is
  stops_at_lead s t (Ok p) (inr is) = inr (stops_in_lead s t p (handling_of p) is)

  as_brought : (s t : State) (bytes : List ℕ) (d : Result Parts RefusedHead) → Decides bytes d → (t ≡ s) ⊎ Leads (BringsIn BringsFirst d) s t → Leads (AreFirstBrought bytes) s t
  as_brought s t bytes d decides (inl is) = none_lead (AreFirstBrought bytes) s t (inl refl) is
  as_brought s t bytes d decides (inr (qs, are, obey, final_is)) = (qs, inr (d, decides, are), obey, final_is)

  pub fails_lead : (s t : State) (bytes : List ℕ) → Fails imports begins s bytes t → Leads (AreFirstBrought bytes) s t
  fails_lead s t bytes (d, decides, is) = as_brought s t bytes d decides (stops_at_lead s t d is)

  -- ---- the promise

  pub keeps_promise : (old new : Seen) (bytes : List ℕ) (r : Result Answer Fault) → IsSound old.state → IfOk r (λ answer. Responds shows imports old.state bytes answer.status answer.bytes.items new.state)
      → (new.defects ≡ 0 → OnErr r (Fails imports begins old.state bytes new.state)) → KeepsPromise bytes old.state new r
  keeps_promise old new bytes (Ok answer) sound is fails =
      let (qs, are, obey, final_is) = responds_lead old.state new.state bytes answer.status answer.bytes.items is in
      (qs, are, promised old.state new.state qs obey sound final_is)
  keeps_promise old new bytes (Err fault) sound is fails = λ sure.
      let (qs, are, obey, final_is) = fails_lead old.state new.state bytes (fails sure) in
      (qs, are, promised old.state new.state qs obey sound final_is)

-- nothing was done
pub none_promised : {T : Type 0} (s : Seen) (bytes : List ℕ) (r : Result T Fault) → IsErr r → IsSound s.state → KeepsPromise bytes s.state s r
none_promised s bytes (Ok x) failed sound = let clash : false ≡ true = failed in cc
none_promised s bytes (Err fault) failed sound = λ sure. ([], inl refl, promised s.state s.state [] (All-nil (λ q. Obeys q.command)) sound refl)
