-- From the promise to the laws on lists of requests.
use Rattle.std.proofs.Common.{◌≡◌, ◌∙◌, ℕ, List, [], ◌∷◌, Result, Ok, Err, refl, sym, inl, inr, subst}
use Rattle.std.specs.Prelude.{All}
use Rattle.std.proofs.lemmas.List.Elements.{All-nil, All-cons, All-head, All-tail, All-append}
use Rattle.goo_types.specs.Obeys.{Obeys}
use Rattle.goo_types.specs.declared.request.Request.{Request}
use Rattle.goo_spec.specs.Obeys.{AllObey}
use Rattle.goo_spec.specs.Promise.{IsPromised}
use Rattle.goo_spec.specs.Run.{final, outcomes}
use Rattle.goo_spec.specs.State.{State}
use Rattle.goo_spec.proofs.Promising.{others_left_out}
use Rattle.goo_spec_laws.proofs.Lists.{moved_by_right}
use Rattle.goo_spec_laws.proofs.Growing.{add_up}
use Rattle.goo_spec_laws.proofs.Keeping.{in_time}
use Rattle.goo_spec_laws.proofs.Lasting.{for_good}
use Rattle.goo_spec_laws.proofs.AccountLists.{left_alone}
use Rattle.goo_files_import.proofs.PromiseFacts.{rows_obey}
use Rattle.goo_files_import.specs.Import as rows
use Rattle.goo_desk_body.specs.Body.{body_of}
use Rattle.goo_desk_heads.specs.Requests.{Parts}
use Rattle.goo_desk_heads.specs.declared.request.RefusedHead.{RefusedHead}
use Rattle.goo_desk_routes.specs.declared.task.Task.{Task}
use Rattle.goo_desk_routes.specs.declared.task.Task.TheVariants.{Apply, Import, Show}
use Rattle.goo_desk_lines.proofs.Obeying.{body_obeys, lines_obey, from_reading}
use Rattle.goo_desk_lines.specs.Lines.{body_reading}
use Rattle.goo_desk_lines.specs.Requests as lines
use Rattle.goo_desk_outcome.specs.declared.unreadable.Unreadable.{Unreadable}
use Rattle.goo_desk_backend.proofs.TableFacts.{table_obeys, beginning_obeys}
use Rattle.goo_desk_answers.specs.Brought.{request_if_any, Brings, BringsFirst, BringsBy, BringsIn, AreLeft}
use Rattle.goo_desk_answers.specs.Handling.{handling_of}
use Rattle.goo_desk_answers.specs.declared.handling.Handling.{Handling}
use Rattle.goo_desk_answers.specs.declared.handling.Handling.TheVariants.{Fixed, Own}
use Rattle.goo_desk_server.specs.Runs.{Connection, requests_of}
use Rattle.goo_desk_promised.specs.Also.{OfRequests, OfLines, OfRows, OfConnections}

-- ---- of any requests

-- what is promised holds of the last state of a run
is_final : (s t : State) (qs : List Request) → IsPromised s qs t → t ≡ final s qs
is_final s t qs promised = promised.others ∙ sym (others_left_out s qs)

pub of_requests : OfRequests
of_requests s t qs obey sound promised =
    let is = is_final s t qs promised in
    record {
      moved_by_right = moved_by_right s t qs obey sound is;
      for_good = for_good s t qs (outcomes s qs) obey sound refl is;
      in_time = in_time s t qs obey sound is;
      adds_up = add_up s t qs (outcomes s qs) obey sound refl is;
      independent = left_alone s t qs obey sound is;
    }

-- ---- of lines and rows

pub of_lines : OfLines
of_lines s t some = of_requests s t (lines.requests_of some) (lines_obey some)

pub of_rows : OfRows
of_rows s t caller some = of_requests s t (rows.requests_of caller some) (rows_obey caller some)

-- ---- of connections

none_obey : AllObey []
none_obey = All-nil (λ q. Obeys q.command)

if_none : (qs : List Request) → qs ≡ [] → AllObey qs
if_none qs is = subst AllObey (sym is) none_obey

if_any : (r : Result Request Unreadable) → ((q : Request) → r ≡ Ok q → Obeys q.command) → AllObey (request_if_any r)
if_any (Ok q) obeys = All-cons (λ p. Obeys p.command) q [] (obeys q refl) none_obey
if_any (Err reason) obeys = none_obey

brings : (caller body : List ℕ) (task : Task) (qs : List Request) → Brings caller body task qs → AllObey qs
brings caller body Apply qs is =
    let stated = body_of caller body in
    subst AllObey (sym is) (if_any (body_reading stated) (λ q read. body_obeys caller body q (from_reading stated q read)))
brings caller body Import qs are = table_obeys caller body qs are
brings caller body (Show subject) qs is = if_none qs is

begins : (caller body : List ℕ) (task : Task) (qs : List Request) → BringsFirst caller body task qs → AllObey qs
begins caller body Apply qs is = if_none qs is
begins caller body Import qs are = beginning_obeys caller body qs are
begins caller body (Show subject) qs is = if_none qs is

module _ (of_task : List ℕ → List ℕ → Task → List Request → Type 0) (obeys : (caller body : List ℕ) (task : Task) (qs : List Request) → of_task caller body task qs → AllObey qs) where
  by_handling : (p : Parts) (h : Handling) (qs : List Request) → BringsBy of_task p h qs → AllObey qs
  by_handling p (Fixed why allow) qs is = if_none qs is
  by_handling p (Own caller task) qs is = obeys caller p.body task qs is

  by_head : (d : Result Parts RefusedHead) (qs : List Request) → BringsIn of_task d qs → AllObey qs
  by_head (Err refused) qs is = if_none qs is
  by_head (Ok p) qs is = by_handling p (handling_of p) qs is

left_obey : (bytes : List ℕ) (qs : List Request) → AreLeft bytes qs → AllObey qs
left_obey bytes qs (inl (d, decides, are)) = by_head Brings brings d qs are
left_obey bytes qs (inr (inl none)) = if_none qs none
left_obey bytes qs (inr (inr (d, decides, are))) = by_head BringsFirst begins d qs are

connections_obey : (some : List Connection) → All (λ c. AreLeft c.0 c.1) some → AllObey (requests_of some)
connections_obey [] left = none_obey
connections_obey (c ∷ rest) left =
    All-append (λ q. Obeys q.command) c.1 (requests_of rest) (left_obey c.0 c.1 (All-head (λ (x : Connection). AreLeft x.0 x.1) c rest left)) (connections_obey rest (All-tail (λ (x : Connection). AreLeft x.0 x.1) c rest left))

pub of_connections : OfConnections
of_connections s t some left = of_requests s t (requests_of some) (connections_obey some left)
