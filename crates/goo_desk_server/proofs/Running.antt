-- Connections, one after another, are a run of the requests that they left applied.
use Rattle.std.proofs.Common.{◌≡◌, ◌∙◌, ◌+◌, ℕ, zero, suc, List, [], ◌∷◌, ◌++◌, Option, length, length-append, refl, sym, ap, subst, arith}
use Rattle.std.proofs.lemmas.List.{append-nil}
use Rattle.std.proofs.lemmas.List.Elements.{All-nil, All-cons, All-append}
use Rattle.std.proofs.lemmas.Grind.{flat_map-append}
use Rattle.goo_files_streams.specs.Streams.{IsWholeOf}
use Rattle.goo_types.specs.Obeys.{Obeys}
use Rattle.goo_types.specs.declared.request.Request.{Request}
use Rattle.goo_spec.specs.Obeys.{AllObey}
use Rattle.goo_spec.specs.Run.{final}
use Rattle.goo_spec.specs.Sound.{IsSound}
use Rattle.goo_spec.specs.State.{State}
use Rattle.goo_spec.specs.Step.{next}
use Rattle.goo_spec.proofs.Promising.{promised}
use Rattle.goo_core_shelf.specs.Desk.{Seen}
use Rattle.goo_desk_listener.specs.Clients.{Clients}
use Rattle.goo_desk_backend.specs.Backends.{Showing, Importing, Beginning}
use Rattle.goo_desk_backend.specs.Tables.{ImportsAreRuns}
use Rattle.goo_desk_answers.specs.Brought.{AreLeft}
use Rattle.goo_desk_answers.proofs.BroughtFacts.{Leads}
use Rattle.goo_desk_server.proofs.ConnectionPromiseFacts.{connects_lead}
use Rattle.goo_desk_server.specs.Runs.{AreHeard, Connection, requests_of, IsRunOf, StepsAreARun, KeepsPromise}
use Rattle.goo_desk_server.specs.Serving.{ServesTo, Steps}

final-append : (s : State) (qs rs : List Request) → final s (qs ++ rs) ≡ final (final s qs) rs
final-append s [] rs = refl
final-append s (q ∷ qs) rs = final-append (next s q) qs rs

record Run (sends : ℕ → Option (List ℕ)) (was count : ℕ) (old new : State) : Type 0 where
  run : IsRunOf sends was count old new
  obey : AllObey (requests_of run.connections)

no_run : (sends : ℕ → Option (List ℕ)) (was : ℕ) (s t : State) → t ≡ s → Run sends was 0 s t
no_run sends was s t is = record {
  run = record { connections = []; count_is = refl; heard = tt; brought = All-nil (λ (c : Connection). AreLeft c.0 c.1); state = is };
  obey = All-nil (λ q. Obeys q.command);
}

requests_more : (connections : List Connection) (c : Connection) → requests_of (connections ++ c ∷ []) ≡ requests_of connections ++ c.1
requests_more connections c = flat_map-append (λ (c : Connection). c.1) connections (c ∷ []) ∙ ap (λ l. requests_of connections ++ l) (append-nil c.1)

-- one more is heard
heard_more : (sends : ℕ → Option (List ℕ)) (was count : ℕ) (connections : List Connection) (c : Connection) → length connections ≡ count → AreHeard sends was connections → IsWholeOf (sends (was + count)) c.0 → AreHeard sends was (connections ++ c ∷ [])
heard_more sends was count [] c is heard whole =
    let here : was + count ≡ was = omega (arith, is) in
    (subst (λ n. IsWholeOf (sends n) c.0) here whole, tt)
heard_more sends was zero (first ∷ rest) c is heard whole = absurd (omega (arith, is))
heard_more sends was (suc count) (first ∷ rest) c is (now, later) whole =
    let number : was + suc count ≡ suc was + count = omega arith in
    (now, heard_more sends (suc was) count rest c (let e : length rest ≡ count = omega (arith, is) in e) later (subst (λ n. IsWholeOf (sends n) c.0) number whole))

one_more : (sends : ℕ → Option (List ℕ)) (was count : ℕ) (old mid new : State) (bytes : List ℕ) → Run sends was count old mid → IsWholeOf (sends (was + count)) bytes → Leads (AreLeft bytes) mid new → Run sends was (suc count) old new
one_more sends was count old mid new bytes so whole (qs, are, obey, is) =
    let before = so.run.connections in
    let c : Connection = (bytes, qs) in
    let more = requests_more before c in
    record {
      run = record {
        connections = before ++ c ∷ [];
        count_is = let e : length (before ++ c ∷ []) ≡ suc count = omega (arith, length-append before (c ∷ []), so.run.count_is) in e;
        heard = heard_more sends was count before c so.run.count_is so.run.heard whole;
        brought = All-append (λ (c : Connection). AreLeft c.0 c.1) before (c ∷ []) so.run.brought (All-cons (λ (c : Connection). AreLeft c.0 c.1) c [] are (All-nil (λ (c : Connection). AreLeft c.0 c.1)));
        state = is ∙ ap (λ (s : State). final s qs) so.run.state ∙ sym (final-append old (requests_of before) qs) ∙ ap (final old) (sym more);
      };
      obey = subst AllObey (sym more) (All-append (λ q. Obeys q.command) (requests_of before) qs so.obey obey);
    }

module _ (shows : Showing) (imports : Importing) (begins : Beginning) (runs : ImportsAreRuns imports begins) (clients : Clients) (was : ℕ) where
  steps_run : (count : ℕ) (old new : Seen) → Steps shows imports begins clients was count old new → new.corruptions ≡ 0 → new.defects ≡ 0 → Run clients.sends was count old.state new.state
  steps_run zero old new is honest sure = no_run clients.sends was old.state new.state (ap (λ (m : Seen). m.state) is)
  steps_run (suc count) old new (mid, so, one) honest sure =
      one_more clients.sends was count old.state mid.state new.state one.bytes (steps_run count old mid so (one.corruptions_stay honest) (one.defects_stay sure)) one.whole
      (connects_lead shows imports begins runs (clients.sends (was + count)) clients.fresh (clients.closed (was + count)) mid new one honest sure)

  steps_promised : (count now : ℕ) (old new : Seen) → now ≡ was + count → Steps shows imports begins clients was count old new → IsSound old.state → new.corruptions ≡ 0 → new.defects ≡ 0 → KeepsPromise clients.sends was now old.state new.state
  steps_promised count now old new is steps sound honest sure =
      let so = steps_run count old new steps honest sure in
      record {
        connections = so.run.connections;
        count_is = let e : now ≡ was + length so.run.connections = omega (arith, so.run.count_is, is) in e;
        heard = so.run.heard;
        brought = so.run.brought;
        promised = promised old.state new.state (requests_of so.run.connections) so.obey sound so.run.state;
      }

-- what clients send is what it was
pub serves_promised : (shows : Showing) (imports : Importing) (begins : Beginning) → ImportsAreRuns imports begins → (from now : Clients) (first last : Seen) (leaves : Option State → Type 0) → ServesTo shows imports begins from now first last leaves
    → IsSound first.state → last.corruptions ≡ 0 → last.defects ≡ 0 → KeepsPromise from.sends from.accepted now.accepted first.state last.state
serves_promised shows imports begins runs from now first last leaves serves sound honest sure =
    subst (λ (sends : ℕ → Option (List ℕ)). KeepsPromise sends from.accepted now.accepted first.state last.state) (ap (λ (c : Clients). c.sends) serves.goes_on.kept)
    (steps_promised shows imports begins runs now from.accepted serves.count now.accepted first last serves.counted serves.steps sound honest sure)

pub steps_are_a_run : (shows : Showing) (imports : Importing) (begins : Beginning) → ImportsAreRuns imports begins → StepsAreARun shows imports begins
steps_are_a_run shows imports begins runs clients was count old new steps honest sure = (steps_run shows imports begins runs clients was count old new steps honest sure).run
