-- A connection is a run of the requests that it left applied.
use Rattle.std.proofs.Common.{◌≡◌, ◌⊎◌, ℕ, List, [], Option, refl, inl, inr, ap}
use Rattle.std.proofs.lemmas.List.Elements.{All-nil}
use Rattle.goo_types.specs.Obeys.{Obeys}
use Rattle.goo_core_shelf.specs.Desk.{Seen}
use Rattle.goo_desk_listener.specs.Clients.{Closed}
use Rattle.goo_desk_responses.specs.declared.status.Status.{Status}
use Rattle.goo_desk_backend.specs.Backends.{Showing, Importing, Beginning}
use Rattle.goo_desk_backend.specs.Tables.{ImportsAreRuns}
use Rattle.goo_desk_answers.specs.Brought.{AreLeft}
use Rattle.goo_desk_answers.proofs.BroughtFacts.{Leads, responds_lead, fails_lead}
use Rattle.goo_desk_server.specs.ConnectionServed.{IsServed, unread_text}
use Rattle.goo_desk_server.specs.Connects.{Connects}

module _ (shows : Showing) (imports : Importing) (begins : Beginning) (runs : ImportsAreRuns imports begins) where
  replied_leads : (old : Seen) (bytes : List ℕ) (status : Status) (text : List ℕ) (new : Seen) → new.corruptions ≡ 0 → new.defects ≡ 0 → IsServed shows imports begins old bytes status text new ⊎ ((new ≡ old) × (text ≡ unread_text))
      → Leads (AreLeft bytes) old.state new.state
  replied_leads old bytes status text new honest sure (inl (inl answered)) =
      let (qs, are, obey, is) = responds_lead shows imports begins runs old.state new.state bytes status text (answered.response honest) in
      (qs, inl are, obey, is)
  replied_leads old bytes status text new honest sure (inl (inr excused)) =
      let (qs, are, obey, is) = fails_lead shows imports begins runs old.state new.state bytes (excused.state sure) in
      (qs, inr are, obey, is)
  replied_leads old bytes status text new honest sure (inr (same, is)) = ([], inr (inl refl), All-nil (λ q. Obeys q.command), ap (λ (m : Seen). m.state) same)

  -- whatever the client does
  pub connects_lead : (known fresh : Option (List ℕ)) (closed : Closed) (old new : Seen) (one : Connects shows imports begins known fresh closed old new) → new.corruptions ≡ 0 → new.defects ≡ 0 → Leads (AreLeft one.bytes) old.state new.state
  connects_lead known fresh closed old new one honest sure = replied_leads old one.bytes one.status one.text new honest sure one.replied
