-- A connection of a server, by how serving it ended.
use Rattle.std.proofs.Common.{◌≡◌, ◌⊎◌, ◌||◌, ℕ, Bool, true, false, List, [], Option, Result, Ok, Err, IsTrue, OnOk, OnErr, refl, inl, inr}
use Rattle.std.specs.Prelude.{take}
use Rattle.std.specs.Io.KnownBytes.{Appends, Keeps}
use Rattle.goo_files_streams.specs.Streams.{AppendsPrefix, IsWholeOf}
use Rattle.goo_files_streams.proofs.AppendsFacts.{appends-kept, appends-none, appends-more}
use Rattle.goo_spec.specs.State.{State}
use Rattle.goo_core_shelf.specs.Desk.{Seen}
use Rattle.goo_desk_responses.specs.declared.status.Status.{Status}
use Rattle.goo_desk_responses.specs.declared.status.Status.TheVariants.{Unavailable}
use Rattle.goo_desk_backend.specs.Backends.{Showing, Importing, Beginning}
use Rattle.goo_desk_server.specs.declared.connection.Served.{Served}
use Rattle.goo_desk_server.specs.declared.serve_fault.ServeFault.{ServeFault}
use Rattle.goo_desk_server.specs.declared.serve_fault.ServeFault.TheVariants as fault
use Rattle.goo_desk_server.specs.ConnectionEnds.{IsSent, Serves, ServesHeard}
use Rattle.goo_desk_server.specs.ConnectionServed.{IsServed, unread_text}
use Rattle.goo_desk_server.specs.Connects.{IsLatest}

-- nothing is a beginning of any text
kept-prefix : (had has : Option (List ℕ)) (text : List ℕ) → Keeps had has → AppendsPrefix had has text
kept-prefix had has text keeps = (0, appends-kept had had has [] (appends-none had) keeps)

-- nothing, and then this
after_nothing : (had mid has : Option (List ℕ)) (text : List ℕ) → Keeps had mid → Appends mid has text → Appends had has text
after_nothing had mid has text keeps all = appends-more had mid has [] text (appends-kept had had mid [] (appends-none had) keeps) all

after_nothing_part : (had mid has : Option (List ℕ)) (text : List ℕ) → Keeps had mid → AppendsPrefix mid has text → AppendsPrefix had has text
after_nothing_part had mid has text keeps (count, part) = (count, after_nothing had mid has (take count text) keeps part)

of_writer : (r w : Bool) → IsTrue w → IsTrue (r || w)
of_writer true w is = refl
of_writer false w is = is

module _ (shows : Showing) (imports : Importing) (begins : Beginning) (known had has : Option (List ℕ)) (failed : Bool) (old new : Seen) (before after : Option State → Type 0) where
  abbrev pub IsHere : Type 0
  IsHere = IsLatest shows imports begins known had (record { held = has; failed = failed }) old new before after

  here : (result : Result Served ServeFault) (bytes : List ℕ) (status : Status) (text : List ℕ) → IsWholeOf known bytes → IsServed shows imports begins old bytes status text new ⊎ ((new ≡ old) × (text ≡ unread_text))
      → IsSent had has failed text → {was : Option (List ℕ)} {broken : Bool} → Serves shows imports begins bytes old new had was broken before after result → IsHere
  here result bytes status text whole replied sent serves = record {
    one = record { bytes = bytes; whole = whole; status = status; text = text; replied = replied; sent = sent; defects_stay = serves.defects_stay; corruptions_stay = serves.corruptions_stay; stays = serves.stays };
    crash = serves.crash;
    shut = serves.shut;
  }

  abbrev Heard : Result Served ServeFault → Type 0
  Heard = ServesHeard shows imports begins known old new had has failed before after

  pub done : (served : Served) → Heard (Ok served) → IsHere
  done served (bytes, whole, serves) = let (text, is, all) = serves.ends in here (Ok served) bytes served.status text whole (inl is) (inl all) serves

  pub cut : Heard (Err fault.Write) → IsHere
  cut (bytes, whole, serves) = let (status, text, is, part) = serves.ends in here (Err fault.Write) bytes status text whole (inl is) (inr part) serves

  pub shut : Heard (Err fault.Store) → IsHere
  shut (bytes, whole, serves) = let (text, is, sent) = serves.ends in here (Err fault.Store) bytes Unavailable text whole (inl (inr is)) sent serves

  pub gone : Heard (Err fault.Read) → IsHere
  gone (bytes, whole, serves) =
      let (same, broken, keeps) = serves.ends in
      here (Err fault.Read) bytes Unavailable unread_text whole (inr (same, refl)) (inr (broken, kept-prefix had has unread_text keeps)) serves

  -- there was no room to read it: that is told
  pub told : {E : Type 0} (mid : Option (List ℕ)) (r w broken : Bool) (sending : Result (Unit {0}) E) → failed ≡ (r || w) → ServesHeard shows imports begins known old new had mid broken before after (Err fault.Memory)
      → OnOk sending (Appends mid has unread_text) → OnErr sending (AppendsPrefix mid has unread_text) → OnErr sending (IsTrue w) → IsHere
  told {E} mid r w broken (Ok x) is (bytes, whole, serves) all part fails =
      let (same, keeps) = serves.ends in
      here (Err fault.Memory) bytes Unavailable unread_text whole (inr (same, refl)) (inl (after_nothing had mid has unread_text keeps all)) serves
  told {E} mid r w broken (Err e) is (bytes, whole, serves) all part fails =
      let (same, keeps) = serves.ends in
      here (Err fault.Memory) bytes Unavailable unread_text whole (inr (same, refl)) (inr (rw is (of_writer r w fails), after_nothing_part had mid has unread_text keeps part)) serves
