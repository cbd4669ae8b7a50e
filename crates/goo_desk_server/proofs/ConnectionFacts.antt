-- What a connection comes to, by what was answered.
use Rattle.std.proofs.Common.{◌≡◌, ◌||◌, arith, ℕ, Bool, true, false, List, [], Option, Some, None, Result, Ok, Err, IsErrAnd, IsTrue, OnOk, OnErr, refl, inl, inr, sym, subst}
use Rattle.std.proofs.lemmas.List.{append-nil}
use Rattle.std.specs.Io.KnownBytes.{Appends, Consumes, IsAtEnd, Keeps}
use Rattle.goo_files_streams.specs.Streams.{AppendsPrefix}
use Rattle.goo_files_streams.specs.declared.InputFault.{InputFault}
use Rattle.goo_files_streams.specs.declared.InputFault.TheVariants as reading
use Rattle.goo_types.specs.declared.request.Request.{Request}
use Rattle.goo_types.specs.declared.fault.Fault.{Fault}
use Rattle.goo_types.specs.declared.fault.Fault.TheVariants.{Memory, Store}
use Rattle.goo_spec.specs.State.{State}
use Rattle.goo_core_shelf.specs.Crash.{FindsOnly, FindsNoMore}
use Rattle.goo_core_shelf.specs.Desk.{Seen}
use Rattle.goo_desk_heads.specs.Requests.{IsSure}
use Rattle.goo_desk_responses.specs.declared.status.Status.{Status}
use Rattle.goo_desk_responses.specs.declared.status.Status.TheVariants.{Unavailable}
use Rattle.goo_desk_backend.specs.Backends.{Showing, Importing, Beginning}
use Rattle.goo_desk_backend.specs.Tables.{ImportsAreRuns}
use Rattle.goo_desk_answers.specs.Brought.{AreLeft, FindsLeft}
use Rattle.goo_desk_answers.specs.Reliable.{StaysReliable}
use Rattle.goo_desk_answers.specs.Responds.{Responds, Fails}
use Rattle.goo_desk_answers.proofs.DurableFacts.{nothing_left}
use Rattle.goo_desk_server.specs.declared.connection.Served.{Served}
use Rattle.goo_desk_server.specs.declared.serve_fault.ServeFault.{ServeFault}
use Rattle.goo_desk_server.specs.declared.serve_fault.ServeFault.TheVariants as fault
use Rattle.goo_desk_server.specs.ConnectionFaults.{IsOfReader, IsToldIn, of_reading}
use Rattle.goo_desk_server.specs.Reading.{StandsFor}
use Rattle.goo_desk_server.specs.ConnectionEnds.{Ends, SendsReply, Serves, ServesHeard}
use Rattle.goo_desk_server.specs.ConnectionServed.{IsApology, IsExcused, IsServed}

-- what was read is sure, or it is all
pub sure-stands : (known left : Option (List ℕ)) (bytes : List ℕ) → Consumes known left bytes → IsSure bytes → StandsFor known bytes
sure-stands None left bytes taken sure = tt
sure-stands (Some input) None bytes taken sure = absurd taken
sure-stands (Some input) (Some left) bytes taken sure = λ d decides. rw taken (sure left d decides)

pub whole-stands : (known left : Option (List ℕ)) (bytes : List ℕ) → Consumes known left bytes → IsAtEnd left → StandsFor known bytes
whole-stands None left bytes taken end = tt
whole-stands (Some input) None bytes taken end = absurd taken
whole-stands (Some input) (Some left) bytes taken end = λ d decides. rw (taken, end, append-nil) decides

-- a read of nothing
pub read-nothing : (known mid left : Option (List ℕ)) (bytes : List ℕ) → Consumes known mid bytes → Consumes mid left [] → Consumes known left bytes
read-nothing None mid left bytes taken more = tt
read-nothing (Some input) None left bytes taken more = absurd taken
read-nothing (Some input) (Some rest) None bytes taken more = absurd more
read-nothing (Some input) (Some rest) (Some left) bytes taken more = rw more at taken

-- a call of the reader failed, or one of the writer
of_reader : (r w : Bool) → IsTrue r → IsTrue (r || w)
of_reader r w is = rw is refl

of_writer : (r w : Bool) → IsTrue w → IsTrue (r || w)
of_writer true w is = refl
of_writer false w is = is

left_stands : (input bytes : List ℕ) (qs : List Request) → StandsFor (Some input) bytes → AreLeft bytes qs → AreLeft input qs
left_stands input bytes qs stands (inl (d, decides, are)) = inl (d, stands d decides, are)
left_stands input bytes qs stands (inr (inl none)) = inr (inl none)
left_stands input bytes qs stands (inr (inr (d, decides, are))) = inr (inr (d, stands d decides, are))

keeps-same : (w : Option (List ℕ)) → Keeps w w
keeps-same None = tt
keeps-same (Some a) = refl

module _ (shows : Showing) (imports : Importing) (begins : Beginning) where
  excused-stands : (old : Seen) (bytes input : List ℕ) (status : Status) (text : List ℕ) (new : Seen) → StandsFor (Some input) bytes → IsExcused shows imports begins old bytes status text new → IsExcused shows imports begins old input status text new
  excused-stands old bytes input status text new stands excused = record {
    unavailable = excused.unavailable;
    text_is = let (d, decides, is) = excused.text_is in (d, stands d decides, is);
    state = λ fine. let (d, decides, stops) = excused.state fine in (d, stands d decides, stops);
  }

  served-stands : (old : Seen) (bytes input : List ℕ) (status : Status) (text : List ℕ) (new : Seen) → StandsFor (Some input) bytes → IsServed shows imports begins old bytes status text new → IsServed shows imports begins old input status text new
  served-stands old bytes input status text new stands (inl answered) = inl (record { response = λ below. let (d, decides, responds) = answered.response below in (d, stands d decides, responds); sure = answered.sure })
  served-stands old bytes input status text new stands (inr excused) = inr (excused-stands old bytes input status text new stands excused)

  -- what was read stands for all that the reader had; and where a call of the reader failed, one failed
  ends-stand : (input bytes : List ℕ) (old new : Seen) (had has : Option (List ℕ)) (r w : Bool) (result : Result Served ServeFault) → StandsFor (Some input) bytes
      → Ends shows imports begins bytes old new had has w result → Ends shows imports begins input old new had has (r || w) result
  ends-stand input bytes old new had has r w (Ok served) stands (text, is, all) = (text, served-stands old bytes input served.status text new stands is, all)
  ends-stand input bytes old new had has r w (Err fault.Write) stands (status, text, is, (failed, part)) = (status, text, served-stands old bytes input status text new stands is, (of_writer r w failed, part))
  ends-stand input bytes old new had has r w (Err fault.Store) stands (text, is, inl all) = (text, excused-stands old bytes input Unavailable text new stands is, inl all)
  ends-stand input bytes old new had has r w (Err fault.Store) stands (text, is, inr (failed, part)) = (text, excused-stands old bytes input Unavailable text new stands is, inr (of_writer r w failed, part))
  ends-stand input bytes old new had has r w (Err fault.Read) stands (same, failed, silent) = (same, of_writer r w failed, silent)
  ends-stand input bytes old new had has r w (Err fault.Memory) stands ends = ends

  serves-stand : (input bytes : List ℕ) (old new : Seen) (had has : Option (List ℕ)) (r w : Bool) (before after : Option State → Type 0) (result : Result Served ServeFault) → StandsFor (Some input) bytes
      → Serves shows imports begins bytes old new had has w before after result → Serves shows imports begins input old new had has (r || w) before after result
  serves-stand input bytes old new had has r w before after result stands serves = record {
    ends = ends-stand input bytes old new had has r w result stands serves.ends;
    defects_stay = serves.defects_stay;
    corruptions_stay = serves.corruptions_stay;
    stays = serves.stays;
    crash = λ runs honest sure o may. let (qs, are, is) = serves.crash runs honest sure o may in (qs, left_stands input bytes qs stands are, is);
    shut = serves.shut;
    told = serves.told;
  }

  -- what is known of the reader
  pub heard-serves : (known : Option (List ℕ)) (bytes : List ℕ) (old new : Seen) (had has : Option (List ℕ)) (r w : Bool) (before after : Option State → Type 0) (result : Result Served ServeFault) → StandsFor known bytes
      → Serves shows imports begins bytes old new had has w before after result → ServesHeard shows imports begins known old new had has (r || w) before after result
  heard-serves None bytes old new had has r w before after result stands serves = (bytes, tt, serves-stand bytes bytes old new had has r w before after result (λ d decides. decides) serves)
  heard-serves (Some input) bytes old new had has r w before after result stands serves = (input, refl, serves-stand input bytes old new had has r w before after result stands serves)

  -- nothing was read
  silent : (bytes : List ℕ) (m : Seen) (had : Option (List ℕ)) (failed : Bool) (leaves : Option State → Type 0) (result : Result Served ServeFault) → Ends shows imports begins bytes m m had had failed result → (m.refusals ≡ 0 → IsToldIn result m.refusals) → (m.defects ≡ 0 → FindsOnly leaves m.state)
      → Serves shows imports begins bytes m m had had failed leaves leaves result
  silent bytes m had failed leaves result ends told settled = record {
    ends = ends;
    told = told;
    defects_stay = λ none. none;
    corruptions_stay = λ none. none;
    stays = λ none sure. record { counts = omega arith; sure = λ _. sure };
    crash = λ runs honest sure. nothing_left leaves m.state bytes (settled sure);
    shut = λ honest bad o left. left;
  }

  silent-heard : (known : Option (List ℕ)) (m : Seen) (had : Option (List ℕ)) (failed : Bool) (leaves : Option State → Type 0) (result : Result Served ServeFault) → ((bytes : List ℕ) → Ends shows imports begins bytes m m had had failed result)
      → (m.refusals ≡ 0 → IsToldIn result m.refusals) → (m.defects ≡ 0 → FindsOnly leaves m.state) → ServesHeard shows imports begins known m m had had failed leaves leaves result
  silent-heard None m had failed leaves result ends told settled = ([], tt, silent [] m had failed leaves result (ends []) told settled)
  silent-heard (Some input) m had failed leaves result ends told settled = (input, refl, silent input m had failed leaves result (ends input) told settled)

  -- there was no room
  pub no-room : (known : Option (List ℕ)) (m : Seen) (had : Option (List ℕ)) (failed : Bool) (leaves : Option State → Type 0) → (m.defects ≡ 0 → FindsOnly leaves m.state)
      → ServesHeard shows imports begins known m m had had failed leaves leaves (Err fault.Memory)
  no-room known m had failed leaves settled = silent-heard known m had failed leaves (Err fault.Memory) (λ bytes. (refl, keeps-same had)) (λ none. none) settled

  by_fault : (of : InputFault) (m : Seen) (had : Option (List ℕ)) (r w : Bool) → IsOfReader of r → (bytes : List ℕ) → Ends shows imports begins bytes m m had had (r || w) (Err (of_reading of))
  by_fault reading.Read m had r w failed bytes = (refl, of_reader r w failed, keeps-same had)
  by_fault reading.TooLong m had r w failed bytes = (refl, of_reader r w failed, keeps-same had)
  by_fault reading.Memory m had r w failed bytes = (refl, keeps-same had)

  told_by_fault : (of : InputFault) (n : ℕ) → n ≡ 0 → IsToldIn {T = Served} (Err (of_reading of)) n
  told_by_fault reading.Read n none = none
  told_by_fault reading.TooLong n none = none
  told_by_fault reading.Memory n none = none

  -- the reader failed, or there was no room
  pub unread : (result : Result Served ServeFault) (of : InputFault) (known : Option (List ℕ)) (m : Seen) (had : Option (List ℕ)) (r w : Bool) (leaves : Option State → Type 0) → IsErrAnd result (λ f. f ≡ of_reading of) → IsOfReader of r
      → (m.defects ≡ 0 → FindsOnly leaves m.state) → ServesHeard shows imports begins known m m had had (r || w) leaves leaves result
  unread (Ok x) of known m had r w leaves same failed settled = absurd same
  unread (Err f) of known m had r w leaves same failed settled =
      subst (λ (e : ServeFault). ServesHeard shows imports begins known m m had had (r || w) leaves leaves (Err e)) (sym same) (silent-heard known m had (r || w) leaves (Err (of_reading of)) (by_fault of m had r w failed) (told_by_fault of m.refusals) settled)

  -- a reply was sent, or a beginning of it
  replied : (result : Result Served ServeFault) (bytes : List ℕ) (old new : Seen) (had has : Option (List ℕ)) (failed : Bool) (status : Status) (text : List ℕ) → IsServed shows imports begins old bytes status text new
      → SendsReply had has failed status text result → Ends shows imports begins bytes old new had has failed result
  replied (Ok served) bytes old new had has failed status text is (same, all) = (text, subst (λ (s : Status). IsServed shows imports begins old bytes s text new) (sym same) is, all)
  replied (Err fault.Write) bytes old new had has failed status text is cut = (status, text, is, cut)
  replied (Err fault.Store) bytes old new had has failed status text is cut = absurd cut
  replied (Err fault.Read) bytes old new had has failed status text is cut = absurd cut
  replied (Err fault.Memory) bytes old new had has failed status text is cut = absurd cut

  -- a reply is sent whether or not that is told
  told_replied : (result : Result Served ServeFault) (had has : Option (List ℕ)) (failed : Bool) (status : Status) (text : List ℕ) (n : ℕ) → SendsReply had has failed status text result → n ≡ 0 → IsToldIn result n
  told_replied (Ok served) had has failed status text n sent none = none
  told_replied (Err fault.Write) had has failed status text n sent none = none
  told_replied (Err fault.Store) had has failed status text n sent none = absurd sent
  told_replied (Err fault.Read) had has failed status text n sent none = absurd sent
  told_replied (Err fault.Memory) had has failed status text n sent none = absurd sent

  module _ (bytes : List ℕ) (old new : Seen) (had has : Option (List ℕ)) (failed : Bool) (before after : Option State → Type 0) (crash : ImportsAreRuns imports begins → new.corruptions ≡ 0 → old.defects ≡ 0 → FindsLeft after old.state bytes)
      (shut : new.corruptions ≡ 0 → ¬ (old.defects ≡ 0) → FindsNoMore before after) where
    ended : {T : Type 0} (given : Result T Fault) (result : Result Served ServeFault) → StaysReliable old new given → Ends shows imports begins bytes old new had has failed result → (old.refusals ≡ 0 → IsToldIn result new.refusals)
        → Serves shows imports begins bytes old new had has failed before after result
    ended given result reliable ends told = record { ends = ends; defects_stay = reliable.defects_stay; corruptions_stay = reliable.corruptions_stay; stays = reliable.stays; crash = crash; shut = shut; told = told }

    -- the answer was sent
    pub answer-serves : {T : Type 0} (x : T) (result : Result Served ServeFault) (status : Status) (text : List ℕ) → StaysReliable old new (Ok x) → (new.corruptions ≡ 0 → Responds shows imports old.state bytes status text new.state)
        → SendsReply had has failed status text result → Serves shows imports begins bytes old new had has failed before after result
    answer-serves x result status text reliable response sent =
        ended (Ok x) result reliable (replied result bytes old new had has failed status text (inl (record { response = response; sure = λ honest sure. reliable.works honest sure })) sent)
        (λ none. told_replied result had has failed status text new.refusals sent (reliable.told none))

    excuse : (text : List ℕ) → IsApology bytes text → (new.defects ≡ 0 → Fails imports begins old.state bytes new.state) → IsExcused shows imports begins old bytes Unavailable text new
    excuse text is state = record { unavailable = refl; text_is = is; state = state }

    -- there was no room to answer
    pub excuse-serves : {T : Type 0} (result : Result Served ServeFault) (text : List ℕ) → StaysReliable {T = T} old new (Err Memory) → IsApology bytes text → (new.defects ≡ 0 → Fails imports begins old.state bytes new.state)
        → SendsReply had has failed Unavailable text result → Serves shows imports begins bytes old new had has failed before after result
    excuse-serves {T} result text reliable is state sent =
        ended {T = T} (Err Memory) result reliable (replied result bytes old new had has failed Unavailable text (inr (excuse text is state)) sent) (λ none. told_replied result had has failed Unavailable text new.refusals sent (reliable.told none))

    -- the records failed
    pub shut-serves : {T : Type 0} {E : Type 0} (sending : Result (Unit {0}) E) (text : List ℕ) → StaysReliable {T = T} old new (Err Store) → IsApology bytes text → (new.defects ≡ 0 → Fails imports begins old.state bytes new.state)
        → OnOk sending (Appends had has text) → OnErr sending (AppendsPrefix had has text) → OnErr sending (IsTrue failed) → Serves shows imports begins bytes old new had has failed before after (Err fault.Store)
    shut-serves {T} {E} (Ok x) text reliable is state all part broken = ended {T = T} (Err Store) (Err fault.Store) reliable (text, excuse text is state, inl all) reliable.told
    shut-serves {T} {E} (Err e) text reliable is state all part broken = ended {T = T} (Err Store) (Err fault.Store) reliable (text, excuse text is state, inr (broken, part)) reliable.told
