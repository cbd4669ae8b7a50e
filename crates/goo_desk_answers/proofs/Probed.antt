-- A call of a desk once what keeps the records was probed.
use Rattle.std.proofs.Common.{◌≡◌, ◌≢◌, ◌∙◌, inl, inr, List, ℕ, Result, Ok, Err, IfOk, OnErr, sym, subst, ap}
use Rattle.goo_types.specs.declared.fault.Fault.{Fault}
use Rattle.goo_types.specs.declared.fault.Fault.TheVariants.{Store, Memory}
use Rattle.goo_core_shelf.specs.Shelf.{IsTold}
use Rattle.goo_core_shelf.specs.Desk.{Seen, Probes}
use Rattle.goo_desk_heads.specs.Requests.{Decides, Parts}
use Rattle.goo_desk_heads.specs.declared.request.RefusedHead.{RefusedHead}
use Rattle.goo_desk_backend.specs.Backends.{Showing, Importing, Beginning}
use Rattle.goo_desk_lines.proofs.Staying.{stays_both}
use Rattle.goo_desk_answers.specs.Reliable.{StaysReliable}
use Rattle.goo_desk_answers.specs.Responds.{RespondsTo, Responds, StopsAt, Fails}
use Rattle.goo_desk_answers.specs.declared.answered.Answer.{Answer}
use Rattle.goo_spec.specs.State.{State}

-- an answered probe leaves the state as it was
pub same_state : (old mid : Seen) → Probes old mid (Ok tt) → mid.corruptions ≡ 0 → mid.state ≡ old.state
same_state old mid probe honest = probe.same (probe.works honest)

-- and so it is as reliable after the next call as that call says
pub reliable_after : {T : Type 0} (old mid new : Seen) (r : Result T Fault) → Probes old mid (Ok tt) → StaysReliable mid new r → StaysReliable old new r
reliable_after old mid new r probe next = record {
  defects_stay = λ none. probe.defects_stay (next.defects_stay none);
  corruptions_stay = λ none. probe.corruptions_stay (next.corruptions_stay none);
  told = λ _. next.told probe.told;
  works = λ honest sure. next.works honest (probe.works (next.corruptions_stay honest));
  stays = λ honest sure. stays_both old mid new (probe.stays (next.corruptions_stay honest) sure) (next.stays honest (probe.works (next.corruptions_stay honest)));
}

told_as : (T : Type 0) (f : Fault) (refusals : ℕ) → IsTold {T = Unit {0}} (Err f) refusals → IsTold {T = T} (Err f) refusals
told_as T Store refusals told = told
told_as T Memory refusals told = told

-- a probe that failed
pub reliable_failed : (T : Type 0) (old new : Seen) (f : Fault) → Probes old new (Err f) → StaysReliable {T = T} old new (Err f)
reliable_failed T old new f probe = record {
  defects_stay = probe.defects_stay;
  corruptions_stay = probe.corruptions_stay;
  told = λ _. told_as T f new.refusals probe.told;
  works = λ honest sure. tt;
  stays = probe.stays;
}

-- nothing stands where nothing was changed
pub stops_still : (imports : Importing) (begins : Beginning) (s after : State) (d : Result Parts RefusedHead) → after ≡ s → StopsAt imports begins s d after
stops_still imports begins s after (Err refused) same = same
stops_still imports begins s after (Ok p) same = inl same

module _ (shows : Showing) (imports : Importing) (begins : Beginning) (old mid new : State) (bytes : List ℕ) (d : Result Parts RefusedHead) (decides : Decides bytes d) (same : mid ≡ old) where
  -- the answer to the bytes, of the state before the probe
  pub answered_after : (r : Result Answer Fault) → IfOk r (λ answer. RespondsTo shows imports mid d answer.status answer.bytes.items new) → IfOk r (λ answer. Responds shows imports old bytes answer.status answer.bytes.items new)
  answered_after (Ok answer) responds = (d, decides, subst (λ s. RespondsTo shows imports s d answer.status answer.bytes.items new) same responds)
  answered_after (Err f) responds = tt

  pub stopped_after : (r : Result Answer Fault) → OnErr r (StopsAt imports begins mid d new) → OnErr r (Fails imports begins old bytes new)
  stopped_after (Ok answer) stops = tt
  stopped_after (Err f) stops = (d, decides, subst (λ s. StopsAt imports begins s d new) same stops)
