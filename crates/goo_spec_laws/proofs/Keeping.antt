-- The dates of lots are kept by any list of requests.
use Rattle.std.proofs.Common.{◌≡◌, List, refl, sym, subst}
use Rattle.goo_types.specs.declared.place.Place.TheVariants.{Held}
use Rattle.goo_types.specs.declared.request.Request.{Request}
use Rattle.goo_spec.specs.State.{State}
use Rattle.goo_spec.specs.Run.{final}
use Rattle.goo_spec.specs.Sound.{IsSound}
use Rattle.goo_spec.specs.Obeys.{AllObey}
use Rattle.goo_spec.proofs.Stepping.{sound_final}
use Rattle.goo_spec_laws.specs.Ways.{Known}
use Rattle.goo_spec_laws.proofs.Lists.{each_by_right}
use Rattle.goo_spec_laws.specs.Deadlines.{IsWith, IsInTime, AlwaysInTime}
use Rattle.goo_spec_laws.proofs.Closing.{closed_stays}
use Rattle.goo_spec_laws.proofs.Ending.{was_cancelled, was_expired}

pub always_in_time : AlwaysInTime
always_in_time s qs obey sound =
    let moves = each_by_right s qs obey sound in
    let after = sound_final s qs obey sound in
    record {
      closed = λ n account lot is closed. closed_stays n account lot s qs moves closed (subst (λ (o : Known). IsWith account lot o) (sym is) (refl, refl, refl));
      cancelled = λ n account act lot is. was_cancelled n account lot s qs moves act is;
      expired = λ n account lot is. was_expired n account lot s qs moves is;
      held = λ n account lot is. after.times.current n lot (Held account) is refl;
    }

-- of a state that is the last of a run
pub in_time : (s t : State) (qs : List Request) → AllObey qs → IsSound s → t ≡ final s qs → IsInTime s qs t
in_time s t qs obey sound is = subst (λ (u : State). IsInTime s qs u) (sym is) (always_in_time s qs obey sound)
