-- What never changes again, through any list of requests.
use Rattle.std.proofs.Common.{◌≡◌, List, sym, subst₂}
use Rattle.goo_types.specs.declared.request.Request.{Request}
use Rattle.goo_types.specs.declared.outcome.Outcome.{Outcome}
use Rattle.goo_spec.specs.State.{State}
use Rattle.goo_spec.specs.Run.{outcomes, final}
use Rattle.goo_spec.specs.Sound.{IsSound}
use Rattle.goo_spec.specs.Obeys.{AllObey}
use Rattle.goo_spec.proofs.Receipts.{kept_final}
use Rattle.goo_spec_laws.proofs.Lists.{each_by_right}
use Rattle.goo_spec_laws.specs.Final.{IsForGood, NeverAgain}
use Rattle.goo_spec_laws.proofs.Places.{final_place, exported_place, same_lots}
use Rattle.goo_spec_laws.proofs.Issued.{unused_never, known_never, issued_once}
use Rattle.goo_spec_laws.proofs.Records.{records_kept}

pub never_again : NeverAgain
never_again s qs obey sound =
    let moves = each_by_right s qs obey sound in
    record {
      places = λ n lot place is stays. final_place n lot place s qs moves is stays;
      exported = λ n lot place is out. exported_place n lot place s qs moves is out;
      lots = λ n lot has. same_lots n lot s qs moves has;
      known = λ n there. known_never n s qs obey sound there;
      serials = λ n own below. unused_never n s qs own below;
      once = λ n. issued_once n s qs obey sound;
      receipts = λ caller key receipt kept. kept_final (caller, key) receipt s qs kept;
      records = records_kept s qs obey sound;
    }

-- of a run that answered by the definitions
pub for_good : (s t : State) (qs : List Request) (given : List Outcome) → AllObey qs → IsSound s → given ≡ outcomes s qs → t ≡ final s qs → IsForGood s qs given t
for_good s t qs given obey sound given_is is = subst₂ (λ (os : List Outcome) (u : State). IsForGood s qs os u) (sym given_is) (sym is) (never_again s qs obey sound)
