-- What a request to a registry does, as a desk's.
use Rattle.std.proofs.Common.{Result}
use Rattle.goo_core_shelf.specs.Desk as desk
use Rattle.goo_types.specs.declared.fault.Fault.{Fault}
use Rattle.goo_types.specs.declared.outcome.Outcome.{Outcome}
use Rattle.goo_types.specs.declared.request.Request.{Request}
use Rattle.std.specs.Prelude.{⊤}
use Rattle.goo_core_shelf.specs.Shelf.{Moment, Looks}
use Rattle.goo_registry.specs.Applying.{Applies}
use Rattle.goo_registry.specs.Desks.{seen_of}

-- a probe of what keeps the records, as the desk's
pub probed : (old new : Moment) (result : Result (Unit {0}) Fault) → Looks old new result (λ _. ⊤) → desk.Probes (seen_of old) (seen_of new) result
probed old new result look = record {
  same = look.same;
  works = look.works;
  defects_stay = look.defects_stay;
  corruptions_stay = look.corruptions_stay;
  told = look.told;
  stays = λ honest sure. record { counts = (look.stays honest sure).counts; sure = (look.stays honest sure).sure };
}

pub applied : (old new : Moment) (result : Result Outcome Fault) (q : Request) → Applies old new result q → desk.Applies (seen_of old) (seen_of new) q result
applied old new result q done = record {
  answer = done.answer;
  state = done.state;
  unchanged = done.unchanged;
  works = done.works;
  defects_stay = done.defects_stay;
  corruptions_stay = done.corruptions_stay;
  told = done.told;
  stays = λ honest sure. record { counts = (done.stays honest sure).counts; sure = (done.stays honest sure).sure };
}
