-- A text that was written in memory, as it is shown.
use Rattle.std.proofs.Common.{◌≡◌, ℕ, List, [], Option, Some, Result, Ok, Err, Vec, sym, subst}
use Rattle.std.specs.Global.{Global}
use Rattle.goo_core_shelf.specs.Shelf.{Moment, StaysSure}
use Rattle.goo_core_shelf.specs.Desk as desk
use Rattle.goo_registry.specs.Desks.{seen_of}
use Rattle.goo_core_reads.specs.declared.denial.Denial.{Denial}
use Rattle.goo_core_reads.specs.declared.denial.Denial.TheVariants as denied
use Rattle.goo_files.specs.Writes.{Writes}
use Rattle.goo_files.specs.declared.text_fault.ShowFault.{ShowFault}
use Rattle.goo_files.specs.declared.text_fault.ShowFault.TheVariants as fault
use Rattle.goo_desk_routes.specs.declared.task.Subject.{Subject}
use Rattle.goo_desk_backend.specs.Backends.{Shows}
use Rattle.goo_desk_backend.specs.Results.{shown_as}
use Rattle.goo_desk_backend.specs.Showing.{shown_by, IsTextUnless}

-- a registry's moments, as a desk's
pub stays_seen : (old new : Moment) → StaysSure old new → desk.StaysSure (seen_of old) (seen_of new)
stays_seen old new stays = record { counts = stays.counts; sure = stays.sure }

pub shows-text : (old new : Moment) (caller : List ℕ) (subject : Subject) (bytes : Vec ℕ Global) (before : List ℕ) (written : Result (Unit {0}) ShowFault) (denial : Option Denial) (right : List ℕ → Type 0)
    → before ≡ []
    → ((given : Result (List ℕ) Denial) → IsTextUnless denial right given → shown_by old.state caller subject given)
    → Writes old new (Some before) (Some bytes.items) written denial (λ u. right)
    → Shows shown_by (seen_of old) (seen_of new) caller subject (shown_as bytes written)
shows-text old new caller subject bytes before (Ok u) denial right none is w = record {
  text = λ fine. let (text, good, appended) = w.whole fine in is (Ok bytes.items) (w.shown fine, subst right (sym (rw none at appended)) good);
  same = w.looks.same;
  works = w.looks.works;
  defects_stay = w.looks.defects_stay;
  corruptions_stay = w.looks.corruptions_stay;
  told = w.looks.told;
  stays = λ honest sure. stays_seen old new (w.looks.stays honest sure);
}
shows-text old new caller subject bytes before (Err fault.NotAllowed) denial right none is w = record {
  text = λ fine. is (Err denied.NotAllowed) (w.denied fine);
  same = w.looks.same;
  works = w.looks.works;
  defects_stay = w.looks.defects_stay;
  corruptions_stay = w.looks.corruptions_stay;
  told = w.looks.told;
  stays = λ honest sure. stays_seen old new (w.looks.stays honest sure);
}
shows-text old new caller subject bytes before (Err fault.Unknown) denial right none is w = record {
  text = λ fine. is (Err denied.Unknown) (w.denied fine);
  same = w.looks.same;
  works = w.looks.works;
  defects_stay = w.looks.defects_stay;
  corruptions_stay = w.looks.corruptions_stay;
  told = w.looks.told;
  stays = λ honest sure. stays_seen old new (w.looks.stays honest sure);
}
shows-text old new caller subject bytes before (Err fault.Write) denial right none is w = record {
  text = λ fine. tt;
  same = w.looks.same;
  works = tt;
  defects_stay = w.looks.defects_stay;
  corruptions_stay = w.looks.corruptions_stay;
  told = w.looks.told;
  stays = λ honest sure. stays_seen old new (w.looks.stays honest sure);
}
shows-text old new caller subject bytes before (Err fault.Store) denial right none is w = record {
  text = λ fine. tt;
  same = w.looks.same;
  works = tt;
  defects_stay = w.looks.defects_stay;
  corruptions_stay = w.looks.corruptions_stay;
  told = w.looks.told;
  stays = λ honest sure. stays_seen old new (w.looks.stays honest sure);
}
shows-text old new caller subject bytes before (Err fault.Memory) denial right none is w = record {
  text = λ fine. tt;
  same = w.looks.same;
  works = tt;
  defects_stay = w.looks.defects_stay;
  corruptions_stay = w.looks.corruptions_stay;
  told = w.looks.told;
  stays = λ honest sure. stays_seen old new (w.looks.stays honest sure);
}
