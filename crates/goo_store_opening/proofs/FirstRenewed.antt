-- Tables of version 1 that were renewed, or not.
use Rattle.std.proofs.Common.{◌≡◌, IfErr, IsTrue, OnOk, Result, Ok, Err}
use Rattle.sqlite.specs.State.{State}
use Rattle.sqlite.specs.Effect.{IsDatabase}
use Rattle.goo_tables_rows.specs.Columns.{first_schema}
use Rattle.goo_store_open.specs.declared.fault.OpenFault.{OpenFault}
use Rattle.goo_store_opening.specs.FirstTables.{Renews}
use Rattle.goo_store_opening.specs.UpToDate.{IsUpToDate, IsNotOpened}
use Rattle.goo_store_opening.proofs.HeldLemmas.{state_renewed}
use Rattle.goo_store_opening.proofs.FirstTables.{renewed_well, same_state, now_renewed, first_not_ours}
use Rattle.goo_store_opening.proofs.Reopened.{listed_again}

module _ {T : Type 0} (old new : State) (listed : IsTrue old.is_open → IsDatabase old.now) (schema : old.now.schema ≡ first_schema) where
  pub first_up_to_date : (r : Result T OpenFault) → Renews old new r → OnOk r (IsUpToDate old new)
  first_up_to_date (Err fault) renews = tt
  first_up_to_date (Ok x) renews = record {
    state = λ t stands. absurd (first_not_ours old.now schema stands.schema);
    same_state = same_state old new x renews;
    held = state_renewed old new x renews;
    kept = λ t stands. absurd (first_not_ours old.now schema stands.schema);
    rests = λ other. absurd (other schema);
    renewed = now_renewed old new x renews;
    clean = renews.clean;
    works = renews.works;
    well = renewed_well old new x renews;
    again = λ was s t either none. absurd (listed_again old.now (listed was) s t either (first_not_ours old.now schema));
  }

  pub first_not_opened : (r : Result T OpenFault) → Renews old new r → IfErr r (IsNotOpened old new)
  first_not_opened (Ok x) renews = tt
  first_not_opened (Err fault) renews = record {
    refused = λ clean unlimited t stands kept. absurd (first_not_ours old.now schema stands.schema);
    words = λ clean unlimited t stands. absurd (first_not_ours old.now schema stands.schema);
    old_words = renews.words;
    version = λ ours first. absurd (first schema);
    blames = λ ours. absurd (first_not_ours old.now schema ours);
    unchanged = renews.rests;
    clean_before = renews.clean;
    crash = λ other. absurd (other schema);
    left = renews.crash;
    never_foreign = λ was unlimited s t either clean. absurd (listed_again old.now (listed was) s t either (first_not_ours old.now schema));
  }
