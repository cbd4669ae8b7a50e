-- What a statement that is prepared and not run says of the database.
use Rattle.std.specs.Prelude.{⊤}
use Rattle.std.proofs.Common.{◌≡◌, inl, inr, List, ℕ, [], codes, length, true, Err, IsTrue, refl}
use Rattle.sqlite_tied.specs.Compute.{everything}
use Rattle.sqlite.specs.Listing.{understood}
use Rattle.sqlite.specs.Order.{Row}
use Rattle.sqlite.specs.State.{State, HasCleanDisk, IsNotRun, Survives}
use Rattle.sqlite.specs.declared.error.Error.{Error}
use Rattle.sqlite.proofs.Callers.{IsPlain}
use Rattle.goo_tables_rows.specs.Columns.{registry_schema}
use Rattle.goo_tables_rows.specs.Refused.{is_whole, FailsOnlyByFault}
use Rattle.goo_tables_rows.specs.Stands.{Looks, Rests, IsSettled}
use Rattle.goo_tables_rows.proofs.Reading.{rests_unchanged, rests_undone}
use Rattle.goo_tables_rows.proofs.Refusing.{fault_of, runs_on}

abbrev text : List ℕ
text = codes "SELECT version FROM meta"

plain : IsPlain (understood registry_schema text)
unfolding understood everything
plain = (refl, refl)

whole : is_whole (length text) 0 (understood registry_schema text) ≡ true
unfolding understood everything
whole = refl

module _ (old new : State) where
  -- it was refused, whatever parameters were to come
  abbrev pub IsUnprepared : Error → Type 0
  IsUnprepared e = (params : Row) → IsNotRun old new text params e

  rests_unprepared : (e : Error) → IsSettled old → IsUnprepared e → Rests old new
  unfolding IsNotRun
  rests_unprepared e settled not_run = elim (not_run []) [ inl it ↦ rests_unchanged old new it.1 | inr failed ↦ rests_undone old new settled failed.3 ]

  was_open : (e : Error) → IsUnprepared e → IsTrue new.is_open → IsTrue old.is_open
  unfolding IsNotRun
  was_open e not_run live = elim (not_run []) [ inl it ↦ it.1.0.was_open | inr failed ↦ failed.3.was_open live ]

  pub unready : (e : Error) → (HasCleanDisk new → IsUnprepared e) → Survives old new (λ _. ⊥) → Looks {T = Unit {0}} old new (Err e) (λ _ _. ⊤)
  unready e not_run survives = record {
    found = λ clean t stands. tt;
    clean = survives.clean;
    works = tt;
    was_open = λ clean. was_open e (not_run clean);
    rests = λ clean has settled. rests_unprepared e settled (not_run clean);
    crash = λ has. survives;
  }

  pub faulty : (e : Error) → (HasCleanDisk new → IsUnprepared e) → FailsOnlyByFault {T = Unit {0}} old new (Err e) (λ _. ⊤)
  unfolding IsNotRun
  faulty e not_run clean unlimited t stands readable =
      elim (not_run clean []) [ inl it ↦ absurd (runs_on registry_schema text [] old e stands.schema whole plain it.0) | inr failed ↦ fault_of old new e failed ]
