-- A new registry is refused for want of memory, or where the disk failed.
use Rattle.std.proofs.Common.{◌≡◌, inl, inr, ap, refl, sym, ◌∙◌, true≢false, None, Ok, Err, Result, IfErr, IsTrue}
use Rattle.sqlite_disk.specs.Disk.{MoreFaults}
use Rattle.sqlite.specs.State.{State, HasCleanDisk}
use Rattle.sqlite.specs.declared.error.Error.{Error}
use Rattle.goo_types.specs.Day.{CalendarDay}
use Rattle.goo_types.proofs.DayLemmas.{day_reading-day_text}
use Rattle.goo_tables_rows.specs.Refused.{IsFault, IsSmall}
use Rattle.goo_tables_rows.specs.Rows.{meta_row}
use Rattle.goo_spec_tables.specs.Readable.{reads}
use Rattle.goo_store_judge.specs.Opening.{BlamesOpening}
use Rattle.goo_store_open.specs.declared.fault.OpenFault.{OpenFault}
use Rattle.goo_store_values.specs.Passing.{IsStatementFaultOf, open_fault_of}
use Rattle.goo_store_values.specs.declared.statement_fault.StatementFault.{StatementFault}
use Rattle.goo_store_values.specs.declared.statement_fault.StatementFault.TheVariants.{Memory, Refused}
use Rattle.goo_store_plans.proofs.SmallRows.{small_meta}
use Rattle.goo_store_opening.specs.Creating.{meta_of, IsFirst}

-- the row of a new registry is small
pub first_small : (code : _) (today : CalendarDay) (next_serial : _) → IsFirst code today next_serial → IsSmall (meta_row (meta_of code today next_serial))
first_small code today next_serial it = small_meta (meta_of code today next_serial) (ap reads (day_reading-day_text today it.today))

-- a fault while the connection worked, told as a refusal
pub refused_faulty : (old new : State) (e : Error) (cause : StatementFault) → IsTrue old.is_open → IsFault old new e → IsStatementFaultOf e cause → cause ≡ Refused → MoreFaults old.faults new.faults
refused_faulty old new e Memory live fault of is = absurd cc
refused_faulty old new e Refused live (inl memory) of is = absurd (of memory)
refused_faulty old new e Refused live (inr (told, inl more)) of is = more
refused_faulty old new e Refused live (inr (told, inr shut)) of is = absurd (true≢false (sym live ∙ shut))

-- the same of what the error is handed on as
pub refused_told : {X : Type 0} (old new : State) (e : Error) (r : Result X StatementFault) → IsTrue old.is_open → IsFault old new e → IfErr r (IsStatementFaultOf e) → IfErr r (λ cause. cause ≡ Refused → MoreFaults old.faults new.faults)
refused_told old new e (Ok x) live fault of = tt
refused_told old new e (Err cause) live fault of = refused_faulty old new e cause live fault of

-- the word for it
pub word_blames : (old new : State) (cause : StatementFault) (f : OpenFault) → f ≡ open_fault_of cause → (HasCleanDisk new → IsTrue old.is_open → old.step_limit ≡ None → cause ≡ Refused → MoreFaults old.faults new.faults) → BlamesOpening old new f
word_blames old new Memory f word blames clean live unlimited is = absurd (let e = sym word ∙ is in cc)
word_blames old new Refused f word blames clean live unlimited is = blames clean live unlimited refl
