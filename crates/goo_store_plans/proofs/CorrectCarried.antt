-- An accepted correction, carried out by changes.
use Rattle.std.proofs.Common.{◌≡◌, ℕ, pos, List, [], ◌++◌, Option, Some, None, Result, Ok, Err, IfOk, Vec, refl, ap, sym, subst, ◌∙◌}
use Rattle.std.specs.Prelude.{filter}
use Rattle.std.proofs.lemmas.List.Sums.{fold-append}
use Rattle.std.specs.Global.{Global}
use Rattle.sqlite_keyed.specs.Keyed.{IsKeyedBy, next_key, has_key, get_by}
use Rattle.sqlite_keyed.proofs.KeyedLemmas.{next_key_is_free}
use Rattle.sqlite_typed.specs.Tests.{bytes_eq}
use Rattle.goo_types.specs.Range.{Numbers}
use Rattle.goo_types.specs.declared.command.Command.TheVariants as command
use Rattle.goo_types.specs.declared.command.Correct.{Correct}
use Rattle.goo_types.specs.declared.reply.Reply.TheVariants.{Corrected}
use Rattle.goo_spec.specs.Correct.{correct_refusal, correct_reply, correction_of, taken_out, with_correction}
use Rattle.goo_spec.specs.State.{State}
use Rattle.goo_spec.proofs.Correcting.{withdrawal_passes}
use Rattle.goo_tables_rows.specs.Once.{IsOnce}
use Rattle.goo_tables_rows.specs.Rows as row
use Rattle.goo_tables_rows.specs.Rows.{Tables, correction_in, correction_key, meta_in}
use Rattle.goo_tables_rows.specs.declared.meta.MetaRow.{MetaRow}
use Rattle.goo_tables_accounts.specs.Changes as change
use Rattle.goo_spec_tables.specs.Devices.{device_row, progress_in}
use Rattle.goo_spec_tables.specs.Kept.{AreKept}
use Rattle.goo_spec_tables.specs.Records as record_of
use Rattle.goo_spec_tables.specs.States.{state_of}
use Rattle.goo_store_plans.specs.Acted.{IsActed}
use Rattle.goo_store_plans.specs.Carried.{AreInOrder, Carry, Does}
use Rattle.goo_store_changes.specs.Changes.{made, made_all, IsFor, AreFor, IsFree, AreFree, HasRoom, HaveRoom}
use Rattle.goo_store_plans.specs.Correcting.{IsBasis, LeavesThese, Lowers, TakesOut}
use Rattle.goo_store_plans.specs.Room.{HaveRowids}
use Rattle.goo_store_changes.specs.declared.table_change.TableChange.{TableChange}
use Rattle.goo_store_changes.specs.declared.table_change.TableChange.TheVariants.{AddCorrection}
use Rattle.goo_store_plans.specs.declared.correction_basis.CorrectionBasis.{CorrectionBasis}
use Rattle.goo_store_values.specs.declared.statement_fault.StatementFault.{StatementFault}
use Rattle.goo_store_plans.proofs.CommandsActed.{quiet}
use Rattle.goo_store_plans.proofs.CorrectingActed.{correcting_acted}
use Rattle.goo_store_plans.proofs.DeclareCarried.{once_from}
use Rattle.goo_store_plans.proofs.InTurn.{none_in_turn, two_in_turn, both_in_turn}
use Rattle.goo_store_plans.proofs.LotsAdded.{none_there}
use Rattle.goo_store_plans.proofs.Lowered.{carry_stated, with_correction_is, withdrawal_stated}
use Rattle.goo_store_plans.proofs.SmallRows.{progressed_kept, small_correction}

-- ---- the certificates in excess

-- nothing is taken out
pub nothing_taken : (t : Tables) → AreKept t → TakesOut t (state_of t) []
nothing_taken t kept = record {
  for = none_in_turn IsFor t;
  free = none_in_turn IsFree t;
  room = λ can. none_in_turn HasRoom t;
  acted = quiet t t (state_of t) kept refl refl refl refl refl refl refl refl (λ at. refl) kept.readable;
  lots = refl;
  these = record { devices = refl; corrections = refl };
}

-- a range is taken out as a withdrawal takes it
pub range_taken : (t : Tables) (caller : List ℕ) (x : Correct) (range : Numbers) → x.range ≡ Some range → AreKept t → AreInOrder t → correct_refusal (state_of t) caller x ≡ None
    → (changes : List TableChange) → Does t (command.Withdraw (record { range = range; reason = x.reason })) changes → LeavesThese t (made_all t changes) → TakesOut t (taken_out (state_of t) x x.range) changes
range_taken t caller x range is kept order accepted changes does these =
    let it = does kept order caller (withdrawal_passes (state_of t) caller x range is accepted) in
    subst (λ o. TakesOut t (taken_out (state_of t) x o) changes) (sym is) (record { for = it.for; free = it.free; room = it.room; acted = it.acted; lots = it.lots; these = these })

both_ok : {X : Type 0} (r : Result X StatementFault) (P Q R : X → Type 0) → IfOk r P → IfOk r Q → ((x : X) → P x → Q x → R x) → IfOk r R
both_ok (Ok x) P Q R p q says = says x p q
both_ok (Err e) P Q R p q says = tt

pub ranges_taken : (meta : MetaRow) (x : Correct) (range : Numbers) → x.range ≡ Some range → (r : Result (Vec TableChange Global) StatementFault)
    → IfOk r (λ changes. (t : Tables) → t.meta ≡ meta_in meta → Does t (command.Withdraw (record { range = range; reason = x.reason })) changes.items) → IfOk r (λ changes. (t : Tables) → LeavesThese t (made_all t changes.items))
    → IfOk r (λ changes. (t : Tables) → t.meta ≡ meta_in meta → AreKept t → AreInOrder t → (caller : List ℕ) → correct_refusal (state_of t) caller x ≡ None → TakesOut t (taken_out (state_of t) x x.range) changes.items)
ranges_taken meta x range is r does these =
    both_ok r _ _ _ does these (λ changes one two t told kept order caller accepted. range_taken t caller x range is kept order accepted changes.items (one t told) (two t))

-- ---- and then the correction

module _ (t : Tables) (kept : AreKept t) (order : AreInOrder t) (x : Correct) (carry count : ℕ) (withdrawal : Option ℕ) (replied : correct_reply (state_of t) x ≡ Corrected carry count withdrawal)
    (found : CorrectionBasis) (basis : IsBasis t x.device found) (front : List TableChange) (taken : TakesOut t (taken_out (state_of t) x x.range) front)
    (back : List TableChange) (lowers : Lowers x carry withdrawal found back) where
  abbrev s : State
  s = state_of t

  -- the tables when the certificates are taken out
  abbrev u : Tables
  u = made_all t front

  abbrev c : row.Correction
  c = correction_in lowers.row

  numbered : correction_key c ≡ next_key correction_key u.corrections
  numbered = ap pos lowers.id ∙ basis.number ∙ ap (next_key correction_key) (sym taken.these.corrections)

  rise : IsKeyedBy correction_key u.corrections
  rise = subst (IsKeyedBy correction_key) (sym taken.these.corrections) order.corrections

  ended : (progress_in (device_row u.devices x.device)).last_day ≡ Some found.last_day
  ended = ap (λ ds. (progress_in (device_row ds x.device)).last_day) taken.these.devices ∙ basis.last_day

  states : record_of.correction_of c ≡ correction_of s x
  states = lowers.states ∙ (λ i. record { device = x.device; first_day = x.first_day; less = x.less; withdrawal = sym (withdrawal_stated s x carry count withdrawal replied) i })

  abbrev corrected : Tables
  corrected = change.with_progress (change.with_correction u c) x.device lowers.sets.last_day carry

  acted : IsActed t corrected (with_correction s x)
  acted =
      subst (IsActed t corrected) (with_correction_is s x)
      (correcting_acted t u (taken_out s x x.range) taken.acted c (correction_of s x) states lowers.reads_row numbered rise found.last_day ended lowers.sets.last_day lowers.sets.ends lowers.sets.ends_read
      carry (carry_stated s x carry count withdrawal replied))

  once : IsOnce (filter (λ k. bytes_eq k.1.gsrn x.device) u.devices)
  once = once_from (filter (λ k. bytes_eq k.1.gsrn x.device) u.devices) (taken.acted.devices x.device)

  all_made : made_all t (front ++ back) ≡ corrected
  all_made = fold-append made t front back ∙ ap (made_all u) lowers.changes_are ∙ lowers.sets.made_is (change.with_correction u c)

  -- no correction has its number yet
  correction_free : IsFree u (AddCorrection lowers.row)
  correction_free = none_there (get_by correction_key u.corrections (pos lowers.row.id)) (ap (has_key correction_key u.corrections) numbered ∙ next_key_is_free correction_key u.corrections rise)

  progress_room : HaveRowids t → HasRoom (change.with_correction u c) lowers.progress
  progress_room can =
      lowers.sets.room (change.with_correction u c)
      (subst (λ ds. Rattle.std.specs.Prelude.All (λ k. Rattle.goo_tables_rows.specs.Refused.CanBeKept (row.device_row (change.progressed lowers.sets.last_day carry k))) ds) (sym taken.these.devices)
      (progressed_kept lowers.sets.last_day carry lowers.sets.ends_read t.devices kept.readable.devices can.devices_there))

  -- both together
  pub correct_carried : Carry t (command.Correct x) (front ++ back)
  correct_carried = record {
    for =
        both_in_turn IsFor t front back taken.for
        (subst (AreFor u) (sym lowers.changes_are) (two_in_turn IsFor u (AddCorrection lowers.row) lowers.progress tt (lowers.sets.for (change.with_correction u c) once)));
    free =
        both_in_turn IsFree t front back taken.free
        (subst (AreFree u) (sym lowers.changes_are) (two_in_turn IsFree u (AddCorrection lowers.row) lowers.progress correction_free (lowers.sets.free (change.with_correction u c) once)));
    room = λ can.
        both_in_turn HasRoom t front back (taken.room can)
        (subst (HaveRoom u) (sym lowers.changes_are) (two_in_turn HasRoom u (AddCorrection lowers.row) lowers.progress (small_correction c lowers.reads_row) (progress_room can)));
    acted = subst (λ v. IsActed t v (with_correction s x)) (sym all_made) acted;
    lots = ap (λ (v : Tables). v.lots) all_made ∙ taken.lots;
  }
