-- A correction that is accepted can be answered, where its row gets a number.
use Rattle.std.proofs.Common.{◌≡◌, ◌<◌, ◌^◌, ℕ, List, is_some, IsTrue, Option, Some, None, refl, ap, sym, subst, ◌∙◌, arith}
use Rattle.std.specs.Prelude.{◌%◌, ◌-◌}
use Rattle.goo_types.specs.Range.{Numbers}
use Rattle.goo_types.specs.declared.command.Correct.{Correct}
use Rattle.goo_types.specs.declared.reply.Reply.{Reply}
use Rattle.goo_spec.specs.Correct.{correct_refusal, correct_reply, count_in, withdrawal_for}
use Rattle.goo_spec.specs.Energy.{certificate, remaining}
use Rattle.goo_spec.specs.State.{State}
use Rattle.goo_spec.proofs.Correcting.{checks_met, withdrawal_passes}
use Rattle.goo_core_shelf.specs.declared.found.Progress.{Progress}
use Rattle.goo_tables_rows.specs.Rows as row
use Rattle.goo_tables_rows.specs.Rows.{Tables, correction_key, meta_in}
use Rattle.goo_tables_rows.specs.declared.meta.MetaRow.{MetaRow}
use Rattle.goo_spec_tables.specs.Kept.{AreKept}
use Rattle.goo_spec_tables.specs.Readable.{is_act, is_meta}
use Rattle.goo_spec_tables.specs.States.{state_of}
use Rattle.goo_store_plans.specs.AtHand.{HasRoom}
use Rattle.goo_store_plans.specs.Correcting.{CanAnswerCorrection, CanTakeOut, IsBasis}
use Rattle.goo_store_plans.specs.Found.{IsBasisOf}
use Rattle.goo_store_plans.specs.declared.known_rows.KnownBasis.{KnownBasis}
use Rattle.goo_store_plans.specs.Progressing.{HasEnded}
use Rattle.goo_store_plans.specs.declared.correction_basis.CorrectionBasis.{CorrectionBasis}
use Rattle.goo_store_plans.proofs.Lowered.{has_ended}
use Rattle.goo_store_plans.proofs.NeedsNumbers.{withdrawal_left}

-- where one correction more gets a number, the next one has it
pub basis_room : (t : Tables) → HasRoom 1 correction_key t.corrections → HasRoom 0 correction_key t.corrections
basis_room t room n next = let left = room n next in omega (arith, left)

pub basis_low : (t : Tables) → HasRoom 1 correction_key t.corrections → (gsrn : List ℕ) (found : CorrectionBasis) → IsBasis t gsrn found → found.number < 2 ^ 63
basis_low t room gsrn found basis = let left = room found.number basis.number in omega (arith, left)

module _ (t : Tables) (kept : AreKept t) (caller : List ℕ) (x : Correct) (none : correct_refusal (state_of t) caller x ≡ None) (meta : MetaRow) (same : t.meta ≡ meta_in meta) where
  abbrev s : State
  s = state_of t

  -- its declaration is one of the device's periods
  ended : HasEnded t x.device
  ended =
      let met = checks_met s caller x none in
      ap (λ (p : Progress). is_some p.last_day) (kept.progress x.device) ∙ has_ended x.device x.first_day None s.declarations met.declaration met.found

  takes : (o : Option Numbers) → x.range ≡ o → CanTakeOut meta o
  unfolding state_of
  takes None is = tt
  takes (Some range) is = subst (λ (m : row.Meta). IsTrue (is_act m.next_withdrawal)) same (withdrawal_left s kept.sound caller (record { range = range; reason = x.reason }) (withdrawal_passes s caller x range is none))

  pub can_answer_correction : (basis : KnownBasis) → IsBasisOf basis t → HasRoom 1 correction_key t.corrections → (reply : Reply) → correct_reply s x ≡ reply → CanAnswerCorrection t basis meta x reply
  unfolding correct_reply
  can_answer_correction basis is room reply states = record {
    carry = (remaining s x.device - x.less) % certificate;
    count = count_in x.range;
    withdrawal = withdrawal_for s x.range;
    reply_is = sym states;
    can = record {
      kept_is = is;
      row = ap is_meta (sym same) ∙ kept.readable.meta;
      takes = takes x.range refl;
      carry_fits = omega arith;
      ended = ended;
      corrections = room;
    };
  }
