-- An accepted request has what its changes need of the tables, where the rows that it puts in get numbers.
use Rattle.std.proofs.Common.{◌≡◌, ◌≢◌, ℕ, IsTrue, Option, None, refl, ap, sym, subst, ◌∙◌}
use Rattle.goo_types.specs.Obeys.{Obeys}
use Rattle.goo_types.specs.declared.command.Command.{Command}
use Rattle.goo_types.specs.declared.command.Command.TheVariants.{OpenHolder, OpenAccount, CloseAccount, RegisterDevice, Declare, Correct, Transfer, Cancel, Withdraw, Advance, AddPeer, Export, Import}
use Rattle.goo_types.specs.declared.command.Correct.{Correct as Correction}
use Rattle.goo_types.specs.declared.command.Declare.{Declare as Declaration}
use Rattle.goo_spec.specs.Step.{refusal, reply_to}
use Rattle.goo_spec.proofs.Again.{accepted_reply}
use Rattle.goo_spec.proofs.Stepping.{accepted_passes}
use Rattle.goo_core_shelf.specs.Plan.{Fits, notice_sent}
use Rattle.goo_core_shelf.specs.declared.plan.Plan.{Plan}
use Rattle.goo_tables_rows.specs.Rows as row
use Rattle.goo_tables_rows.specs.Rows.{Tables, meta_in}
use Rattle.goo_tables_rows.specs.declared.meta.MetaRow.{MetaRow}
use Rattle.goo_spec_tables.specs.Kept.{AreKept}
use Rattle.goo_spec_tables.specs.Places.{rows_of}
use Rattle.goo_spec_tables.specs.Readable.{is_act}
use Rattle.goo_spec_tables.specs.States.{state_of}
use Rattle.goo_store_plans.specs.Acted.{HasKeptNumbers}
use Rattle.goo_store_plans.specs.Carried.{CanTakeNumber}
use Rattle.goo_store_plans.specs.Found.{IsRowOf, IsBasisOf}
use Rattle.goo_store_plans.specs.Needing.{CanGoByRow}
use Rattle.goo_store_plans.specs.PlanNeeds.{CanGo, HasRoomFor}
use Rattle.goo_store_plans.specs.declared.known_rows.KnownBasis.{KnownBasis}
use Rattle.goo_store_plans.proofs.NeedsNumbers.{account_left, cancellation_left, withdrawal_left, notice_left}
use Rattle.goo_store_plans.proofs.NeedsCorrecting.{can_answer_correction}
use Rattle.goo_store_plans.proofs.NeedsDeclaring.{can_be_answered}
use Rattle.goo_store_plans.proofs.NeedsReply as replying

module _ (t : Tables) (kept : AreKept t) (plan : Plan) (fits : Fits (state_of t) (rows_of t) plan) where
  none : refusal (state_of t) plan.request.caller plan.request.command ≡ None
  none = accepted_passes (state_of t) plan.request plan.reply fits.accepted

  reply_is : reply_to (state_of t) plan.request.command ≡ plan.reply
  reply_is = accepted_reply (state_of t) plan.request plan.reply fits.accepted

  -- a receipt can keep the numbers of the reply
  pub kept_numbers : Obeys plan.request.command → HasKeptNumbers plan.reply
  kept_numbers obeys = subst HasKeptNumbers reply_is (replying.kept_numbers t kept plan.request.caller plan.request.command obeys none)

  refused_none : (c : Command) → plan.request.command ≡ c → refusal (state_of t) plan.request.caller c ≡ None
  refused_none c is = subst (λ d. refusal (state_of t) plan.request.caller d ≡ None) is none

  numbers_are : (number : row.Meta → ℕ) (meta : MetaRow) → t.meta ≡ meta_in meta → IsTrue (is_act (number t.meta)) → IsTrue (is_act (number (meta_in meta)))
  numbers_are number meta same left = subst (λ m. IsTrue (is_act (number m))) same left

  module _ (own : Option MetaRow) (own_is : IsRowOf own t) (basis : KnownBasis) (basis_is : IsBasisOf basis t) where
    by_row : HasRoomFor t plan.request.command → ((meta : MetaRow) → t.meta ≡ meta_in meta → ((x : Declaration) → plan.request.command ≢ Declare x) → ((x : Correction) → plan.request.command ≢ Correct x) → CanTakeNumber meta plan.request.command plan.notice) → CanGoByRow t own basis plan
    by_row room takes = record {
      own_is = own_is;
      declares = λ meta x same is.
          let left = subst (HasRoomFor t) is room in
          can_be_answered t kept plan.request.caller x (refused_none (Declare x) is) meta same basis basis_is left.0 left.1 plan.reply (ap (reply_to (state_of t)) (sym is) ∙ reply_is);
      corrects = λ meta x same is. can_answer_correction t kept plan.request.caller x (refused_none (Correct x) is) meta same basis basis_is (subst (HasRoomFor t) is room) plan.reply (ap (reply_to (state_of t)) (sym is) ∙ reply_is);
      takes = takes;
    }

    -- a command that takes a number, by the registry's row
    numbered : (c : Command) → plan.request.command ≡ c → HasRoomFor t c → ((meta : MetaRow) → t.meta ≡ meta_in meta → CanTakeNumber meta c (notice_sent (state_of t) c)) → CanGoByRow t own basis plan
    numbered c is room takes = by_row (subst (HasRoomFor t) (sym is) room)
        (λ meta same other too. subst (CanTakeNumber meta plan.request.command) (sym fits.sent) (subst (λ d. CanTakeNumber meta d (notice_sent (state_of t) d)) (sym is) (takes meta same)))

    so : (c : Command) → plan.request.command ≡ c → HasRoomFor t c → CanGo t own basis plan c
    unfolding state_of
    so (OpenAccount x) is room = numbered (OpenAccount x) is room (λ meta same. numbers_are (λ m. m.next_account) meta same (account_left (state_of t) kept.sound plan.request.caller x (refused_none (OpenAccount x) is)))
    so (Declare x) is room = by_row (subst (HasRoomFor t) (sym is) room) (λ meta same other too. absurd (other x is))
    so (Correct x) is room = by_row (subst (HasRoomFor t) (sym is) room) (λ meta same other too. absurd (too x is))
    so (Cancel x) is room = numbered (Cancel x) is room (λ meta same. numbers_are (λ m. m.next_cancellation) meta same (cancellation_left (state_of t) kept.sound plan.request.caller x (refused_none (Cancel x) is)))
    so (Withdraw x) is room = numbered (Withdraw x) is room (λ meta same. numbers_are (λ m. m.next_withdrawal) meta same (withdrawal_left (state_of t) kept.sound plan.request.caller x (refused_none (Withdraw x) is)))
    so (Export x) is room = numbered (Export x) is room (λ meta same. (numbers_are (λ m. m.next_notice) meta same (notice_left (state_of t) kept.sound plan.request.caller x (refused_none (Export x) is)), refl))
    so (Import x) is room = (basis_is.next_lot, room)
    so (OpenHolder x) is room = tt
    so (CloseAccount x) is room = tt
    so (RegisterDevice x) is room = tt
    so (Transfer x) is room = tt
    so (Advance x) is room = tt
    so (AddPeer x) is room = tt

    -- its command can go
    pub can_go : HasRoomFor t plan.request.command → CanGo t own basis plan plan.request.command
    can_go room = so plan.request.command refl room
