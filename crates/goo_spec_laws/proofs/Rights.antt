-- Each request leaves a certificate as it was, or moves it by right.
use Rattle.std.proofs.Common.{◌≡◌, ℕ, true, List, None, refl, sym, ◌∙◌, subst, inl, inr}
use Rattle.std.specs.Prelude.{◌⊎◌}
use Rattle.std.specs.FinMap.{get}
use Rattle.goo_types.specs.declared.command.Command.{Command}
use Rattle.goo_types.specs.declared.command.Command.TheVariants.{OpenHolder, OpenAccount, CloseAccount, RegisterDevice, Declare, Correct, Transfer, Cancel, Withdraw, Advance, AddPeer, Export, Import}
use Rattle.goo_types.specs.declared.request.Request.{Request}
use Rattle.goo_types.specs.declared.outcome.Outcome.{Outcome}
use Rattle.goo_types.specs.declared.outcome.Outcome.TheVariants.{Accepted, Repeated, Refused}
use Rattle.goo_spec.specs.State.{State}
use Rattle.goo_spec.specs.Step.{refusal, accept, outcome, after, next}
use Rattle.goo_spec.specs.Fate.{fate}
use Rattle.goo_spec.specs.Known.{is_accepted}
use Rattle.goo_spec.specs.Sound.{IsSound}
use Rattle.goo_spec.proofs.Fating.{fate_accept}
use Rattle.goo_spec.proofs.Stepping.{accepted_passes}
use Rattle.goo_spec_laws.specs.Ways.{Known}
use Rattle.goo_spec_laws.specs.Rights.{IsByRight, MovesByRight}
use Rattle.goo_spec_laws.proofs.Rows.{StaysOr, issued_row, given_row, cancelled_row, withdrawn_row, corrected_row, expired_row, exported_row}
use Rattle.goo_spec_laws.proofs.Taking.{imported_row}

by_right : (s : State) (caller : List ℕ) (command : Command) (n : ℕ) → refusal s caller command ≡ None → IsSound s → StaysOr (IsByRight s caller command n) (get s.at n) (fate s command n (get s.at n))
by_right s caller (OpenHolder x) n none sound = inl refl
by_right s caller (OpenAccount x) n none sound = inl refl
by_right s caller (CloseAccount x) n none sound = inl refl
by_right s caller (RegisterDevice x) n none sound = inl refl
by_right s caller (Declare x) n none sound = issued_row s caller n x none sound
by_right s caller (Correct x) n none sound = corrected_row s caller n x none
by_right s caller (Transfer x) n none sound = given_row s caller n x none
by_right s caller (Cancel x) n none sound = cancelled_row s caller n x none sound
by_right s caller (Withdraw x) n none sound = withdrawn_row s caller n x none
by_right s caller (Advance x) n none sound = expired_row s caller n x none sound
by_right s caller (AddPeer x) n none sound = inl refl
by_right s caller (Export x) n none sound = exported_row s caller n x none
by_right s caller (Import x) n none sound = imported_row s caller x n none

accepted_moves : (s : State) (q : Request) (n : ℕ) → StaysOr (IsByRight s q.caller q.command n) (get s.at n) (fate s q.command n (get s.at n))
    → (get (accept s q).at n ≡ get s.at n) ⊎ ((true ≡ true) × IsByRight s q.caller q.command n (get s.at n) (get (accept s q).at n))
accepted_moves s q n (inl same) = inl (fate_accept s q n ∙ same)
accepted_moves s q n (inr row) = inr (refl, subst (λ (o : Known). IsByRight s q.caller q.command n (get s.at n) o) (sym (fate_accept s q n)) row)

moves_after : (s : State) (q : Request) (o : Outcome) → outcome s q ≡ o → IsSound s → (n : ℕ)
    → (get (after s q o).at n ≡ get s.at n) ⊎ ((is_accepted o ≡ true) × IsByRight s q.caller q.command n (get s.at n) (get (after s q o).at n))
moves_after s q (Accepted r) is sound n = accepted_moves s q n (by_right s q.caller q.command n (accepted_passes s q r is) sound)
moves_after s q (Repeated r) is sound n = inl refl
moves_after s q (Refused r) is sound n = inl refl

pub moves_by_right : (s : State) (q : Request) → IsSound s → MovesByRight s q
unfolding next
moves_by_right s q sound n = moves_after s q (outcome s q) refl sound n
