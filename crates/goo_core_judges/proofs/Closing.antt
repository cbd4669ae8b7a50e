-- What closing an account comes to.
use Rattle.std.proofs.Common.{◌≡◌, ◌∙◌, ℕ, List, [], ◌∷◌, Bool, true, false, None, refl, ap, sym}
use Rattle.std.specs.List.{list_any}
use Rattle.std.specs.FinMap.{entries}
use Rattle.goo_types.specs.declared.command.CloseAccount.{CloseAccount}
use Rattle.goo_types.specs.declared.piece.Piece.{Piece}
use Rattle.goo_types.specs.declared.refusal.Refusal.TheVariants.{AccountNotEmpty}
use Rattle.goo_spec.specs.Checks.{first_refusal, when}
use Rattle.goo_spec.specs.CloseAccount.{close_account_refusal}
use Rattle.goo_spec.specs.Lots.{is_held_by}
use Rattle.goo_spec.specs.State.{State}
use Rattle.goo_ranges_rows.specs.Rows.{AreRowsOf}
use Rattle.goo_core_judges.specs.CloseAccount.{entry_checks}
use Rattle.goo_core_moves.proofs.Numbering.{any-rows}
use Rattle.goo_core_moves.proofs.Rulings.{passed_early}

-- the rows show whether an account holds a certificate
pub holding : (s : State) (rows : List Piece) (account : ℕ) → AreRowsOf s.at rows → list_any (λ p. is_held_by account p.place) rows ≡ list_any (λ e. is_held_by account e.1.1) (entries s.at)
holding s rows account kept = sym (any-rows (λ label. is_held_by account label.1) s.at rows kept)

-- the checks before pass, and the last one decides
pub closed_late : (s : State) (caller : List ℕ) (x : CloseAccount) (some : Bool) → first_refusal (entry_checks s caller x) ≡ None → some ≡ list_any (λ e. is_held_by x.account e.1.1) (entries s.at)
    → close_account_refusal s caller x ≡ when some AccountNotEmpty
unfolding close_account_refusal
closed_late s caller x some passed is =
    passed_early (entry_checks s caller x) (when (list_any (λ e. is_held_by x.account e.1.1) (entries s.at)) AccountNotEmpty ∷ []) passed
    ∙ ap (λ b. first_refusal (when b AccountNotEmpty ∷ [])) (sym is)
    ∙ elim some as (λ b. first_refusal (when b AccountNotEmpty ∷ []) ≡ when b AccountNotEmpty) [ true ↦ refl | false ↦ refl ]
