-- Pieces by the accounts that their places name.
use Rattle.std.proofs.Common.{◌≡◌, ℕ, ◌+◌, List, [], ◌∷◌, ◌++◌, true, false, cond, Option, Some, None, map, refl, ap, sym, subst, ◌∙◌}
use Rattle.std.specs.Prelude.{slice_get}
use Rattle.std.specs.Option.{option_map}
use Rattle.goo_types.specs.Piece.{Label, label_of, covers, at_of, IsRising, IsRisingFrom}
use Rattle.goo_types.specs.Place.{account_of}
use Rattle.goo_types.specs.declared.lot_fields.LotFields.{LotFields}
use Rattle.goo_types.specs.declared.piece.Piece.{Piece}
use Rattle.goo_types.specs.declared.place.Place.TheVariants.{Held}
use Rattle.goo_spec.specs.Runs.{IsApart, AreRunsOf}
use Rattle.goo_ranges.specs.Accounts.{by_account, AreAccountRuns, held}
use Rattle.goo_ranges_pieces.specs.Joining.{IsJoining}

module _ (lot : LotFields) where
  pub held-rising : (low : ℕ) (ps : List Piece) → IsRisingFrom low ps → IsRisingFrom low (map (held lot) ps)
  held-rising low [] r = tt
  held-rising low (p ∷ ps) r = (r.0, r.1, held-rising (p.last + 1) ps r.2)

  pub held-at : (ps : List Piece) (n : ℕ) → at_of (map (held lot) ps) n ≡ by_account lot (at_of ps n)
  held-at [] n = refl
  held-at (p ∷ ps) n = elim (covers p n) as (λ b. cond b (Some (lot, Held (account_of p.place))) (at_of (map (held lot) ps) n) ≡ by_account lot (cond b (Some (label_of p)) (at_of ps n))) [
    | true ↦ refl
    | false ↦ held-at ps n
  ]

  pub held-push : (ps : List Piece) (p : Piece) → map (held lot) (ps ++ p ∷ []) ≡ map (held lot) ps ++ held lot p ∷ []
  held-push [] p = refl
  held-push (q ∷ ps) p = ap (λ l. held lot q ∷ l) (held-push ps p)

  pub held-runs : (ps runs : List Piece) → IsRising ps → IsJoining (map (held lot) ps) runs → IsApart runs → AreRunsOf (λ n. by_account lot (at_of ps n)) runs
  held-runs ps runs r joined apart =
      record { rising = joined.rising 0 (held-rising 0 ps r); maximal = apart; same = λ n. joined.same 0 (held-rising 0 ps r) n ∙ held-at ps n }

pub runs-of_none : (ps : List Piece) → slice_get ps 0 ≡ None → AreAccountRuns ps []
runs-of_none [] none = refl
runs-of_none (p ∷ ps) none = cc

pub runs-of_first : (ps runs : List Piece) (p : Piece) → slice_get ps 0 ≡ Some p → IsRising ps → IsJoining (map (held p.lot) ps) runs → IsApart runs → AreAccountRuns ps runs
runs-of_first [] runs p first r joined apart = cc
runs-of_first (q ∷ ps) runs p first r joined apart =
    let same : p ≡ q = cc in
    subst (λ (x : Piece). AreRunsOf (λ n. by_account x.lot (at_of (q ∷ ps) n)) runs) same (held-runs p.lot (q ∷ ps) runs r joined apart)

-- the account that a number's place names
abbrev pub account_at : List Piece → ℕ → Option ℕ
account_at ps n = option_map (λ label. account_of label.1) (at_of ps n)

same-account : (lot : LotFields) (o : Option Label) → option_map (λ label. account_of label.1) (by_account lot o) ≡ option_map (λ label. account_of label.1) o
same-account lot None = refl
same-account lot (Some label) = refl

-- the runs name each number's account
pub accounts-alike : (ps runs : List Piece) → AreAccountRuns ps runs → (n : ℕ) → account_at runs n ≡ account_at ps n
accounts-alike [] runs are n = ap (λ l. account_at l n) are
accounts-alike (p ∷ ps) runs are n = ap (option_map (λ label. account_of label.1)) (are.same n) ∙ same-account p.lot (at_of (p ∷ ps) n)

pub runs-rise : (ps runs : List Piece) → AreAccountRuns ps runs → IsRising runs
runs-rise [] runs are = subst IsRising (sym are) tt
runs-rise (p ∷ ps) runs are = are.rising
