-- The next numbers of declarations, lots and corrections, after changes.
use Rattle.std.proofs.Common.{◌≡◌, ◌≢◌, ◌+◌, ℕ, ℤ, pos, ◌+ℤ◌, List, ◌∷◌, [], ◌++◌, Option, Some, None, refl, ap, sym, subst, ◌∙◌}
use Rattle.std.specs.Prelude.{IfSome, fold}
use Rattle.sqlite_keyed.specs.Keyed.{IsKeyedBy, insert_by, next_key}
use Rattle.sqlite_keyed.proofs.KeyedLemmas.{IsKeyedBy-insert_by}
use Rattle.sqlite_keyed.proofs.SliceLemmas.{insert_next}
use Rattle.goo_tables_rows.specs.Rows.{Tables, correction_in, correction_key, declaration_in, declaration_key, lot_in, lot_key}
use Rattle.goo_tables_rows.specs.declared.correction.CorrectionRow.{CorrectionRow}
use Rattle.goo_tables_rows.specs.declared.declaration.DeclarationRow.{DeclarationRow}
use Rattle.goo_tables_rows.specs.declared.lot.LotRow.{LotRow}
use Rattle.goo_store_changes.specs.Changes.{made}
use Rattle.goo_store_changes.specs.declared.table_change.TableChange.{TableChange}
use Rattle.goo_store_changes.specs.declared.table_change.TableChange.TheVariants.{AddHolder, AddAccount, CloseAccount, AddDevice, AddDeclaration, SetProgress, AddLot, DeletePiece, InsertPiece, AddPeer, AddReceipt, AddCancellation, AddWithdrawal, AddNoticeOut, AddNoticeIn, AddCorrection, SetToday, SetCounters}
use Rattle.goo_store_plans.specs.Found.{AreNumbered, IsNext}

-- a row under the next number is the last, and the number after it is next
pub next_after : {X : Type 0} (key : X → ℤ) (xs : List X) (x : X) (taken : ℕ) (known after : Option ℕ) → key x ≡ pos taken → IsKeyedBy key xs → IsNext known key xs
    → IfSome after (λ n. (known ≡ Some taken) × (n ≡ taken + 1)) → IsNext after key (insert_by key xs x)
next_after key xs x taken known None key_is rise is so = tt
next_after {X = X} key xs x taken known (Some n) key_is rise is so =
    let next : pos taken ≡ next_key key xs = subst (λ o. IsNext o key xs) so.0 is in
    let put = insert_next key xs x rise (key_is ∙ next) in
    ap pos so.1 ∙ sym (ap (next_key key) put ∙ at_end xs ∙ ap (λ k. k +ℤ pos 1) key_is)
  where
    last : (k : ℤ) (ys : List X) → fold (λ _ y. key y +ℤ pos 1) k (ys ++ x ∷ []) ≡ key x +ℤ pos 1
    last k [] = refl
    last k (y ∷ ys) = last (key y +ℤ pos 1) ys

    at_end : (ys : List X) → next_key key (ys ++ x ∷ []) ≡ key x +ℤ pos 1
    at_end ys = last (pos 1) ys

-- no other change touches these rows
pub others : (t : Tables) (change : TableChange) → ((row : DeclarationRow) → change ≢ AddDeclaration row) → ((row : LotRow) → change ≢ AddLot row) → ((row : CorrectionRow) → change ≢ AddCorrection row)
    → ((made t change).declarations ≡ t.declarations) × ((made t change).lots ≡ t.lots) × ((made t change).corrections ≡ t.corrections)
others t (AddHolder row) other not nor = (refl, refl, refl)
others t (AddAccount row) other not nor = (refl, refl, refl)
others t (CloseAccount number) other not nor = (refl, refl, refl)
others t (AddDevice row) other not nor = (refl, refl, refl)
others t (AddDeclaration row) other not nor = absurd (other row refl)
others t (SetProgress device last_day carry) other not nor = (refl, refl, refl)
others t (AddLot row) other not nor = absurd (not row refl)
others t (DeletePiece first) other not nor = (refl, refl, refl)
others t (InsertPiece row) other not nor = (refl, refl, refl)
others t (AddPeer row) other not nor = (refl, refl, refl)
others t (AddReceipt row) other not nor = (refl, refl, refl)
others t (AddCancellation row) other not nor = (refl, refl, refl)
others t (AddWithdrawal row) other not nor = (refl, refl, refl)
others t (AddNoticeOut row) other not nor = (refl, refl, refl)
others t (AddNoticeIn row) other not nor = (refl, refl, refl)
others t (AddCorrection row) other not nor = absurd (nor row refl)
others t (SetToday day) other not nor = (refl, refl, refl)
others t (SetCounters counters) other not nor = (refl, refl, refl)

-- the rows come in their order still
pub numbered_still : (t : Tables) (change : TableChange) → AreNumbered t → AreNumbered (made t change)
numbered_still t (AddHolder row) is = record { declarations = is.declarations; lots = is.lots; corrections = is.corrections }
numbered_still t (AddAccount row) is = record { declarations = is.declarations; lots = is.lots; corrections = is.corrections }
numbered_still t (CloseAccount number) is = record { declarations = is.declarations; lots = is.lots; corrections = is.corrections }
numbered_still t (AddDevice row) is = record { declarations = is.declarations; lots = is.lots; corrections = is.corrections }
numbered_still t (AddDeclaration row) is = record { declarations = IsKeyedBy-insert_by declaration_key t.declarations (declaration_in row) is.declarations; lots = is.lots; corrections = is.corrections }
numbered_still t (SetProgress device last_day carry) is = record { declarations = is.declarations; lots = is.lots; corrections = is.corrections }
numbered_still t (AddLot row) is = record { declarations = is.declarations; lots = IsKeyedBy-insert_by lot_key t.lots (lot_in row) is.lots; corrections = is.corrections }
numbered_still t (DeletePiece first) is = record { declarations = is.declarations; lots = is.lots; corrections = is.corrections }
numbered_still t (InsertPiece row) is = record { declarations = is.declarations; lots = is.lots; corrections = is.corrections }
numbered_still t (AddPeer row) is = record { declarations = is.declarations; lots = is.lots; corrections = is.corrections }
numbered_still t (AddReceipt row) is = record { declarations = is.declarations; lots = is.lots; corrections = is.corrections }
numbered_still t (AddCancellation row) is = record { declarations = is.declarations; lots = is.lots; corrections = is.corrections }
numbered_still t (AddWithdrawal row) is = record { declarations = is.declarations; lots = is.lots; corrections = is.corrections }
numbered_still t (AddNoticeOut row) is = record { declarations = is.declarations; lots = is.lots; corrections = is.corrections }
numbered_still t (AddNoticeIn row) is = record { declarations = is.declarations; lots = is.lots; corrections = is.corrections }
numbered_still t (AddCorrection row) is = record { declarations = is.declarations; lots = is.lots; corrections = IsKeyedBy-insert_by correction_key t.corrections (correction_in row) is.corrections }
numbered_still t (SetToday day) is = record { declarations = is.declarations; lots = is.lots; corrections = is.corrections }
numbered_still t (SetCounters counters) is = record { declarations = is.declarations; lots = is.lots; corrections = is.corrections }
