-- Rows that are put elsewhere one by one rise all along.
use Rattle.std.proofs.Common.{◌≡◌, ℕ, ◌+◌, List, [], ◌∷◌, ◌++◌, Bool, true, false, cond, refl, sym, subst, append_assoc}
use Rattle.std.specs.List.{filter}
use Rattle.goo_types.specs.declared.lot_fields.LotFields.{LotFields}
use Rattle.goo_types.specs.declared.place.Place.{Place}
use Rattle.goo_types.specs.declared.piece.Piece.{Piece}
use Rattle.goo_types.specs.Piece.{IsRising, IsRisingFrom}
use Rattle.goo_ranges.specs.declared.edits.Edit.{Edit}
use Rattle.goo_ranges.specs.Edit.{IsExact}
use Rattle.goo_ranges_rows.specs.Plans.{placed, IsMoveOf, AreMovesOf}
use Rattle.goo_ranges_rows.specs.Rows.{edited}
use Rattle.goo_ranges_rows.proofs.Editing.{edited-whole}
use Rattle.goo_core_shelf.specs.Plan.{StayRising}

module _ (new : LotFields → Place → Place) where
  placed-middle : (low : ℕ) (front : List Piece) (p : Piece) (back : List Piece) → IsRisingFrom low (front ++ p ∷ back) → IsRisingFrom low (front ++ placed new p ∷ back)
  placed-middle low [] p back r = r
  placed-middle low (x ∷ front) p back r = (r.0, r.1, placed-middle (x.last + 1) front p back r.2)

  exact : (p : Piece) (e : Edit) → IsMoveOf new p e → IsExact (p ∷ []) (placed new p ∷ []) e
  exact p e is = record { before = []; deleted = p ∷ []; after = []; was = refl; becomes = rw is.inserted refl; named = is.deleted }

  moved : (front : List Piece) (p : Piece) (back : List Piece) (e : Edit) → IsRising (front ++ p ∷ back) → IsMoveOf new p e → edited e (front ++ p ∷ back) ≡ front ++ placed new p ∷ back
  moved front p back e r is = edited-whole front (p ∷ []) (placed new p ∷ []) back e (exact p e is) r (placed-middle 0 front p back r)

  module _ (test : Piece → Bool) where
    by : (front : List Piece) (p : Piece) (ps : List Piece)
        → ((q : Piece) (rest : List Edit) → IsRising (front ++ q ∷ ps) → AreMovesOf new (filter test ps) rest → StayRising rest (front ++ q ∷ ps))
        → IsRising (front ++ p ∷ ps) → (b : Bool) (es : List Edit) → AreMovesOf new (cond b (p ∷ filter test ps) (filter test ps)) es → StayRising es (front ++ p ∷ ps)
    by front p ps later r true [] are = absurd are
    by front p ps later r true (e ∷ rest) are =
        (r, subst (StayRising rest) (sym (moved front p ps e r are.0)) (later (placed new p) rest (placed-middle 0 front p ps r) are.1))
    by front p ps later r false es are = later p es r are

    stay-from : (front rows : List Piece) (es : List Edit) → IsRising (front ++ rows) → AreMovesOf new (filter test rows) es → StayRising es (front ++ rows)
    stay-from front [] [] r are = r
    stay-from front [] (e ∷ es) r are = absurd are
    stay-from front (p ∷ ps) es r are =
        by front p ps (λ q rest rising moves.
        subst (StayRising rest) (append_assoc front (q ∷ []) ps) (stay-from (front ++ q ∷ []) ps rest (subst IsRising (sym (append_assoc front (q ∷ []) ps)) rising) moves))
        r (test p) es are

    -- one edit for each of the rows that pass a test
    pub moves_stay_rising : (rows : List Piece) (es : List Edit) → IsRising rows → AreMovesOf new (filter test rows) es → StayRising es rows
    moves_stay_rising rows es r are = stay-from [] rows es r are
