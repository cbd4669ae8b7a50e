-- Rows that are put elsewhere whole, each by an edit of its own.
use Rattle.std.proofs.Common.{◌≡◌, ℕ, ◌+◌, ◌≤◌, List, [], ◌∷◌, ◌++◌, Bool, true, false, cond, map, Some, refl, ap, sym, subst, ◌∙◌, arith, append_assoc}
use Rattle.std.specs.List.{filter}
use Rattle.goo_types.specs.declared.lot_fields.LotFields.{LotFields}
use Rattle.goo_types.specs.declared.place.Place.{Place}
use Rattle.goo_types.specs.declared.piece.Piece.{Piece}
use Rattle.goo_types.specs.Piece.{label_of, covers, at_of, IsRising, IsRisingFrom}
use Rattle.goo_spec.specs.Runs.{IsNotFollowed, IsApart}
use Rattle.goo_spec.proofs.Placing.{replaced}
use Rattle.goo_ranges.specs.declared.edits.Edit.{Edit}
use Rattle.goo_ranges.specs.Edit.{IsExact}
use Rattle.goo_ranges.proofs.Maximal.{at-own}
use Rattle.goo_ranges_rows.specs.Rows.{edited, edited_all}
use Rattle.goo_ranges_rows.specs.Plans.{placed, IsMoveOf, AreMovesOf}
use Rattle.goo_ranges_rows.proofs.Editing.{edited-whole}

module _ (new : LotFields → Place → Place) where
  pub placed-rising : (low : ℕ) (rows : List Piece) → IsRisingFrom low rows → IsRisingFrom low (map (placed new) rows)
  placed-rising low [] r = tt
  placed-rising low (p ∷ ps) r = (r.0, r.1, placed-rising (p.last + 1) ps r.2)

  -- each number keeps its lot and gets the new place
  pub placed-at : (rows : List Piece) (n : ℕ) → at_of (map (placed new) rows) n ≡ replaced new (at_of rows n)
  placed-at [] n = refl
  placed-at (p ∷ ps) n = elim (covers p n) as (λ b. cond b (Some (p.lot, new p.lot p.place)) (at_of (map (placed new) ps) n) ≡ replaced new (cond b (Some (label_of p)) (at_of ps n))) [
    | true ↦ refl
    | false ↦ placed-at ps n
  ]

  placed-middle : (front : List Piece) (p : Piece) (back : List Piece) → IsRising (front ++ p ∷ back) → IsRising (front ++ placed new p ∷ back)
  placed-middle front p back r = over 0 front r
    where
      over : (low : ℕ) (front : List Piece) → IsRisingFrom low (front ++ p ∷ back) → IsRisingFrom low (front ++ placed new p ∷ back)
      over low [] r = r
      over low (x ∷ front) r = (r.0, r.1, over (x.last + 1) front r.2)

  move-exact : (p : Piece) (e : Edit) → IsMoveOf new p e → IsExact (p ∷ []) (placed new p ∷ []) e
  move-exact p e is = record { before = []; deleted = p ∷ []; after = []; was = refl; becomes = rw is.inserted refl; named = is.deleted }

  moved-one : (front : List Piece) (p : Piece) (back : List Piece) (e : Edit) → IsRising (front ++ p ∷ back) → IsMoveOf new p e → edited e (front ++ p ∷ back) ≡ front ++ placed new p ∷ back
  moved-one front p back e r is = edited-whole front (p ∷ []) (placed new p ∷ []) back e (move-exact p e is) r (placed-middle front p back r)

  record IsFirstMove (p : Piece) (ps : List Piece) (es : List Edit) : Type 0 where
    first : Edit
    rest : List Edit
    is : es ≡ first ∷ rest
    move : IsMoveOf new p first
    moves : AreMovesOf new ps rest

  first-move : (p : Piece) (ps : List Piece) (es : List Edit) → AreMovesOf new (p ∷ ps) es → IsFirstMove p ps es
  first-move p ps [] are = absurd are
  first-move p ps (e ∷ es) are = record { first = e; rest = es; is = refl; move = are.0; moves = are.1 }

  no-move : (es : List Edit) → AreMovesOf new [] es → es ≡ []
  no-move [] are = refl
  no-move (e ∷ es) are = absurd are

  module _ (test : Piece → Bool) (stays : (p : Piece) → test p ≡ false → new p.lot p.place ≡ p.place) where
    moved-from : (front rows : List Piece) (es : List Edit) → IsRising (front ++ rows) → AreMovesOf new (filter test rows) es → edited_all es (front ++ rows) ≡ front ++ map (placed new) rows
    moved-from front [] es r are = rw (no-move es are) refl
    moved-from front (p ∷ ps) es r are =
        let later : (q : Piece) (rest : List Edit) → IsRising (front ++ q ∷ ps) → AreMovesOf new (filter test ps) rest → edited_all rest (front ++ q ∷ ps) ≡ front ++ q ∷ map (placed new) ps =
        λ q rest rising moves.
        ap (edited_all rest) (sym (append_assoc front (q ∷ []) ps))
        ∙ moved-from (front ++ q ∷ []) ps rest (subst IsRising (sym (append_assoc front (q ∷ []) ps)) rising) moves
        ∙ append_assoc front (q ∷ []) (map (placed new) ps) in
        elim (test p) as (λ b. test p ≡ b → AreMovesOf new (cond b (p ∷ filter test ps) (filter test ps)) es → edited_all es (front ++ p ∷ ps) ≡ front ++ placed new p ∷ map (placed new) ps) [
          | true ↦ λ h moves.
              let one = first-move p (filter test ps) es moves in
              ap (λ l. edited_all l (front ++ p ∷ ps)) one.is
              ∙ ap (edited_all one.rest) (moved-one front p ps one.first r one.move)
              ∙ later (placed new p) one.rest (placed-middle front p ps r) one.moves
          | false ↦ λ h moves.
              let same : p ≡ placed new p = λ i. record p { place = sym (stays p h) i } in
              later p es r moves ∙ ap (λ q. front ++ q ∷ map (placed new) ps) same
        ] refl are

    -- the edits of the rows that pass the test put all rows where the change says, if it leaves the others
    pub moved-rows : (rows : List Piece) (es : List Edit) → IsRising rows → AreMovesOf new (filter test rows) es → edited_all es rows ≡ map (placed new) rows
    moved-rows rows es r are = moved-from [] rows es r are

  -- where two places of one lot stay two, the rows stay as few as can be
  module _ (rows : List Piece) (r : IsRising rows)
      (differ : (n m : ℕ) (lot : LotFields) (a b : Place) → at_of rows n ≡ Some (lot, a) → at_of rows m ≡ Some (lot, b) → new lot a ≡ new lot b → a ≡ b) where
    unfollowed : (front : List Piece) (p : Piece) (ps : List Piece) → rows ≡ front ++ p ∷ ps → IsNotFollowed p ps → IsNotFollowed (placed new p) (map (placed new) ps)
    unfollowed front p [] is free = tt
    unfollowed front p (q ∷ qs) is free = λ follows.
        let rising : IsRising (front ++ p ∷ q ∷ qs) = subst IsRising is r in
        let long : rows ≡ (front ++ p ∷ []) ++ q ∷ qs = is ∙ sym (append_assoc front (p ∷ []) (q ∷ qs)) in
        let lots : p.lot ≡ q.lot = ap (λ l. l.0) follows.1 in
        let places : new p.lot p.place ≡ new q.lot q.place = ap (λ l. l.1) follows.1 in
        let forward_p : p.first ≤ p.last = (piece 0 front p (q ∷ qs) rising) in
        let forward_q : q.first ≤ q.last = (piece 0 (front ++ p ∷ []) q qs (subst IsRising long r)) in
        let at_p : at_of rows p.first ≡ Some (label_of p) = ap (λ l. at_of l p.first) is ∙ at-own 0 front p (q ∷ qs) p.first rising (omega arith) forward_p in
        let at_q : at_of rows q.first ≡ Some (label_of q) = ap (λ l. at_of l q.first) long ∙ at-own 0 (front ++ p ∷ []) q qs q.first (subst IsRising long r) (omega arith) forward_q in
        let place : p.place ≡ q.place = differ p.first q.first p.lot p.place q.place at_p (at_q ∙ ap (λ l. Some (l, q.place)) (sym lots)) (places ∙ ap (λ l. new l q.place) (sym lots)) in
        free (follows.0, λ i. (lots i, place i))
      where
        piece : (low : ℕ) (front : List Piece) (p : Piece) (back : List Piece) → IsRisingFrom low (front ++ p ∷ back) → p.first ≤ p.last
        piece low [] p back r = r.1.0
        piece low (x ∷ front) p back r = piece (x.last + 1) front p back r.2

    apart-from : (front ps : List Piece) → rows ≡ front ++ ps → IsApart ps → IsApart (map (placed new) ps)
    apart-from front [] is a = tt
    apart-from front (p ∷ ps) is a = (unfollowed front p ps is a.0, apart-from (front ++ p ∷ []) ps (is ∙ sym (append_assoc front (p ∷ []) ps)) a.1)

    pub moved-apart : IsApart rows → IsApart (map (placed new) rows)
    moved-apart a = apart-from [] rows refl a
