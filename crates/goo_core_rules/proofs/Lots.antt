-- The lots of the pieces that edits insert.
use Rattle.std.proofs.Common.{◌≡◌, ◌∙◌, ℕ, ◌+◌, ◌<◌, List, [], ◌∷◌, ◌++◌, Bool, true, false, if◌then◌else◌, Option, Some, None, refl, ap, sym, subst, arith, append_assoc, inr}
use Rattle.std.specs.Prelude.{All}
use Rattle.std.specs.Option.{option_map}
use Rattle.std.proofs.lemmas.Bool.Decides.{nat_tests}
use Rattle.std.proofs.lemmas.List.{append-nil}
use Rattle.std.proofs.lemmas.List.Elements.{All-nil, All-cons, All-push, All-weaker}
use Rattle.goo_types.specs.Piece.{Label, label_of, covers, at_of, IsRising, IsRisingFrom}
use Rattle.goo_types.specs.declared.lot_fields.LotFields.{LotFields}
use Rattle.goo_types.specs.declared.piece.Piece.{Piece}
use Rattle.goo_types.specs.declared.place.Place.{Place}
use Rattle.goo_spec.specs.Lots.{lot_in}
use Rattle.goo_spec.proofs.Mapping.{none_some}
use Rattle.goo_ranges_pieces.proofs.Covers.{or_else, at_of-append}
use Rattle.goo_ranges_pieces.proofs.Rising.{at_of-below}
use Rattle.goo_ranges.specs.Edit.{IsExact}
use Rattle.goo_ranges.specs.declared.edits.Edit.{Edit}
use Rattle.goo_ranges.proofs.Maximal.{at-own, forward-of}
use Rattle.goo_ranges_rows.proofs.Framing.{IsMet}
use Rattle.goo_core_rules.specs.Changes.{AreOfLots, IsLotOf}

-- what some rows that stand together make of a number, all rows do
block_at : (low : ℕ) (front mid back : List Piece) (n : ℕ) (l : Label) → IsRisingFrom low (front ++ (mid ++ back)) → at_of mid n ≡ Some l → at_of (front ++ (mid ++ back)) n ≡ Some l
block_at low [] mid back n l r is = at_of-append mid back n ∙ ap (λ o. or_else o (at_of back n)) is
block_at low (p ∷ front) mid back n l r is =
    let rest = block_at (p.last + 1) front mid back n l r.2 is in
    elim (covers p n) as (λ b. covers p n ≡ b → (if b then Some (label_of p) else at_of (front ++ (mid ++ back)) n) ≡ Some l) [
      | true ↦ λ here.
          let below : n < p.last + 1 = grind (arith, nat_tests, here) in
          none_some l (sym (at_of-below (p.last + 1) (front ++ (mid ++ back)) n r.2 below) ∙ rest)
      | false ↦ λ _. rest
    ] refl

-- so they have the lots of the rows that a range meets
pub near_lot : (all met : List Piece) (first last : ℕ) → IsMet all met first last → IsRising all → (n : ℕ) (lot : LotFields) → lot_in (at_of met n) ≡ Some lot → lot_in (at_of all n) ≡ Some lot
near_lot all met first last block r n lot has = by (at_of met n) refl has
  where
    by : (o : Option Label) → at_of met n ≡ o → lot_in o ≡ Some lot → lot_in (at_of all n) ≡ Some lot
    by None is has = none_some lot has
    by (Some l) is has = ap lot_in (subst (λ rows. at_of rows n ≡ Some l) (sym block.whole) (block_at 0 block.front met block.back n l (subst IsRising block.whole r) is)) ∙ has

-- each of some rows that stand together is found at its first number
own_labels : (low : ℕ) (front mid back : List Piece) → IsRisingFrom low (front ++ (mid ++ back)) → All (λ p. at_of (front ++ (mid ++ back)) p.first ≡ Some (label_of p)) mid
own_labels low front [] back r = All-nil (λ p. at_of (front ++ back) p.first ≡ Some (label_of p))
own_labels low front (p ∷ ps) back r =
    let same : (front ++ p ∷ []) ++ (ps ++ back) ≡ front ++ (p ∷ (ps ++ back)) = append_assoc front (p ∷ []) (ps ++ back) in
    let rest : All (λ q. at_of (front ++ (p ∷ (ps ++ back))) q.first ≡ Some (label_of q)) ps =
    subst (λ l. All (λ q. at_of l q.first ≡ Some (label_of q)) ps) same (own_labels low (front ++ p ∷ []) ps back (subst (IsRisingFrom low) (sym same) r)) in
    let forward = forward-of low front p (ps ++ back) r in
    All-cons (λ q. at_of (front ++ (p ∷ (ps ++ back))) q.first ≡ Some (label_of q)) p ps (at-own low front p (ps ++ back) p.first r (omega arith) forward) rest

-- each row of rising ones is found there
pub rows_own : (rows : List Piece) → IsRising rows → All (λ p. at_of rows p.first ≡ Some (label_of p)) rows
rows_own rows r =
    let none : rows ++ [] ≡ rows = append-nil rows in
    subst (λ l. All (λ p. at_of l p.first ≡ Some (label_of p)) rows) none (own_labels 0 [] rows [] (subst IsRising (sym none) r))

-- each piece that an edit inserts is found there behind it
pub inserted_own : (old new : List Piece) (e : Edit) → IsExact old new e → IsRising new → All (λ p. at_of new p.first ≡ Some (label_of p)) e.insert.items
inserted_own old new e exact r =
    subst (λ l. All (λ p. at_of l p.first ≡ Some (label_of p)) e.insert.items) (sym exact.becomes) (own_labels 0 exact.before e.insert.items exact.after (subst IsRising exact.becomes r))

-- so its lot is there
pub inserted_lots : (before : ℕ → Option Label) (old new : List Piece) (e : Edit) → IsExact old new e → IsRising new → All (λ p. IsLotOf before (at_of new) p.lot) e.insert.items
inserted_lots before old new e exact r =
    All-weaker (λ p. at_of new p.first ≡ Some (label_of p)) (λ p. IsLotOf before (at_of new) p.lot) (λ p is. (p.first, inr (ap lot_in is))) e.insert.items (inserted_own old new e exact r)

-- the lots of one edit
pub one_lots : (before : ℕ → Option Label) (old new : List Piece) (e : Edit) → IsExact old new e → IsRising new → AreOfLots (IsLotOf before (at_of new)) (e ∷ [])
one_lots before old new e exact r =
    let P : Edit → Type 0 = λ e. All (λ p. IsLotOf before (at_of new) p.lot) e.insert.items in
    All-cons P e [] (inserted_lots before old new e exact r) (All-nil P)

pub lots_weaker : (P Q : LotFields → Type 0) → ((lot : LotFields) → P lot → Q lot) → (es : List Edit) → AreOfLots P es → AreOfLots Q es
lots_weaker P Q so es are =
    All-weaker (λ e. All (λ p. P p.lot) e.insert.items) (λ e. All (λ p. Q p.lot) e.insert.items) (λ e all. All-weaker (λ p. P p.lot) (λ p. Q p.lot) (λ p is. so p.lot is) e.insert.items all) es are

-- one edit more
pub lots_push : (P : LotFields → Type 0) (es : List Edit) (e : Edit) → AreOfLots P es → All (λ p. P p.lot) e.insert.items → AreOfLots P (es ++ e ∷ [])
lots_push P es e are is = All-push (λ e. All (λ p. P p.lot) e.insert.items) es e are is

-- a number that is put in a place keeps its lot
pub moved_lot : (b : Bool) (place : Place) (o : Option Label) → lot_in (if b then option_map (λ (label : Label). (label.0, place)) o else o) ≡ lot_in o
moved_lot true place None = refl
moved_lot true place (Some label) = refl
moved_lot false place o = refl
