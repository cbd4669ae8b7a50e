-- The one edit that a book made.
use Rattle.std.proofs.Common.{◌≡◌, ◌∙◌, ◌⊎◌, ⊎_elim, inl, inr, ℕ, ◌+◌, ◌≤◌, List, [], ◌∷◌, ◌++◌, Bool, false, if◌then◌else◌, Option, length, refl, ap, sym, subst, arith}
use Rattle.std.specs.List.{count_by}
use Rattle.std.proofs.lemmas.List.Elements.{Contains-append_left}
use Rattle.std.specs.Option.{option_map}
use Rattle.goo_types.specs.Piece.{Label, at_of, IsRising}
use Rattle.goo_types.specs.Range.{Numbers}
use Rattle.goo_types.specs.declared.piece.Piece.{Piece}
use Rattle.goo_types.specs.declared.place.Place.{Place}
use Rattle.goo_ranges.specs.Change.{inside, moved, meets}
use Rattle.goo_ranges.specs.Sparing.{IsSparing, IsSmall}
use Rattle.goo_ranges.specs.Edit.{IsExact}
use Rattle.goo_ranges.specs.declared.edits.Edit.{Edit}
use Rattle.goo_spec.specs.Runs.{IsApart}
use Rattle.goo_ranges.proofs.Sparing.{small-within}
use Rattle.goo_ranges_rows.specs.Plans.{AreEditsWithin}
use Rattle.goo_ranges_rows.specs.Rows.{edited, edited_all}
use Rattle.goo_ranges_rows.proofs.Framing.{IsMet}
use Rattle.goo_ranges_rows.proofs.Chains.{within-of_book, edited-exact, edit-framed, block-framed}
use Rattle.goo_core_rules.specs.Changes.{IsOneForOne, IsSmallFor, AreSmall, AreOfLots, IsLotOf, AreEditsFor}
use Rattle.goo_core_rules.proofs.Lots.{one_lots}

pub moved-outside : (range : Numbers) (place : Place) (n : ℕ) (o : Option Label) → inside range.first range.last n ≡ false → moved range.first range.last place n o ≡ o
moved-outside range place n o out = ap (λ (b : Bool). if b then option_map (λ (label : Label). (label.0, place)) o else o) out

-- what the clauses of a change of a book say of the size of its edit
pub small-of_book : (range : Numbers) (rows : List Piece) (edit : Edit) → (let most = count_by (meets range.first range.last) rows + 2 in (length edit.delete.items ≤ most) × (length edit.insert.items ≤ most))
    → IsSparing range.first range.last rows edit → IsSmall range.first range.last rows edit
small-of_book range rows edit few spares = record { deleted = few.0; inserted = few.1; sparing = spares }

-- one edit for a range
pub one-small : (range : Numbers) (rows : List Piece) (edit : Edit) (edits : List Edit) → edits ≡ edit ∷ []
    → (let most = count_by (meets range.first range.last) rows + 2 in (length edit.delete.items ≤ most) × (length edit.insert.items ≤ most)) → IsSparing range.first range.last rows edit
    → AreSmall (range ∷ []) rows edits
one-small range rows edit edits is few spares =
    let one : AreSmall (range ∷ []) rows (edit ∷ []) = (inr (range, (0, omega arith, refl), small-of_book range rows edit few spares), tt) in
    subst (AreSmall (range ∷ []) rows) (sym is) one

-- one edit more, and more ranges
pub small-push : (ranges : List Numbers) (rows : List Piece) (es : List Edit) (e : Edit) → AreSmall ranges rows es → IsOneForOne e ⊎ IsSmallFor ranges (edited_all es rows) e → AreSmall ranges rows (es ++ e ∷ [])
small-push ranges rows [] e are is = (is, tt)
small-push ranges rows (x ∷ es) e are is = (are.0, small-push ranges (edited x rows) es e are.1 is)

pub small-for_all : (ranges more : List Numbers) (rows : List Piece) (es : List Edit) → AreSmall ranges rows es → AreSmall (ranges ++ more) rows es
small-for_all ranges more rows [] are = tt
small-for_all ranges more rows (e ∷ es) are =
    let here : IsOneForOne e ⊎ IsSmallFor (ranges ++ more) rows e =
    ⊎_elim (λ (one : IsOneForOne e). inl one) (λ (fit : IsSmallFor ranges rows e). inr (fit.0, Contains-append_left ranges more fit.0 fit.1, fit.2)) are.0 in
    (here, small-for_all ranges more (edited e rows) es are.1)

pub small-met : (first last : ℕ) (range : Numbers) (rows book : List Piece) (edit : Edit) → IsMet rows book range.first range.last → IsSmall first last book edit → IsSmall first last rows edit
small-met first last range rows book edit block small = subst (λ l. IsSmall first last l edit) (sym block.whole) (small-within block.front book block.back first last edit small)

-- the edits of rows near a range are as small over all rows
pub small-framed : (ranges : List Numbers) (range : Numbers) (rows book : List Piece) (es : List Edit) → range.first ≤ range.last → IsMet rows book range.first range.last → IsRising rows → AreEditsWithin range book es
    → AreSmall ranges book es → AreSmall ranges rows es
small-framed ranges range rows book [] up block r are small = tt
small-framed ranges range rows book (e ∷ es) up block r are small =
    let here : IsOneForOne e ⊎ IsSmallFor ranges rows e =
    ⊎_elim (λ (one : IsOneForOne e). inl one)
    (λ (fit : IsSmallFor ranges book e). inr (fit.0, fit.1, small-met fit.0.first fit.0.last range rows book e block fit.2)) small.0 in
    (here, small-framed ranges range (edited e rows) (edited e book) es up (block-framed range up rows book block r e are.0) (edit-framed range up rows book block r e are.0).is_edit.disjoint are.1 small.1)

-- the one edit that a book made
pub one_edit : (range : Numbers) (old new : List Piece) (edit : Edit) (edits : List Edit) (change : ℕ → Option Label → Option Label) → edits ≡ edit ∷ []
    → IsExact old new edit → IsRising old → IsRising new → (IsApart old → IsApart new) → AreSmall (range ∷ []) old edits
    → ((n : ℕ) (o : Option Label) → inside range.first range.last n ≡ false → change n o ≡ o)
    → ((n : ℕ) → at_of new n ≡ change n (at_of old n)) → AreEditsFor range old change edits
one_edit range old new edit edits change is exact was now apart small outside changes =
    let after : edited edit old ≡ new = edited-exact old new edit exact was now in
    let one : AreEditsFor range old change (edit ∷ []) = record {
      within = (within-of_book range old new edit change exact was now apart outside changes, tt);
      changes = λ n. ap (λ l. at_of l n) after ∙ changes n;
      small = subst (AreSmall (range ∷ []) old) is small;
      lots = subst (λ l. AreOfLots (IsLotOf (at_of old) (at_of l)) (edit ∷ [])) (sym after) (one_lots (at_of old) old new edit exact now);
    } in
    subst (AreEditsFor range old change) (sym is) one
