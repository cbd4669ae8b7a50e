-- A walk over the pieces of a range, which are all there.
use Rattle.std.proofs.Common.{◌≡◌, ◌≢◌, ◌∙◌, inl, inr, ⊎_elim, ℕ, ◌+◌, ◌<◌, ◌≤◌, List, [], ◌∷◌, true, false, Option, Some, None, refl, ap, sym, subst, arith}
use Rattle.std.specs.Prelude.{min}
use Rattle.std.proofs.lemmas.Bool.{cases_lt, true≢false}
use Rattle.std.proofs.lemmas.Bool.Decides.{nat_tests}
use Rattle.goo_types.specs.Piece.{Label, at_of, IsRising, IsRisingFrom}
use Rattle.goo_types.specs.Range.{Numbers}
use Rattle.goo_types.specs.declared.part.Part.{Part}
use Rattle.goo_types.specs.declared.piece.Piece.{Piece}
use Rattle.goo_ranges_pieces.proofs.Covers.{covers-inside, covers-above}
use Rattle.goo_ranges_pieces.proofs.Rising.{at_of-below}
use Rattle.goo_spec.specs.Lots.{lot_in, is_absent}
use Rattle.goo_spec.specs.Maps.{each, least_absent}
use Rattle.goo_spec.specs.Parts.{AreInRow, ArePartsOf}
use Rattle.goo_spec.proofs.Mapping.{none_some}
use Rattle.goo_spec.proofs.Placing.{is_one_of, passed_over}
use Rattle.goo_ranges_rows.proofs.Mapping.{one_of-each}
use Rattle.goo_ranges.specs.Change.{inside}
use Rattle.goo_core_judges.specs.Walk.{HasParts, IsStep}

-- a number of a piece that the pieces before lack
at-here : (p : Piece) (ps : List Piece) (n : ℕ) → p.first ≤ n → n ≤ p.last → lot_in (at_of (p ∷ ps) n) ≡ Some p.lot
at-here p ps n from to = rw (covers-inside p n from to) refl

at-later : (p : Piece) (ps : List Piece) (n : ℕ) → p.last < n → at_of (p ∷ ps) n ≡ at_of ps n
at-later p ps n late = rw (covers-above p n late) refl

-- a number below a piece isn't in it nor in later ones
at-gap : (low : ℕ) (p : Piece) (ps : List Piece) (n : ℕ) → IsRisingFrom low (p ∷ ps) → n < p.first → at_of (p ∷ ps) n ≡ None
at-gap low p ps n rising below = at_of-below p.first (p ∷ ps) n (omega arith, rising.1, rising.2) below

module _ (pieces : List Piece) (range : Numbers) (there : (n : ℕ) → range.first ≤ n → n ≤ range.last → at_of pieces n ≢ None) where
  pub has_step : (p : Piece) (ps : List Piece) (next after : ℕ) (old new : List Part) → IsRising (p ∷ ps) → HasParts pieces (p ∷ ps) range next old → IsStep old p range next new after → HasParts pieces ps range after new
  has_step p ps next after old new rising has (inl passed) =
      let same : after ≡ next = passed.stays in
      let low : min p.last range.last < next = passed.below in
      let moved : HasParts pieces ps range next old = record {
        from = has.from;
        to = has.to;
        row = has.row;
        longest = has.longest;
        lots = has.lots;
        rest = λ n above within. has.rest n above within ∙ at-later p ps n (omega (arith, low, above, within));
      } in
      subst (λ parts. HasParts pieces ps range after parts) (sym passed.same) (subst (λ (k : ℕ). HasParts pieces ps range k old) (sym same) moved)
  has_step p ps next after old new rising has (inr taken) =
      let begins : taken.taken.first ≡ next = taken.begins in
      let ends : taken.taken.last ≡ min p.last range.last = taken.ends in
      let stops : after ≡ taken.taken.last + 1 = taken.stops in
      let on : next ≤ p.last = taken.has in
      let within : next ≤ range.last = taken.within in
      let from : range.first ≤ next = has.from in
      let up : taken.taken.first ≤ taken.taken.last = omega (arith, begins, ends, on, within) in
      let reached : p.first ≤ next = ⊎_elim
      (λ (gap : next < p.first). absurd (there next from within (has.rest next (omega arith) within ∙ at-gap 0 p ps next rising gap)))
      (λ (le : p.first ≤ next). le)
      (cases_lt next p.first) in
      let row : AreInRow range.first taken.taken.first old = subst (λ (k : ℕ). AreInRow range.first k old) (sym begins) has.row in
      record {
        from = omega (arith, from, begins, up, stops);
        to = omega (arith, ends, stops);
        row = subst (λ (k : ℕ). AreInRow range.first k new) (sym stops) (taken.longer.row range.first row up);
        longest = taken.longer.longest range.first row has.longest;
        lots = taken.longer.lots (at_of pieces) range.first row has.lots (λ n above below.
            ap lot_in (has.rest n (omega (arith, begins, above)) (omega (arith, ends, below))) ∙ at-here p ps n (omega (arith, reached, begins, above)) (omega (arith, ends, below)));
        rest = λ n above inside_it. has.rest n (omega (arith, above, stops, up, begins)) inside_it ∙ at-later p ps n (omega (arith, above, stops, ends, inside_it));
      }

  pub has_all : (next : ℕ) (parts : List Part) → HasParts pieces [] range next parts → ArePartsOf (at_of pieces) range parts
  has_all next parts has =
      let to : next ≤ range.last + 1 = has.to in
      let end : next ≡ range.last + 1 = ⊎_elim
      (λ (more : next < range.last + 1). absurd (there next has.from (omega (arith, more)) (has.rest next (omega arith) (omega (arith, more)))))
      (λ (le : range.last + 1 ≤ next). let e : next ≡ range.last + 1 = omega (arith, to, le) in e)
      (cases_lt next (range.last + 1)) in
      record { row = subst (λ (k : ℕ). AreInRow range.first k parts) end has.row; longest = has.longest; lots = has.lots }

  pub has_none : range.first ≤ range.last + 1 → HasParts pieces pieces range range.first []
  has_none up = record { from = omega arith; to = up; row = refl; longest = tt; lots = tt; rest = λ n above within. refl }

absent-none : (o : Option Label) → is_absent o ≡ false → o ≢ None
absent-none None e is = absurd (true≢false e)
absent-none (Some known) e is = none_some known (sym is)

within : (first last n : ℕ) → first ≤ n → n ≤ last → inside first last n ≡ true
within first last n from to = grind (arith, nat_tests)

-- the numbers of a range of which none is absent
pub all_there : (pieces : List Piece) (range : Numbers) → least_absent (at_of pieces) (each range) ≡ None → (n : ℕ) → range.first ≤ n → n ≤ range.last → at_of pieces n ≢ None
all_there pieces range none n from to =
    let one : is_one_of (each range) n ≡ true = one_of-each range n (omega (arith, from, to)) ∙ within range.first range.last n from to in
    absent-none (at_of pieces n) (passed_over (λ m. is_absent (at_of pieces m)) (each range) n none one)
