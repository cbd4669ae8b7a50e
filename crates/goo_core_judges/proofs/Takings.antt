-- Edits that take in one part after another.
use Rattle.std.proofs.Common.{◌≡◌, ◌∙◌, ℕ, zero, suc, ◌+◌, ◌-◌, ◌<◌, ◌≤◌, List, [], ◌∷◌, ◌++◌, length, get_or, Option, Some, refl, ap, sym, subst, arith, true, false, if◌then◌else◌, ⊎_elim, inl, inr}
use Rattle.std.specs.Prelude.{◌⊎◌, slice_get, All, Contains}
use Rattle.std.proofs.lemmas.List.{length-append, map-append}
use Rattle.goo_types.specs.Piece.{Label, label_of, at_of, IsRising, IsRisingFrom, IsForward}
use Rattle.goo_types.specs.Range.{Numbers}
use Rattle.goo_types.specs.declared.lot_fields.LotFields.{LotFields}
use Rattle.goo_types.specs.declared.piece.Piece.{Piece}
use Rattle.goo_types.specs.declared.place.Place.TheVariants.{Held}
use Rattle.goo_ranges.specs.BookFault.{IsLeastFault}
use Rattle.goo_ranges.specs.Change.{inside, set_to}
use Rattle.goo_ranges.specs.Edit.{IsExact}
use Rattle.goo_ranges.specs.declared.edits.Edit.{Edit}
use Rattle.goo_ranges.specs.declared.faults.BookFault.{BookFault}
use Rattle.goo_ranges.specs.declared.faults.BookFault.TheVariants.{Backwards, Overlap}
use Rattle.goo_spec.specs.Lots.{lot_in}
use Rattle.goo_spec.specs.Runs.{IsApart}
use Rattle.goo_spec.proofs.Mapping.{none_some, inside as unwrapped}
use Rattle.goo_ranges_rows.specs.Plans.{AreEditsOf, near_after}
use Rattle.goo_ranges_rows.specs.Rows.{is_near, meeting, edited, edited_all}
use Rattle.goo_ranges_rows.proofs.Chains.{edits-rising, edited-exact, within-of_book, part-edits, part-changes}
use Rattle.goo_ranges_rows.proofs.Near.{meeting-after, filter-rising}
use Rattle.goo_core_judges.specs.Import.{given}
use Rattle.goo_ranges.specs.Sparing.{IsSmall}
use Rattle.goo_ranges_rows.proofs.Framing.{met-block}
use Rattle.goo_core_rules.specs.Changes.{AreSmall, IsSmallFor}
use Rattle.goo_core_rules.proofs.Changing.{small-push, small-for_all, small-met}
use Rattle.goo_core_rules.proofs.Lots.{near_lot, inserted_own, lots_weaker, lots_push}
use Rattle.std.proofs.lemmas.List.Elements.{All-weaker, Contains-push, Contains-append_left, Contains-append_right}
use Rattle.goo_core_judges.specs.Taking.{ranges_of, lots_of, IsLotTaken, AreMet, IsPartEdit, AreTaken}
use Rattle.goo_core_moves.specs.declared.arriving.Arriving.{Arriving}
use Rattle.goo_core_moves.proofs.Changing.{set-outside}

-- the rows near a part as the edits before left them
pub near_is : (range : Numbers) (rows met near : List Piece) (es : List Edit) → IsRising rows → AreEditsOf rows es → met ≡ meeting range rows → near ≡ near_after range es met
    → near ≡ meeting range (edited_all es rows)
near_is range rows met near es r are is found = found ∙ ap (near_after range es) is ∙ sym (meeting-after range rows es r are)

pub near_rises : (range : Numbers) (rows : List Piece) (es : List Edit) → IsRising rows → AreEditsOf rows es → IsRising (meeting range (edited_all es rows))
near_rises range rows es r are = filter-rising (is_near range) 0 (edited_all es rows) (edits-rising rows es r are)

pub part_edit : (rows near new : List Piece) (es : List Edit) (a : Arriving) (account : ℕ) (e : Edit) → a.part.range.first ≤ a.part.range.last → IsRising rows → AreEditsOf rows es → near ≡ meeting a.part.range (edited_all es rows)
    → IsExact near new e → IsRising new → (IsApart near → IsApart new)
    → ((n : ℕ) → at_of new n ≡ set_to a.part.range.first a.part.range.last (a.part.lot, Held account) n (at_of near n)) → IsSmall a.part.range.first a.part.range.last near e → IsPartEdit rows es a account e
part_edit rows near new es a account e up r are is exact rising apart changes small =
    let now = meeting a.part.range (edited_all es rows) in
    let label : Label = (a.part.lot, Held account) in
    let was : IsRising now = near_rises a.part.range rows es r are in
    let one : IsExact now new e = subst (λ l. IsExact l new e) is exact in
    let kept : IsApart now → IsApart new = subst (λ l. IsApart l → IsApart new) is apart in
    let so : (n : ℕ) → at_of new n ≡ set_to a.part.range.first a.part.range.last label n (at_of now n) = subst (λ l. (n : ℕ) → at_of new n ≡ set_to a.part.range.first a.part.range.last label n (at_of l n)) is changes in
    record {
      forward = up;
      within = within-of_book a.part.range now new e (set_to a.part.range.first a.part.range.last label) one was rising kept (set-outside a.part.range label) so;
      changes = λ n. ap (λ l. at_of l n) (edited-exact now new e one was rising) ∙ so n;
      small = subst (λ l. IsSmall a.part.range.first a.part.range.last l e) is small;
    }

given-push : (arriving : List Arriving) (a : Arriving) (account n : ℕ) (o : Option Label) → given (arriving ++ a ∷ []) account n o ≡ set_to a.part.range.first a.part.range.last (a.part.lot, Held account) n (given arriving account n o)
given-push [] a account n o = refl
given-push (b ∷ more) a account n o = given-push more a account n (set_to b.part.range.first b.part.range.last (b.part.lot, Held account) n o)

-- what the parts make of a number has its lot, or that of a part
given_lot : (arriving : List Arriving) (account n : ℕ) (o : Option Label) (lot : LotFields) → lot_in (given arriving account n o) ≡ Some lot → (lot_in o ≡ Some lot) ⊎ Contains (lots_of arriving) lot
given_lot [] account n o lot is = inl is
given_lot (a ∷ more) account n o lot is =
    let label : Label = (a.part.lot, Held account) in
    let own : Contains (lots_of (a ∷ more)) a.part.lot = (0, omega arith, refl) in
    ⊎_elim
    (λ (had : lot_in (set_to a.part.range.first a.part.range.last label n o) ≡ Some lot).
    elim (inside a.part.range.first a.part.range.last n) as (λ b. lot_in (if b then Some label else o) ≡ Some lot → (lot_in o ≡ Some lot) ⊎ Contains (lots_of (a ∷ more)) lot) [
      | true ↦ λ same. let e : a.part.lot ≡ lot = cc in inr (subst (Contains (lots_of (a ∷ more))) e own)
      | false ↦ λ same. inl same
    ] had)
    (λ (later : Contains (lots_of more) lot). inr (Contains-append_right (a.part.lot ∷ []) (lots_of more) lot later))
    (given_lot more account n (set_to a.part.range.first a.part.range.last label n o) lot is)

-- the lots that the edit of one part more inserts
part_lots : (rows : List Piece) (arriving : List Arriving) (a : Arriving) (account : ℕ) (es : List Edit) (e : Edit) → IsRising rows → AreTaken rows arriving account es → IsPartEdit rows es a account e
    → All (λ p. IsLotTaken rows (arriving ++ a ∷ []) p.lot) e.insert.items
part_lots rows arriving a account es e r taken edit =
    let now = edited_all es rows in
    let near = meeting a.part.range now in
    let label : Label = (a.part.lot, Held account) in
    let all : List LotFields = lots_of (arriving ++ a ∷ []) in
    let both : all ≡ lots_of arriving ++ a.part.lot ∷ [] = map-append (λ (b : Arriving). b.part.lot) arriving (a ∷ []) in
    let rising = edits-rising rows es r taken.edits in
    let is_edit = edit.within.is_edit in
    let old : (p : Piece) → at_of near p.first ≡ Some (label_of p) → IsLotTaken rows (arriving ++ a ∷ []) p.lot =
    λ p found.
    let has : lot_in (at_of now p.first) ≡ Some p.lot = near_lot now near a.part.range.first a.part.range.last (met-block a.part.range now rising) rising p.first p.lot (ap lot_in found) in
    ⊎_elim
    (λ (before : lot_in (at_of rows p.first) ≡ Some p.lot). inl (p.first, before))
    (λ (earlier : Contains (lots_of arriving) p.lot). inr (subst (λ l. Contains l p.lot) (sym both) (Contains-append_left (lots_of arriving) (a.part.lot ∷ []) p.lot earlier)))
    (given_lot arriving account p.first (at_of rows p.first) p.lot (ap lot_in (sym (taken.changes p.first)) ∙ has)) in
    let own : Contains all a.part.lot = subst (λ l. Contains l a.part.lot) (sym both) (Contains-push (lots_of arriving) a.part.lot) in
    let each : (p : Piece) → at_of (edited e near) p.first ≡ Some (label_of p) → IsLotTaken rows (arriving ++ a ∷ []) p.lot =
    λ p found.
    elim (inside a.part.range.first a.part.range.last p.first) as (λ b. (if b then Some label else at_of near p.first) ≡ Some (label_of p) → IsLotTaken rows (arriving ++ a ∷ []) p.lot) [
      | true ↦ λ same. inr (subst (Contains all) (ap (λ (l : Label). l.0) (unwrapped label (label_of p) same)) own)
      | false ↦ λ same. old p same
    ] (sym (edit.changes p.first) ∙ found) in
    All-weaker (λ p. at_of (edited e near) p.first ≡ Some (label_of p)) (λ p. IsLotTaken rows (arriving ++ a ∷ []) p.lot) each e.insert.items (inserted_own near (edited e near) e is_edit.exact is_edit.disjoint)

-- one part more
pub taken_more : (rows : List Piece) (arriving : List Arriving) (a : Arriving) (account : ℕ) (es new : List Edit) (e : Edit) → IsRising rows
    → AreTaken rows arriving account es → IsPartEdit rows es a account e → new ≡ es ++ e ∷ [] → AreTaken rows (arriving ++ a ∷ []) account new
taken_more rows arriving a account es new e r taken edit is =
    let label : Label = (a.part.lot, Held account) in
    let ranges : ranges_of (arriving ++ a ∷ []) ≡ ranges_of arriving ++ a.part.range ∷ [] = map-append (λ (b : Arriving). b.part.range) arriving (a ∷ []) in
    let both : lots_of (arriving ++ a ∷ []) ≡ lots_of arriving ++ a.part.lot ∷ [] = map-append (λ (b : Arriving). b.part.lot) arriving (a ∷ []) in
    let still : (lot : LotFields) → IsLotTaken rows arriving lot → IsLotTaken rows (arriving ++ a ∷ []) lot =
    λ lot was. ⊎_elim
    (λ (before : (n : ℕ) × (lot_in (at_of rows n) ≡ Some lot)). inl before)
    (λ (earlier : Contains (lots_of arriving) lot). inr (subst (λ l. Contains l lot) (sym both) (Contains-append_left (lots_of arriving) (a.part.lot ∷ []) lot earlier)))
    was in
    let block = met-block a.part.range (edited_all es rows) (edits-rising rows es r taken.edits) in
    let few : IsSmallFor (ranges_of arriving ++ a.part.range ∷ []) (edited_all es rows) e =
    (a.part.range, Contains-push (ranges_of arriving) a.part.range, small-met a.part.range.first a.part.range.last a.part.range (edited_all es rows) (meeting a.part.range (edited_all es rows)) e block edit.small) in
    let all : AreSmall (ranges_of arriving ++ a.part.range ∷ []) rows (es ++ e ∷ []) =
    small-push (ranges_of arriving ++ a.part.range ∷ []) rows es e (small-for_all (ranges_of arriving) (a.part.range ∷ []) rows es taken.small) (inr few) in
    subst (AreTaken rows (arriving ++ a ∷ []) account) (sym is) (record {
      small = subst (λ l. AreSmall l rows (es ++ e ∷ [])) (sym ranges) all;
      lots = lots_push (IsLotTaken rows (arriving ++ a ∷ [])) es e (lots_weaker (IsLotTaken rows arriving) (IsLotTaken rows (arriving ++ a ∷ [])) still es taken.lots) (part_lots rows arriving a account es e r taken edit);
      edits = part-edits a.part.range rows es e edit.forward r taken.edits edit.within;
      changes = λ n. part-changes a.part.range rows es e (set_to a.part.range.first a.part.range.last label) edit.forward r taken.edits edit.within (set-outside a.part.range label) edit.changes n
          ∙ ap (set_to a.part.range.first a.part.range.last label n) (taken.changes n) ∙ sym (given-push arriving a account n (at_of rows n));
      one_each = let counted = taken.one_each in let more = length-append es (e ∷ []) in let all = length-append arriving (a ∷ []) in omega (arith, counted, more, all);
    })

-- a part's book
pub met_at : (rows : List Piece) (arriving : List Arriving) (i : ℕ) (d : Arriving) → AreMet rows arriving → i < length arriving → (get_or arriving i d).book ≡ meeting (get_or arriving i d).part.range rows
met_at rows [] i d met lt = absurd (omega (arith, lt))
met_at rows (a ∷ more) zero d met lt = met.0
met_at rows (a ∷ more) (suc i) d met lt = met_at rows more i d met.1 (omega (arith, lt))

forward-at : (low : ℕ) (ps : List Piece) (i : ℕ) (p : Piece) → IsRisingFrom low ps → slice_get ps i ≡ Some p → IsForward p
forward-at low [] i p r is = none_some p is
forward-at low (q ∷ qs) zero p r is = let same : q ≡ p = cc in subst IsForward same r.1
forward-at low (q ∷ qs) (suc i) p r is = forward-at (q.last + 1) qs i p r.2 is

apart-at : (low : ℕ) (ps : List Piece) (i : ℕ) (p q : Piece) → IsRisingFrom low ps → slice_get ps i ≡ Some p → slice_get ps (suc i) ≡ Some q → p.last < q.first
apart-at low [] i p q r is next = none_some p is
apart-at low (x ∷ []) zero p q r is next = none_some q next
apart-at low (x ∷ y ∷ ps) zero p q r is next =
    let one : x ≡ p = cc in
    let other : y ≡ q = cc in
    let above : x.last + 1 ≤ y.first = r.2.0 in
    let here : x.last < y.first = omega arith in
    subst (λ (z : Piece). p.last < z.first) other (subst (λ (z : Piece). z.last < y.first) one here)
apart-at low (x ∷ ps) (suc i) p q r is next = apart-at (x.last + 1) ps i p q r.2 is next

-- pieces that rise make a book
pub no_fault : (ps : List Piece) (fault : BookFault) → IsRising ps → IsLeastFault ps fault → ⊥
no_fault ps (Backwards i) r fault = fault.1.2 (forward-at 0 ps i fault.1.0 r fault.1.1)
no_fault ps (Overlap zero) r fault = let some : 0 < 0 = fault.1.0 in omega arith
no_fault ps (Overlap (suc i)) r fault =
    let found = fault.1.1 in
    let before : slice_get ps i ≡ Some found.0 = ap (slice_get ps) (down i) ∙ found.2 in
    let apart = apart-at 0 ps i found.0 found.1 r before found.3 in
    let over : found.1.first ≤ found.0.last = found.5 in
    omega arith
  where
    down : (k : ℕ) → k ≡ suc k - 1
    down k = omega arith
