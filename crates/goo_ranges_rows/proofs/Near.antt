-- The rows near a range, as some edits leave them.
use Rattle.std.proofs.Common.{◌≡◌, ℕ, ◌+◌, ◌<◌, ◌≤◌, List, [], ◌∷◌, ◌++◌, Bool, true, false, cond, map, refl, ap, sym, subst, ◌∙◌, arith, append_assoc}
use Rattle.std.specs.Prelude.{◌==◌}
use Rattle.std.specs.List.{filter}
use Rattle.std.proofs.lemmas.List.{append-nil}
use Rattle.std.proofs.lemmas.List.Elements.{filter-append}
use Rattle.std.proofs.lemmas.Bool.Decides.{nat_tests}
use Rattle.goo_types.specs.Range.{Numbers}
use Rattle.goo_types.specs.declared.piece.Piece.{Piece}
use Rattle.goo_types.specs.Piece.{IsRising, IsRisingFrom}
use Rattle.goo_ranges.specs.declared.edits.Edit.{Edit}
use Rattle.goo_ranges.specs.Edit.{IsExact}
use Rattle.goo_ranges_pieces.proofs.Rising.{rising-weaken}
use Rattle.goo_ranges_rows.specs.Rows.{is_near, meeting, without, without_each, with_each, edited, edited_all}
use Rattle.goo_ranges_rows.specs.Plans.{AreEditsOf, near_after}
use Rattle.goo_ranges_rows.proofs.Editing.{from-low, without-here, with-block}

-- some of the rows rise as they do
pub filter-rising : (test : Piece → Bool) (low : ℕ) (rows : List Piece) → IsRisingFrom low rows → IsRisingFrom low (filter test rows)
filter-rising test low [] r = tt
filter-rising test low (p ∷ ps) r =
    let here : low ≤ p.first = r.0 in
    let forward : p.first ≤ p.last = r.1.0 in
    let rest = filter-rising test (p.last + 1) ps r.2 in
    elim (test p) as (λ b. IsRisingFrom low (cond b (p ∷ filter test ps) (filter test ps))) [
      | true ↦ (r.0, r.1, rest)
      | false ↦ rising-weaken low (p.last + 1) (filter test ps) (omega arith) rest
    ]

-- a row that isn't there can't be left out
without-below : (k low : ℕ) (rows : List Piece) → IsRisingFrom low rows → k < low → without k rows ≡ rows
without-below k low [] r lt = refl
without-below k low (p ∷ ps) r lt =
    let here : low ≤ p.first = r.0 in
    let forward : p.first ≤ p.last = r.1.0 in
    let e : (p.first == k) ≡ false = grind (arith, nat_tests) in
    rw e (ap (λ l. p ∷ l) (without-below k (p.last + 1) ps r.2 (omega arith)))

without-absent : (low : ℕ) (front : List Piece) (q : Piece) (back : List Piece) → IsRisingFrom low (front ++ q ∷ back) → without q.first (front ++ back) ≡ front ++ back
without-absent low [] q back r = let forward : q.first ≤ q.last = r.1.0 in without-below q.first (q.last + 1) back r.2 (omega arith)
without-absent low (x ∷ front) q back r =
    let above = from-low (x.last + 1) front q back r.2 in
    let forward : x.first ≤ x.last = r.1.0 in
    let e : (x.first == q.first) ≡ false = grind (arith, nat_tests) in
    rw e (ap (λ l. x ∷ l) (without-absent (x.last + 1) front q back r.2))

rising-fewer : (low : ℕ) (front : List Piece) (q : Piece) (back : List Piece) → IsRisingFrom low (front ++ q ∷ back) → IsRisingFrom low (front ++ back)
rising-fewer low [] q back r = let here : low ≤ q.first = r.0 in let forward : q.first ≤ q.last = r.1.0 in rising-weaken low (q.last + 1) back (omega arith) r.2
rising-fewer low (x ∷ front) q back r = (r.0, r.1, rising-fewer (x.last + 1) front q back r.2)

rising-some : (test : Piece → Bool) (low : ℕ) (front block back : List Piece) → IsRisingFrom low (front ++ (block ++ back)) → IsRisingFrom low (front ++ (filter test block ++ back))
rising-some test low [] [] back r = r
rising-some test low [] (q ∷ block) back r =
    let here : low ≤ q.first = r.0 in
    let forward : q.first ≤ q.last = r.1.0 in
    let rest = rising-some test (q.last + 1) [] block back r.2 in
    elim (test q) as (λ b. IsRisingFrom low (cond b (q ∷ filter test block) (filter test block) ++ back)) [
      | true ↦ (r.0, r.1, rest)
      | false ↦ rising-weaken low (q.last + 1) (filter test block ++ back) (omega arith) rest
    ]
rising-some test low (x ∷ front) block back r = (r.0, r.1, rising-some test (x.last + 1) front block back r.2)

-- without a block of which only some are there
without-some : (test : Piece → Bool) (front block back : List Piece) → IsRising (front ++ (block ++ back)) → without_each (map (λ p. p.first) block) (front ++ (filter test block ++ back)) ≡ front ++ back
without-some test front [] back r = refl
without-some test front (q ∷ block) back r =
    let rest = without-some test front block back (rising-fewer 0 front q (block ++ back) r) in
    let some : IsRising (front ++ q ∷ (filter test block ++ back)) =
    subst IsRising (append_assoc front (q ∷ []) (filter test block ++ back)) (rising-some test 0 (front ++ q ∷ []) block back (subst IsRising (sym (append_assoc front (q ∷ []) (block ++ back))) r)) in
    let one : (b : Bool) → without q.first (front ++ (cond b (q ∷ filter test block) (filter test block) ++ back)) ≡ front ++ (filter test block ++ back) =
    λ b. elim b as (λ b. without q.first (front ++ (cond b (q ∷ filter test block) (filter test block) ++ back)) ≡ front ++ (filter test block ++ back)) [
      | true ↦ without-here 0 front q (filter test block ++ back) some
      | false ↦ without-absent 0 front q (filter test block ++ back) some
    ] in
    ap (without_each (map (λ p. p.first) block)) (one (test q)) ∙ rest

some-rising : (test : Piece → Bool) (front block back : List Piece) → IsRising (front ++ (block ++ back)) → IsRising (filter test front ++ (block ++ filter test back))
some-rising test front block back r =
    let ahead : IsRising (filter test front ++ (block ++ back)) = rising-some test 0 [] front (block ++ back) r in
    let long : (filter test front ++ block) ++ (back ++ []) ≡ filter test front ++ (block ++ back) = append_assoc (filter test front) block (back ++ []) ∙ ap (λ l. filter test front ++ (block ++ l)) (append-nil back) in
    let short : (filter test front ++ block) ++ (filter test back ++ []) ≡ filter test front ++ (block ++ filter test back) = append_assoc (filter test front) block (filter test back ++ []) ∙ ap (λ l. filter test front ++ (block ++ l)) (append-nil (filter test back)) in
    subst IsRising short (rising-some test 0 (filter test front ++ block) back [] (subst IsRising (sym long) ahead))

-- those of the rows that pass a test, after an edit
some-after : (test : Piece → Bool) (old new : List Piece) (edit : Edit) → IsExact old new edit → IsRising old → IsRising new
    → filter test new ≡ with_each (filter test edit.insert.items) (without_each edit.delete.items (filter test old))
some-after test old new edit exact was now =
    let front = filter test exact.before in
    let back = filter test exact.after in
    let split : (middle : List Piece) → filter test (exact.before ++ (middle ++ exact.after)) ≡ front ++ (filter test middle ++ back) =
    λ middle. filter-append test exact.before (middle ++ exact.after) ∙ ap (λ l. front ++ l) (filter-append test middle exact.after) in
    let old_is : filter test old ≡ front ++ (filter test exact.deleted ++ back) = ap (filter test) exact.was ∙ split exact.deleted in
    let new_is : filter test new ≡ front ++ (filter test edit.insert.items ++ back) = ap (filter test) exact.becomes ∙ split edit.insert.items in
    let kept : without_each (map (λ p. p.first) exact.deleted) (front ++ (filter test exact.deleted ++ back)) ≡ front ++ back =
    without-some test front exact.deleted back (some-rising test exact.before exact.deleted exact.after (subst IsRising exact.was was)) in
    let risen : IsRising (front ++ (filter test edit.insert.items ++ back)) = subst IsRising new_is (filter-rising test 0 new now) in
    new_is ∙ sym (with-block front (filter test edit.insert.items) back risen)
    ∙ ap (with_each (filter test edit.insert.items)) (sym kept ∙ rw (exact.named, old_is) refl)

-- the rows near a range after some edits are found from those before
pub meeting-after : (range : Numbers) (rows : List Piece) (es : List Edit) → IsRising rows → AreEditsOf rows es → meeting range (edited_all es rows) ≡ near_after range es (meeting range rows)
meeting-after range rows [] r are = refl
meeting-after range rows (e ∷ es) r are =
    let here = some-after (is_near range) rows (edited e rows) e are.0.exact r are.0.disjoint in
    meeting-after range (edited e rows) es are.0.disjoint are.1 ∙ ap (near_after range es) here
