-- A change of the rows near a range, seen as a change of all rows.
use Rattle.std.proofs.Common.{◌≡◌, ℕ, zero, suc, ◌+◌, ◌-◌, ◌<◌, ◌≤◌, List, [], ◌∷◌, ◌++◌, Bool, true, false, Option, Some, None, refl, ap, sym, subst, ◌∙◌, ⊎_elim, arith, append_assoc}
use Rattle.std.specs.Prelude.{max, find}
use Rattle.std.specs.FinMap.{get}
use Rattle.std.proofs.lemmas.Bool.{cases_lt}
use Rattle.std.proofs.lemmas.Bool.Decides.{nat_tests}
use Rattle.goo_types.specs.Range.{Numbers}
use Rattle.goo_spec.specs.Maps.{numbers_from, each, least_absent, least_failing}
use Rattle.goo_spec.specs.Lots.{Certificates, is_absent, fails}
use Rattle.goo_ranges_pieces.specs.Walk.{end_of}
use Rattle.goo_types.specs.declared.piece.Piece.{Piece}
use Rattle.goo_types.specs.declared.lot_fields.LotFields.{LotFields}
use Rattle.goo_types.specs.declared.place.Place.{Place}
use Rattle.goo_ranges.specs.declared.edits.Edit.{Edit}
use Rattle.goo_types.specs.Piece.{Label, label_of, at_of, IsRising, IsRisingFrom}
use Rattle.goo_spec.specs.Runs.{IsApart}
use Rattle.goo_ranges.specs.Edit.{IsExact}
use Rattle.goo_ranges.specs.Change.{inside}
use Rattle.goo_ranges_pieces.proofs.Covers.{covers-inside, covers-above, or_else, at_of-append}
use Rattle.goo_ranges_pieces.proofs.Changing.{or_else-none}
use Rattle.goo_ranges.proofs.Keeping.{rising-max}
use Rattle.goo_ranges.proofs.Maximal.{apart-front, apart-back, apart-append, joint-left, joint-right}
use Rattle.goo_ranges_pieces.proofs.Rising.{end_of-append, end_of-low, rising-weaken, rising-append, rising-front, rising-back, at_of-below, at_of-above}
use Rattle.goo_ranges_rows.specs.Rows.{AreRowsOf, is_near, meeting, edited}
use Rattle.goo_ranges_rows.proofs.Editing.{edited-whole}

-- the rows that a range meets or is next to stand together
pub record IsMet (all met : List Piece) (first last : ℕ) : Type 0 where
  pub front : List Piece
  pub back : List Piece
  pub whole : all ≡ front ++ (met ++ back)
  pub below : end_of 0 front ≤ first - 1
  pub above : IsRisingFrom (last + 2) back

met-none : (low : ℕ) (range : Numbers) (rows : List Piece) → range.last + 2 ≤ low → IsRisingFrom low rows → meeting range rows ≡ []
met-none low range [] far r = refl
met-none low range (p ∷ ps) far r =
    let here : low ≤ p.first = r.0 in
    let forward : p.first ≤ p.last = r.1.0 in
    let e : is_near range p ≡ false = grind (arith, nat_tests) in
    rw e (met-none (p.last + 1) range ps (omega arith) r.2)

record IsTail (range : Numbers) (rows : List Piece) : Type 0 where
  back : List Piece
  whole : rows ≡ meeting range rows ++ back
  above : IsRisingFrom (range.last + 2) back

met-tail : (low : ℕ) (range : Numbers) (rows : List Piece) → range.first ≤ low + 1 → IsRisingFrom low rows → IsTail range rows
met-tail low range [] near r = record { back = []; whole = refl; above = tt }
met-tail low range (p ∷ ps) near r =
    let here : low ≤ p.first = r.0 in
    let forward : p.first ≤ p.last = r.1.0 in
    ⊎_elim
    (λ (far : range.last + 1 < p.first).
    let rising : IsRisingFrom (range.last + 2) (p ∷ ps) = (omega arith, r.1, r.2) in
    let none = met-none (range.last + 2) range (p ∷ ps) (omega arith) rising in
    record { back = p ∷ ps; whole = rw none refl; above = rising })
    (λ (close : p.first ≤ range.last + 1).
    let rest = met-tail (p.last + 1) range ps (omega arith) r.2 in
    let e : is_near range p ≡ true = grind (arith, nat_tests) in
    record { back = rest.back; whole = rw e (ap (λ l. p ∷ l) rest.whole); above = rest.above })
    (cases_lt (range.last + 1) p.first)

record IsSplit (base : ℕ) (range : Numbers) (rows : List Piece) : Type 0 where
  front : List Piece
  back : List Piece
  whole : rows ≡ front ++ (meeting range rows ++ back)
  below : end_of base front ≤ range.first - 1
  above : IsRisingFrom (range.last + 2) back

split : (base low : ℕ) (range : Numbers) (rows : List Piece) → base ≤ range.first - 1 → IsRisingFrom low rows → IsSplit base range rows
split base low range [] small r = record { front = []; back = []; whole = refl; below = small; above = tt }
split base low range (p ∷ ps) small r =
    ⊎_elim
    (λ (before : p.last + 1 < range.first).
    let rest = split (p.last + 1) (p.last + 1) range ps (omega arith) r.2 in
    let e : is_near range p ≡ false = grind (arith, nat_tests) in
    record { front = p ∷ rest.front; back = rest.back; whole = rw e (ap (λ l. p ∷ l) rest.whole); below = rest.below; above = rest.above })
    (λ (from : range.first ≤ p.last + 1).
    let here = met-tail-from low range p ps from r in
    record { front = []; back = here.back; whole = here.whole; below = small; above = here.above })
    (cases_lt (p.last + 1) range.first)
  where
    met-tail-from : (low : ℕ) (range : Numbers) (p : Piece) (ps : List Piece) → range.first ≤ p.last + 1 → IsRisingFrom low (p ∷ ps) → IsTail range (p ∷ ps)
    met-tail-from low range p ps from r =
        let forward : p.first ≤ p.last = r.1.0 in
        ⊎_elim
        (λ (far : range.last + 1 < p.first).
        let rising : IsRisingFrom (range.last + 2) (p ∷ ps) = (omega arith, r.1, r.2) in
        let none = met-none (range.last + 2) range (p ∷ ps) (omega arith) rising in
        record { back = p ∷ ps; whole = rw none refl; above = rising })
        (λ (close : p.first ≤ range.last + 1).
        let rest = met-tail (p.last + 1) range ps (omega arith) r.2 in
        let e : is_near range p ≡ true = grind (arith, nat_tests) in
        record { back = rest.back; whole = rw e (ap (λ l. p ∷ l) rest.whole); above = rest.above })
        (cases_lt (range.last + 1) p.first)

pub met-block : (range : Numbers) (rows : List Piece) → IsRising rows → IsMet rows (meeting range rows) range.first range.last
met-block range rows r =
    let s = split 0 0 range rows (omega arith) r in
    record { front = s.front; back = s.back; whole = s.whole; below = s.below; above = s.above }

-- bounds of a rising list from its map
rising-by_map : (low base : ℕ) (ps : List Piece) → IsRisingFrom base ps → ((n : ℕ) → n < low → at_of ps n ≡ None) → IsRisingFrom low ps
rising-by_map low base [] r none = tt
rising-by_map low base (p ∷ ps) r none =
    let forward : p.first ≤ p.last = r.1.0 in
    let here = covers-inside p p.first (omega arith) forward in
    ⊎_elim
    (λ (lt : p.first < low). let gone = none p.first lt in let clash : Some (label_of p) ≡ None = rw here at gone in absurd (cc))
    (λ (le : low ≤ p.first). (le, r.1, r.2))
    (cases_lt p.first low)

end-by_map : (low high : ℕ) (ps : List Piece) → low ≤ high → IsRisingFrom low ps → ((n : ℕ) → high ≤ n → at_of ps n ≡ None) → end_of low ps ≤ high
end-by_map low high [] le r none = le
end-by_map low high (p ∷ ps) le r none =
    let forward : p.first ≤ p.last = r.1.0 in
    let here = covers-inside p p.last forward (omega arith) in
    ⊎_elim
    (λ (lt : p.last < high). end-by_map (p.last + 1) high ps (omega arith) r.2 (λ n h. let e = covers-above p n (omega arith) in let gone = none n h in rw e at gone))
    (λ (ge : high ≤ p.last). let gone = none p.last ge in let clash : Some (label_of p) ≡ None = rw here at gone in absurd (cc))
    (cases_lt p.last high)

module _ (all met : List Piece) (first last : ℕ) (block : IsMet all met first last) (r : IsRising all) where
  three : IsRising (block.front ++ (met ++ block.back))
  three = rw (← block.whole) r

  front_rising : IsRising block.front
  front_rising = rising-front 0 block.front (met ++ block.back) three

  rest_rising : IsRisingFrom (end_of 0 block.front) (met ++ block.back)
  rest_rising = rising-back 0 block.front (met ++ block.back) three

  met_rising_from : IsRisingFrom (end_of 0 block.front) met
  met_rising_from = rising-front (end_of 0 block.front) met block.back rest_rising

  pub met_rising : IsRising met
  met_rising = rising-weaken 0 (end_of 0 block.front) met (omega arith) met_rising_from

  all_at : (n : ℕ) → at_of all n ≡ or_else (at_of block.front n) (or_else (at_of met n) (at_of block.back n))
  all_at n = rw (block.whole, at_of-append, at_of-append) refl

  pub apart-met : IsApart all → IsApart met
  apart-met a = apart-front met block.back (apart-back block.front (met ++ block.back) (rw (← block.whole) a))

  -- a number of the range is in no other row
  front_none : (n : ℕ) → first ≤ n → at_of block.front n ≡ None
  front_none n from = let b = block.below in at_of-above 0 block.front n front_rising (omega arith)

  back_none : (n : ℕ) → n ≤ last → at_of block.back n ≡ None
  back_none n to = at_of-below (last + 2) block.back n block.above (omega arith)

  pub met_at : (n : ℕ) → first ≤ n → n ≤ last → at_of met n ≡ at_of all n
  met_at n from to = sym (all_at n ∙ rw (front_none n from, back_none n to, or_else-none) refl)

  module _ (new : List Piece) (up : first ≤ last) (rising : IsRising new) (change : ℕ → Option Label → Option Label)
      (outside : (n : ℕ) (o : Option Label) → inside first last n ≡ false → change n o ≡ o)
      (changes : (n : ℕ) → at_of new n ≡ change n (at_of met n)) where
    low_new : IsRisingFrom (end_of 0 block.front) new
    low_new = rising-by_map (end_of 0 block.front) 0 new rising (λ n h.
        let b = block.below in
        let out : inside first last n ≡ false = grind (arith, nat_tests) in
        changes n ∙ outside n (at_of met n) out ∙ at_of-below (end_of 0 block.front) met n met_rising_from h)

    abbrev high : ℕ
    high = max (end_of (end_of 0 block.front) met) (last + 2)

    end_new : end_of (end_of 0 block.front) new ≤ high
    end_new =
        let b = end_of-low (end_of 0 block.front) met met_rising_from in
        end-by_map (end_of 0 block.front) high new (omega arith) low_new (λ n h.
        let out : inside first last n ≡ false = grind (arith, nat_tests) in
        changes n ∙ outside n (at_of met n) out ∙ at_of-above (end_of 0 block.front) met n met_rising_from (omega arith))

    back_rising : IsRisingFrom high block.back
    back_rising = rising-max (end_of (end_of 0 block.front) met) (last + 2) block.back (rising-back (end_of 0 block.front) met block.back rest_rising) block.above

    pub framed-rising : IsRising (block.front ++ (new ++ block.back))
    framed-rising = rising-append 0 block.front (new ++ block.back) front_rising
        (rising-append (end_of 0 block.front) new block.back low_new (rising-weaken (end_of (end_of 0 block.front) new) high block.back end_new back_rising))

    new_at : (n : ℕ) → at_of (block.front ++ (new ++ block.back)) n ≡ or_else (at_of block.front n) (or_else (at_of new n) (at_of block.back n))
    new_at n = rw (at_of-append, at_of-append) refl

    framed-outside : (n : ℕ) → inside first last n ≡ false → at_of (block.front ++ (new ++ block.back)) n ≡ at_of all n
    framed-outside n out = new_at n ∙ ap (λ o. or_else (at_of block.front n) (or_else o (at_of block.back n))) (changes n ∙ outside n (at_of met n) out) ∙ sym (all_at n)

    pub framed-same : (n : ℕ) → at_of (block.front ++ (new ++ block.back)) n ≡ change n (at_of all n)
    framed-same n =
        ⊎_elim
        (λ (before : n < first). let out : inside first last n ≡ false = grind (arith, nat_tests) in framed-outside n out ∙ sym (outside n (at_of all n) out))
        (λ (from : first ≤ n). ⊎_elim
        (λ (after : last < n). let out : inside first last n ≡ false = grind (arith, nat_tests) in framed-outside n out ∙ sym (outside n (at_of all n) out))
        (λ (to : n ≤ last).
        let alone : at_of (block.front ++ (new ++ block.back)) n ≡ at_of new n = new_at n ∙ rw (front_none n from, back_none n to, or_else-none) refl in
        alone ∙ changes n ∙ ap (change n) (met_at n from to))
        (cases_lt last n))
        (cases_lt n first)

    pub framed-apart : IsApart all → IsApart new → IsApart (block.front ++ (new ++ block.back))
    framed-apart a apart =
        let front = block.front in
        let after = block.back in
        let whole = sym block.whole in
        let apart_three : IsApart (front ++ (met ++ after)) = rw whole a in
        let apart_after : IsApart after = apart-back met after (apart-back front (met ++ after) apart_three) in
        let second : IsApart (new ++ after) =
        apart-append new after apart apart_after (λ ahead q p back e f.
        let old : all ≡ (front ++ met) ++ p ∷ back = sym whole ∙ sym (append_assoc front met after) ∙ ap (λ l. (front ++ met) ++ l) f in
        let now : front ++ (new ++ after) ≡ (front ++ ahead) ++ q ∷ (p ∷ back) = rw (e, f) (simp append_assoc) in
        let above = subst (IsRisingFrom (last + 2)) f block.above in
        λ follows.
        let next : q.last + 1 ≡ p.first = follows.0 in
        let far : last + 2 ≤ p.first = above.0 in
        let out_of_it : inside first last q.last ≡ false = grind (arith, nat_tests) in
        joint-right (front ++ ahead) q (front ++ met) p back (subst IsRising old r) (subst IsApart old a) (subst IsRising now framed-rising)
        (ap (λ l. at_of l q.last) (sym now) ∙ framed-outside q.last out_of_it ∙ ap (λ l. at_of l q.last) old) follows)
        in
        apart-append front (new ++ after) (apart-front front (met ++ after) apart_three) second (λ ahead q p back e f.
        let old : all ≡ ahead ++ q ∷ (met ++ after) = sym whole ∙ rw e (simp append_assoc) in
        let now : front ++ (new ++ after) ≡ (ahead ++ q ∷ []) ++ (p ∷ back) = rw (e, f) refl in
        let end : end_of 0 front ≡ q.last + 1 = rw e (end_of-append 0 ahead (q ∷ [])) in
        let low : end_of 0 front ≤ first - 1 = block.below in
        let out_of_it : inside first last (q.last + 1) ≡ false = grind (arith, nat_tests) in
        joint-left ahead q (met ++ after) p back (subst IsRising old r) (subst IsApart old a) (subst IsRising now framed-rising)
        (ap (λ l. at_of l (q.last + 1)) (sym now) ∙ framed-outside (q.last + 1) out_of_it ∙ ap (λ l. at_of l (q.last + 1)) old))

    pub framed-edited : (edit : Edit) → IsExact met new edit → edited edit all ≡ block.front ++ (new ++ block.back)
    framed-edited edit exact = ap (edited edit) block.whole ∙ edited-whole block.front met new block.back edit exact three framed-rising

-- What a book of the met rows does, all rows do.
module _ (at : Certificates) (rows : List Piece) (range : Numbers) (kept : AreRowsOf at rows) where
  block : IsMet rows (meeting range rows) range.first range.last
  block = met-block range rows kept.disjoint

  pub meeting_rising : IsRising (meeting range rows)
  meeting_rising = met_rising rows (meeting range rows) range.first range.last block kept.disjoint

  pub meeting-at : (n : ℕ) → range.first ≤ n → n ≤ range.last → at_of (meeting range rows) n ≡ get at n
  meeting-at n from to = met_at rows (meeting range rows) range.first range.last block kept.disjoint n from to ∙ kept.same n

  module _ (new : List Piece) (edit : Edit) (up : range.first ≤ range.last) (rising : IsRising new) (exact : IsExact (meeting range rows) new edit)
      (change : ℕ → Option Label → Option Label)
      (outside : (n : ℕ) (o : Option Label) → inside range.first range.last n ≡ false → change n o ≡ o)
      (changes : (n : ℕ) → at_of new n ≡ change n (at_of (meeting range rows) n)) where
    becomes : edited edit rows ≡ block.front ++ (new ++ block.back)
    becomes = framed-edited rows (meeting range rows) range.first range.last block kept.disjoint new up rising change outside changes edit exact

    pub edited-rows : (after : Certificates) → ((n : ℕ) → get after n ≡ change n (get at n)) → AreRowsOf after (edited edit rows)
    edited-rows after so = record {
      disjoint = rw becomes (framed-rising rows (meeting range rows) range.first range.last block kept.disjoint new up rising change outside changes);
      same = λ n. rw becomes (framed-same rows (meeting range rows) range.first range.last block kept.disjoint new up rising change outside changes n ∙ ap (change n) (kept.same n) ∙ sym (so n));
    }

    pub edited-apart : (IsApart (meeting range rows) → IsApart new) → IsApart rows → IsApart (edited edit rows)
    edited-apart apart a = rw becomes (framed-apart rows (meeting range rows) range.first range.last block kept.disjoint new up rising change outside changes a (apart (apart-met rows (meeting range rows) range.first range.last block kept.disjoint a)))

-- the same number is found
find-alike : (f g : ℕ → Bool) (count low : ℕ) → ((n : ℕ) → low ≤ n → n < low + count → f n ≡ g n) → find f (numbers_from low count) ≡ find g (numbers_from low count)
find-alike f g zero low same = refl
find-alike f g (suc count) low same =
    let here : f low ≡ g low = same low (omega arith) (omega arith) in
    let rest = find-alike f g count (low + 1) (λ n a b. same n (omega arith) (omega arith)) in
    rw (here, rest) refl

pub found-alike : (test : Option Label → Bool) (at : Certificates) (rows : List Piece) (range : Numbers) → AreRowsOf at rows → find (λ n. test (at_of (meeting range rows) n)) (each range) ≡ find (λ n. test (get at n)) (each range)
found-alike test at rows range kept =
    find-alike (λ n. test (at_of (meeting range rows) n)) (λ n. test (get at n)) (suc range.last - range.first) range.first (λ n from to. ap test (meeting-at at rows range kept n from (omega arith)))

-- the checks of a command on the range answer the same of the met rows as of the state
pub absent-alike : (at : Certificates) (rows : List Piece) (range : Numbers) → AreRowsOf at rows → least_absent (at_of (meeting range rows)) (each range) ≡ least_absent (get at) (each range)
absent-alike = found-alike is_absent

pub failing-alike : (passes : LotFields → Place → Bool) (at : Certificates) (rows : List Piece) (range : Numbers) → AreRowsOf at rows
    → least_failing passes (at_of (meeting range rows)) (each range) ≡ least_failing passes (get at) (each range)
failing-alike passes = found-alike (fails passes)
