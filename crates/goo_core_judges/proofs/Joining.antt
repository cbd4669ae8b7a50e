-- Parts of a notice with one more stretch behind them.
use Rattle.std.proofs.Common.{◌≡◌, ◌≢◌, ◌∙◌, ℕ, ◌+◌, ◌<◌, ◌≤◌, List, [], ◌∷◌, ◌++◌, Option, Some, refl, ap, sym, subst, arith}
use Rattle.std.proofs.Common.{⊎_elim}
use Rattle.std.proofs.lemmas.Bool.{cases_lt}
use Rattle.goo_types.specs.Piece.{Label}
use Rattle.goo_types.specs.Range.{Numbers}
use Rattle.goo_types.specs.declared.lot_fields.LotFields.{LotFields}
use Rattle.goo_types.specs.declared.part.Part.{Part}
use Rattle.goo_spec.specs.Lots.{lot_in}
use Rattle.goo_spec.specs.Parts.{AreInRow, LotsChange, HaveLots}
use Rattle.goo_core_judges.specs.Parts.{IsLonger}

row-push : (first : ℕ) (ps : List Part) (p : Part) → AreInRow first p.range.first ps → p.range.first ≤ p.range.last → AreInRow first (p.range.last + 1) (ps ++ p ∷ [])
row-push first [] p row up = (sym row, subst (λ (k : ℕ). k ≤ p.range.last) (sym row) up, refl)
row-push first (q ∷ ps) p row up = (row.0, row.1, row-push (q.range.last + 1) ps p row.2 up)

record IsLastOf (first end : ℕ) (ps : List Part) (p : Part) : Type 0 where
  before : AreInRow first p.range.first ps
  up : p.range.first ≤ p.range.last
  stops : end ≡ p.range.last + 1

row-pop : (first end : ℕ) (ps : List Part) (p : Part) → AreInRow first end (ps ++ p ∷ []) → IsLastOf first end ps p
row-pop first end [] p row = record { before = sym row.0; up = subst (λ (k : ℕ). k ≤ p.range.last) (sym row.0) row.1; stops = sym row.2 }
row-pop first end (q ∷ ps) p row = let later = row-pop (q.range.last + 1) end ps p row.2 in record { before = (row.0, row.1, later.before); up = later.up; stops = later.stops }

-- a last part of another lot
change-push : (ps : List Part) (p q : Part) → LotsChange (ps ++ p ∷ []) → ¬ (p.lot ≡ q.lot) → LotsChange (ps ++ p ∷ q ∷ [])
change-push [] p q change other = (other, (tt, tt))
change-push (r ∷ []) p q change other = (change.0, (other, (tt, tt)))
change-push (r ∷ s ∷ ps) p q change other = (change.0, change-push (s ∷ ps) p q change.1 other)

-- the last part's numbers don't matter
change-same : (ps : List Part) (p q : Part) → p.lot ≡ q.lot → LotsChange (ps ++ p ∷ []) → LotsChange (ps ++ q ∷ [])
change-same [] p q same change = (tt, tt)
change-same (r ∷ []) p q same change = (λ is. change.0 (is ∙ sym same), (tt, tt))
change-same (r ∷ s ∷ ps) p q same change = (change.0, change-same (s ∷ ps) p q same change.1)

lots-push : (at : ℕ → Option Label) (ps : List Part) (p : Part) → HaveLots at ps → ((n : ℕ) → p.range.first ≤ n → n ≤ p.range.last → lot_in (at n) ≡ Some p.lot) → HaveLots at (ps ++ p ∷ [])
lots-push at [] p lots has = (has, tt)
lots-push at (q ∷ ps) p lots has = (lots.0, lots-push at ps p lots.1 has)

lots-front : (at : ℕ → Option Label) (ps : List Part) (p : Part) → HaveLots at (ps ++ p ∷ []) → HaveLots at ps
lots-front at [] p lots = tt
lots-front at (q ∷ ps) p lots = (lots.0, lots-front at ps p lots.1)

lots-last : (at : ℕ → Option Label) (ps : List Part) (p : Part) → HaveLots at (ps ++ p ∷ []) → (n : ℕ) → p.range.first ≤ n → n ≤ p.range.last → lot_in (at n) ≡ Some p.lot
lots-last at [] p lots = lots.0
lots-last at (q ∷ ps) p lots = lots-last at ps p lots.1

-- the first part
pub longer_first : (range : Numbers) (lot : LotFields) → IsLonger [] range lot (record { range = range; lot = lot } ∷ [])
longer_first range lot = record {
  row = λ first row up. row-push first [] (record { range = range; lot = lot }) row up;
  longest = λ first row change. (tt, tt);
  lots = λ at first row lots has. (has, tt);
}

append-two : (ps : List Part) (p q : Part) → (ps ++ p ∷ []) ++ q ∷ [] ≡ ps ++ p ∷ q ∷ []
append-two [] p q = refl
append-two (r ∷ ps) p q = ap (λ l. r ∷ l) (append-two ps p q)

-- a part of another lot than the last one's
pub longer_other : (ps : List Part) (p : Part) (range : Numbers) (lot : LotFields) → (p.range.last + 1 ≡ range.first → ¬ (p.lot ≡ lot)) → IsLonger (ps ++ p ∷ []) range lot ((ps ++ p ∷ []) ++ record { range = range; lot = lot } ∷ [])
longer_other ps p range lot other = record {
  row = λ first row up. row-push first (ps ++ p ∷ []) (record { range = range; lot = lot }) row up;
  longest = λ first row change. subst LotsChange (sym (append-two ps p (record { range = range; lot = lot }))) (change-push ps p (record { range = range; lot = lot }) change (other (sym (row-pop first range.first ps p row).stops)));
  lots = λ at first row lots has. lots-push at (ps ++ p ∷ []) (record { range = range; lot = lot }) lots has;
}

-- the last part, longer
longer_joined : (ps : List Part) (p q : Part) (range : Numbers) (lot : LotFields) → p.lot ≡ lot → q.lot ≡ lot → q.range.first ≡ p.range.first → q.range.last ≡ range.last
    → IsLonger (ps ++ p ∷ []) range lot (ps ++ q ∷ [])
longer_joined ps p q range lot was is starts ends = record {
  row = λ first row up.
      let last = row-pop first range.first ps p row in
      let before : AreInRow first q.range.first ps = subst (λ (k : ℕ). AreInRow first k ps) (sym starts) last.before in
      let stops : range.first ≡ p.range.last + 1 = last.stops in
      let forward : p.range.first ≤ p.range.last = last.up in
      let here : q.range.first ≤ q.range.last = omega (arith, starts, ends, stops, forward, up) in
      subst (λ (k : ℕ). AreInRow first (k + 1) (ps ++ q ∷ [])) ends (row-push first ps q before here);
  longest = λ first row. change-same ps p q (was ∙ sym is);
  lots = λ at first row lots has.
      let last = row-pop first range.first ps p row in
      let stops : range.first ≡ p.range.last + 1 = last.stops in
      lots-push at ps q (lots-front at ps p lots) (λ n from to. ⊎_elim
      (λ (late : p.range.last < n). has n (omega (arith, stops, late)) (omega (arith, to, ends)) ∙ ap (λ (l : LotFields). Some l) (sym is))
      (λ (early : n ≤ p.range.last). lots-last at ps p lots n (omega (arith, from, starts)) early ∙ ap (λ (l : LotFields). Some l) (was ∙ sym is))
      (cases_lt p.range.last n));
}

pub joined_longer : (old ps new : List Part) (p q : Part) (range : Numbers) (lot : LotFields) → old ≡ ps ++ p ∷ [] → new ≡ ps ++ q ∷ [] → p.lot ≡ lot → q.lot ≡ lot
    → q.range.first ≡ p.range.first → q.range.last ≡ range.last → IsLonger old range lot new
joined_longer old ps new p q range lot before after was is starts ends = rw (before, after) (longer_joined ps p q range lot was is starts ends)

pub other_longer : (old ps mid new : List Part) (p : Part) (range : Numbers) (lot : LotFields) → old ≡ ps ++ p ∷ [] → mid ≡ ps ++ p ∷ [] → new ≡ mid ++ record { range = range; lot = lot } ∷ []
    → (p.range.last + 1 ≡ range.first → p.lot ≢ lot) → IsLonger old range lot new
other_longer old ps mid new p range lot before again after other = rw (before, after, again) (longer_other ps p range lot other)
