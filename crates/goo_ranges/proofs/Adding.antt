-- A new piece in a book, joined with its neighbours.
use Rattle.std.proofs.Common.{◌≡◌, ℕ, ◌+◌, ◌-◌, ◌≤◌, ◌<◌, List, [], ◌∷◌, ◌++◌, false, Some, length, get_or, take, drop, ap, sym, subst, ◌∙◌, ⊎_elim, arith, get_or-drop, length-drop}
use Rattle.std.specs.List.{count_by}
use Rattle.std.proofs.lemmas.Bool.{cases_lt}
use Rattle.std.proofs.lemmas.Bool.Decides.{nat_tests}
use Rattle.goo_types.specs.Number.{code_of, serial_of}
use Rattle.goo_types.specs.declared.piece.Piece.{Piece}
use Rattle.goo_types.specs.Piece.{label_of, at_of, IsRising, IsRisingFrom}
use Rattle.goo_spec.specs.Runs.{IsApart}
use Rattle.goo_ranges_pieces.specs.Change.{inside, set_to, meets, IsSet}
use Rattle.goo_ranges_pieces.specs.Joining.{IsJoining}
use Rattle.goo_ranges_pieces.specs.Touching.{AreMet, IsJoinedBefore, IsFreeBefore, IsJoinedAfter, IsFreeAfter, IsAround, IsWidened}
use Rattle.goo_ranges_pieces.specs.Walk.{end_of}
use Rattle.goo_ranges_pieces.proofs.Covers.{covers-inside, at_of-append}
use Rattle.goo_ranges_pieces.proofs.Joining.{take-piece}
use Rattle.goo_ranges_pieces.proofs.Rest.{drop-piece}
use Rattle.goo_ranges_pieces.proofs.Rising.{end_of-append}
use Rattle.goo_ranges_pieces.proofs.Touching.{between-rising}
use Rattle.goo_ranges.specs.Sparing.{AreSpared}
use Rattle.goo_ranges.proofs.Maximal.{not-after, not-before}
use Rattle.goo_ranges.proofs.Sparing.{head-of_take, head-met, last-met, block-last}
use Rattle.goo_ranges.proofs.Few.{few-replaced}
use Rattle.goo_ranges.proofs.Keeping.{cut-rising, added-rising, added-same, added-apart, added-few}
use Rattle.goo_ranges.proofs.Reaching.{IsReady, IsDone, ready-before, done-after, given-more, last-taken, piece-in}

module _ (ps : List Piece) (new wide : Piece) (begin end : ℕ) (cut : List Piece) (r : IsRising ps) (one_code : code_of new.first ≡ code_of new.last) (up : new.first ≤ new.last) (w : IsWidened ps new begin end wide)
    (set : IsSet wide.first wide.last (label_of wide) (take (end - begin) (drop begin ps)) cut) where
  ready : IsReady ps w.from new begin wide.first
  ready =
      let order : w.from ≤ w.to = w.meeting.order in
      let bound : w.to ≤ length ps = w.meeting.bound in
      ready-before ps w.from new begin wide.first r (omega arith) w.meeting.below w.before

  done : IsDone ps w.to new end wide.last
  done = done-after ps w.to new end wide.last r w.meeting.bound w.meeting.above w.after

  some : 1 ≤ wide.first
  some = let serial : 1 ≤ serial_of wide.first = w.valid.1.0 in omega arith

  around : IsAround ps wide.first wide.last begin end
  around =
      let order : w.from ≤ w.to = w.meeting.order in
      let one : begin ≤ w.from = ready.order in
      let two : w.to ≤ end = done.order in
      record { order = omega arith; bound = done.bound; some = some; below = ready.below; above = done.above }

  pub in_order : begin ≤ end
  in_order = around.order

  wide_up : wide.first ≤ wide.last
  wide_up =
      let one : wide.first ≤ new.first = ready.extends in
      let two : new.last ≤ wide.last = done.extends in
      omega arith

  wide_code : code_of wide.first ≡ code_of wide.last
  wide_code = ready.one_code ∙ one_code ∙ done.one_code

  pub cut_rises : IsRising cut
  cut_rises = cut-rising ps wide.first wide.last begin end (label_of wide) cut cut r wide_code wide_up around set

  module _ (out : List Piece) (joined : IsJoining cut out) where
    pub all_rise : IsRising (take begin ps ++ (out ++ drop end ps))
    all_rise = added-rising ps wide.first wide.last begin end (label_of wide) cut out r wide_code wide_up around set joined

    pub all_same : (n : ℕ) → at_of (take begin ps ++ (out ++ drop end ps)) n ≡ set_to new.first new.last (label_of new) n (at_of ps n)
    all_same n =
        added-same ps wide.first wide.last begin end (label_of wide) cut out r wide_code wide_up around set joined n
        ∙ ap (λ l. set_to wide.first wide.last l n (at_of ps n)) w.labelled
        ∙ given-more ps w.from w.to new begin wide.first end wide.last ready done up n

    pub all_apart : IsApart out → IsApart ps → IsApart (take begin ps ++ (out ++ drop end ps))
    all_apart = added-apart ps wide.first wide.last begin end (label_of wide) cut out r wide_code wide_up around set joined
        (λ front q e ends label. ready.seam front q e ends (label ∙ w.labelled) ∙ ap Some (sym w.labelled))
        (λ q back e starts label. done.seam q back e starts (label ∙ w.labelled) ∙ ap Some (sym w.labelled))

    few : (length (take (end - begin) (drop begin ps)) ≤ count_by (meets new.first new.last) ps + 2) × (length set.left + (1 + length set.right) ≤ count_by (meets new.first new.last) ps + 2)
    few = few-replaced ps new w.from w.to begin wide.first end wide.last (length set.left) (length set.right) set.end r some ready.extends up done.extends
        ready.order ready.near done.order done.near w.meeting w.before w.after set.before.few set.after.few

    pub few_deleted : length (take (end - begin) (drop begin ps)) ≤ count_by (meets new.first new.last) ps + 2
    few_deleted = few.0

    pub few_inserted : length out ≤ count_by (meets new.first new.last) ps + 2
    few_inserted = added-few ps wide.first wide.last begin end (label_of wide) cut out r wide_code wide_up around set joined (count_by (meets new.first new.last) ps + 2) few.1

    -- what is put in has the new piece's label at each of its numbers
    in_wide : (n : ℕ) → wide.first ≤ n → n ≤ wide.last → at_of out n ≡ Some (label_of wide)
    in_wide n a b =
        let begins : set.middle.first ≡ wide.first = set.begins in
        let stops : set.middle.last ≡ wide.last = set.stops in
        let left = set.before.same 0 (between-rising ps begin (end - begin) r) n in
        let positive = some in
        let below : inside 0 (wide.first - 1) n ≡ false = grind (arith, nat_tests) in
        let own = covers-inside set.middle n (omega (arith, begins, a)) (omega (arith, stops, b)) in
        joined.same 0 cut_rises n ∙ ap (λ l. at_of l n) set.whole ∙ at_of-append set.left (set.middle ∷ set.right) n ∙ rw (left, below, own) (ap Some set.labelled)

    out_rises : IsRising out
    out_rises = joined.rising 0 cut_rises

    before_spared : IsApart out → (p : Piece) (rest more : List Piece) → p.last < new.first → take (end - begin) (drop begin ps) ≡ p ∷ rest → out ≡ p ∷ more → ⊥
    before_spared apart p rest more lt e f =
        let h = head-of_take (drop begin ps) rest p (end - begin) e in
        ⊎_elim
        (λ (j : IsJoinedBefore ps w.from new begin wide.first).
        let is : p ∷ h.0 ≡ j.piece ∷ drop (begin + 1) ps = sym h.1 ∙ drop-piece ps begin j.piece j.bound j.here in
        let same : p ≡ j.piece = cc in
        let next : p.last + 1 ≡ new.first = ap (λ q. q.last + 1) same ∙ j.follows.0 in
        let label : label_of wide ≡ label_of p = w.labelled ∙ sym j.follows.1 ∙ ap label_of (sym same) in
        let ahead : wide.first ≤ new.first = ready.extends in
        let behind : new.last ≤ wide.last = done.extends in
        let at = in_wide (p.last + 1) (omega (arith, next, ahead)) (omega (arith, next, up, behind)) ∙ ap Some label in
        not-after 0 [] p more (subst IsRising f out_rises) (subst IsApart f apart) (subst (λ l. at_of l (p.last + 1) ≡ Some (label_of p)) f at))
        (λ (g : IsFreeBefore ps w.from new begin wide.first).
        let there : drop w.from ps ≡ p ∷ h.0 = ap (λ (i : ℕ). drop i ps) (sym g.same) ∙ h.1 in
        ⊎_elim
        (λ (none : w.to - w.from ≡ 0).
        let order : w.from ≤ w.to = w.meeting.order in
        let index : w.to ≡ w.from = omega (arith, none, order) in
        let above : IsRisingFrom (new.last + 1) (p ∷ h.0) = subst (IsRisingFrom (new.last + 1)) (ap (λ (i : ℕ). drop i ps) index ∙ there) w.meeting.above in
        let far : new.last + 1 ≤ p.first = above.0 in
        let forward : p.first ≤ p.last = above.1.0 in
        omega (arith, far, forward, lt, up))
        (λ (met : new.first ≤ p.last). omega (arith, met, lt))
        (head-met new.first new.last (w.to - w.from) (drop w.from ps) h.0 p there w.meeting.met))
        w.before

    behind_spared : IsApart out → (p : Piece) (rest more : List Piece) → new.last < p.first → take (end - begin) (drop begin ps) ≡ rest ++ p ∷ [] → out ≡ more ++ p ∷ [] → ⊥
    behind_spared apart p rest more lt e f =
        let bound : end ≤ length ps = done.bound in
        let order : begin ≤ end = in_order in
        let size = length-drop begin ps in
        let last = last-taken (drop begin ps) rest p (end - begin) (omega (arith, bound, size)) e in
        let some_there : 1 ≤ end - begin = last.0 in
        let index : begin + (end - begin - 1) ≡ end - 1 = omega (arith, some_there) in
        let here : p ≡ get_or ps (end - 1) p = last.1 ∙ get_or-drop begin ps (end - begin - 1) p ∙ ap (λ (k : ℕ). get_or ps k p) index in
        let facts = piece-in ps (end - 1) p r (omega (arith, bound, some_there)) here in
        let forward : p.first ≤ p.last = facts.1.0 in
        ⊎_elim
        (λ (j : IsJoinedAfter ps w.to new end wide.last).
        let at_to : end - 1 ≡ w.to = let n = j.next in omega (arith, n) in
        let there : p ≡ get_or ps w.to p = here ∙ ap (λ (k : ℕ). get_or ps k p) at_to in
        let is : p ∷ drop (w.to + 1) ps ≡ j.piece ∷ drop (w.to + 1) ps = sym (drop-piece ps w.to p j.bound there) ∙ drop-piece ps w.to j.piece j.bound j.here in
        let same : p ≡ j.piece = cc in
        let next : new.last + 1 ≡ p.first = j.follows.0 ∙ ap (λ q. q.first) (sym same) in
        let label : label_of wide ≡ label_of p = w.labelled ∙ j.follows.1 ∙ ap label_of (sym same) in
        let ahead : wide.first ≤ new.first = ready.extends in
        let behind : new.last ≤ wide.last = done.extends in
        let at = in_wide new.last (omega (arith, ahead, up)) behind ∙ ap Some label in
        not-before 0 more p [] new.last next (subst IsRising f out_rises) (subst IsApart f apart) (subst (λ l. at_of l new.last ≡ Some (label_of p)) f at))
        (λ (g : IsFreeAfter ps w.to new end wide.last).
        let at_end : end ≡ w.to = g.same in
        let there : p ≡ get_or ps (w.to - 1) p = here ∙ ap (λ (k : ℕ). get_or ps (k - 1) p) at_end in
        let within : w.to ≤ length ps = w.meeting.bound in
        ⊎_elim
        (λ (some_met : w.from < w.to).
        let met = subst (AreMet new.first new.last) (block-last ps w.from w.to p some_met within there) w.meeting.met in
        let reaches = last-met new.first new.last (take (w.to - 1 - w.from) (drop w.from ps)) p met in
        omega (arith, reaches, lt))
        (λ (none : w.to ≤ w.from).
        let order : w.from ≤ w.to = w.meeting.order in
        let near : w.from ≤ begin + 1 = ready.near in
        let one_back : w.to - 1 + 1 ≡ w.from = omega (arith, none, order, at_end, some_there) in
        let e_end : end_of 0 (take w.from ps) ≡ p.last + 1 =
        ap (λ (k : ℕ). end_of 0 (take k ps)) (sym one_back) ∙ ap (end_of 0) (take-piece ps (w.to - 1) p (omega (arith, within, at_end, some_there)) there) ∙ end_of-append 0 (take (w.to - 1) ps) (p ∷ []) in
        let below : end_of 0 (take w.from ps) ≤ new.first = w.meeting.below in
        omega (arith, e_end, below, forward, lt, up))
        (cases_lt w.from w.to))
        w.after

    -- a neighbour that is replaced is joined
    pub add_spares : IsApart out → AreSpared new.first new.last (take (end - begin) (drop begin ps)) out
    add_spares apart = record { before = before_spared apart; behind = behind_spared apart }
