-- What an import comes to.
use Rattle.std.proofs.Common.{◌≡◌, ◌∙◌, ℕ, Bool, true, false, cond, ◌==◌, ◌&&◌, List, [], ◌∷◌, ◌++◌, Option, Some, None, refl, ap, sym, subst, map, length, arith, zero, suc, ◌<◌, ◌≤◌, ⊎_elim, inl, inr}
use Rattle.std.specs.Prelude.{◌⊎◌, find, sum_by, All, AllPairs, Contains, slice_index_or, not, Result, Ok, Err, IfOk}
use Rattle.std.specs.Option.{option_or}
use Rattle.std.specs.FinMap.{get}
use Rattle.std.proofs.lemmas.Bool.Decides.{nat_tests}
use Rattle.std.proofs.lemmas.List.Elements.{All-head, All-tail}
use Rattle.goo_types.specs.Notice.{NoticeContents, IsWhole}
use Rattle.goo_types.specs.Number.{code_of}
use Rattle.goo_types.specs.Part.{GoesBefore}
use Rattle.goo_types.specs.Piece.{Label, at_of, IsRising}
use Rattle.goo_types.specs.declared.fault.Fault.{Fault}
use Rattle.goo_types.specs.Range.{IsRange}
use Rattle.goo_types.specs.declared.command.Import.{Import}
use Rattle.goo_types.specs.declared.lot_fields.LotFields.{LotFields}
use Rattle.goo_types.specs.declared.part.Part.{Part}
use Rattle.goo_types.specs.declared.piece.Piece.{Piece}
use Rattle.goo_types.specs.declared.place.Place.{Place}
use Rattle.goo_types.specs.declared.place.Place.TheVariants.{Held}
use Rattle.goo_types.specs.declared.refusal.Refusal.{Refusal}
use Rattle.goo_types.specs.declared.refusal.Refusal.TheVariants.{UnknownNumber, NumberTaken, LotDiffers, NoticeConflict}
use Rattle.goo_types.specs.declared.reply.Reply.TheVariants.{Imported}
use Rattle.goo_ranges.specs.Change.{inside, set_to}
use Rattle.goo_ranges.specs.declared.edits.Edit.{Edit}
use Rattle.goo_spec.specs.Checks.{first_refusal, when, naming}
use Rattle.goo_spec.specs.Import.{least_where, is_other, is_arrived, same_notice, is_other_lot, differs, entry_checks, import_refusal, import_reply, import_repeats, arrived_reply, taken, with_import}
use Rattle.goo_spec.specs.Fate.{taken_one}
use Rattle.goo_spec.specs.Lots.{Certificates, lot_in, is_absent, is_exported, same_lot, fails, key_of}
use Rattle.goo_spec.specs.Maps.{each, is_within, count_of, give_each, least_absent, least_failing}
use Rattle.goo_spec.specs.State.{State}
use Rattle.goo_spec.proofs.Fating.{fate_taken}
use Rattle.goo_spec.proofs.Naming.{least_by_part, absent_in_part, here_in_part, differing_in_part, length_numbered}
use Rattle.goo_ranges_rows.specs.Rows.{AreRowsOf, meeting}
use Rattle.goo_ranges_rows.proofs.Chains.{edits-turned}
use Rattle.goo_ranges_rows.proofs.Framing.{absent-alike, failing-alike}
use Rattle.goo_ranges_rows.proofs.Mapping.{get-give_each-range}
use Rattle.goo_core_shelf.proofs.Plans.{stay_rising}
use Rattle.goo_core_shelf.specs.Shelf.{arrival_of}
use Rattle.goo_core_shelf.specs.declared.found.Arrival.TheVariants as arrival
use Rattle.goo_core_moves.specs.Arrivals.{least_of, unknown_in, taken_in, differing_in, numbers_checks}
use Rattle.goo_core_judges.specs.Import.{standing_checks, number_checks, IsArriving, AreArriving, given, fresh_meaning, import_meaning}
use Rattle.goo_core_moves.specs.Ruling.{IsRuling}
use Rattle.goo_core_rules.specs.Changes.{AreSmall, AreOfLots, IsLotOf}
use Rattle.goo_core_rules.proofs.Lots.{lots_weaker}
use Rattle.goo_core_judges.specs.Taking.{ranges_of, lots_of, IsLotTaken, AreMet, IsTakeRuling}
use Rattle.goo_core_moves.specs.declared.arriving.Arriving.{Arriving}
use Rattle.goo_core_rules.specs.declared.ruling.Ruling.{Ruling}
use Rattle.goo_core_rules.specs.declared.ruling.Ruling.TheVariants.{Refused, Repeated, Passed}
use Rattle.goo_core_moves.proofs.Rulings.{passed_early}

pub met_all : (s : State) (rows : List Piece) (ps : List Part) (known : List Arriving) → AreArriving s rows ps known → AreMet rows known
met_all s rows [] [] are = tt
met_all s rows [] (a ∷ known) are = absurd are
met_all s rows (p ∷ ps) [] are = absurd are
met_all s rows (p ∷ ps) (a ∷ known) are =
    (are.0.met ∙ ap (λ (q : Part). meeting q.range rows) (sym are.0.part), met_all s rows ps known are.1)

-- a number below some parts is as it was
untaken : (place : Place) (ps : List Part) (n : ℕ) (o : Option Label) → All (λ (q : Part). n < q.range.first) ps → taken_one ps place n o ≡ o
untaken place [] n o below = refl
untaken place (q ∷ qs) n o below =
    let here : n < q.range.first = All-head (λ (r : Part). n < r.range.first) q qs below in
    let out : is_within q.range n ≡ false = grind (arith, nat_tests, here) in
    ap (λ b. taken_one qs place n (cond b (Some (q.lot, place)) o)) out ∙ untaken place qs n o (All-tail (λ (r : Part). n < r.range.first) q qs below)

first_or : {X : Type 0} (x : X) (xs : List X) (y : X) → Contains (x ∷ xs) y → (x ≡ y) ⊎ Contains xs y
first_or x xs y has = by has.0 has.1 has.2
  where
    by : (k : ℕ) → k < length (x ∷ xs) → slice_index_or (x ∷ xs) k y ≡ y → (x ≡ y) ⊎ Contains xs y
    by zero lt is = inl is
    by (suc k) lt is = inr (k, omega (arith, lt), is)

-- the lot of each part is there once all parts are taken in
part_there : (place : Place) (ps : List Part) (at : Certificates) (lot : LotFields) → All (λ p. IsRange p.range) ps → AllPairs GoesBefore ps → Contains (map (λ (p : Part). p.lot) ps) lot
    → (n : ℕ) × (lot_in (get (taken ps place at) n) ≡ Some lot)
part_there place [] at lot ranges order has = let none = has.1 in absurd (omega (arith, none))
part_there place (p ∷ ps) at lot ranges order has =
    let n = p.range.first in
    let next = give_each (each p.range) p.lot place at in
    let up : p.range.first ≤ p.range.last = (All-head (λ (q : Part). IsRange q.range) p ps ranges).rising in
    let below : All (λ (q : Part). n < q.range.first) ps = λ k d h. let before = (order 0 (suc k) d (omega arith) (omega (arith, h))).below in omega (arith, up, before) in
    let here : inside p.range.first p.range.last n ≡ true = grind (arith, nat_tests, up) in
    let given : get next n ≡ Some (p.lot, place) = get-give_each-range p.range p.lot place at n up ∙ ap (λ b. cond b (Some (p.lot, place)) (get at n)) here in
    let found : get (taken ps place next) n ≡ Some (p.lot, place) = fate_taken ps place next n ∙ untaken place ps n (get next n) below ∙ given in
    ⊎_elim
    (λ (same : p.lot ≡ lot). (n, ap lot_in found ∙ ap Some same))
    (λ (later : Contains (map (λ (q : Part). q.lot) ps) lot).
    part_there place ps next lot (All-tail (λ (q : Part). IsRange q.range) p ps ranges) (λ i j d l h. order (suc i) (suc j) d (omega (arith, l)) (omega (arith, h))) later)
    (first_or p.lot (map (λ (q : Part). q.lot) ps) lot has)

module _ (s : State) (rows : List Piece) (kept : AreRowsOf s.at rows) where
  -- what a part's book and lot say is what the state says
  unknown-same : (p : Part) (a : Arriving) → IsRange p.range → IsArriving s rows p a → find (λ n. (code_of n == s.own) && is_absent (get s.at n)) (each p.range) ≡ unknown_in s.own a
  unknown-same p a range is =
      let met : least_absent (get s.at) (each p.range) ≡ least_absent (at_of a.book) (each p.range) = sym (absent-alike s.at rows p.range kept) ∙ ap (λ l. least_absent (at_of l) (each p.range)) (sym is.met) in
      absent_in_part s p range
      ∙ ap (λ o. cond (code_of p.range.first == s.own) o None) met
      ∙ ap (λ (q : Part). cond (code_of q.range.first == s.own) (least_absent (at_of a.book) (each q.range)) None) (sym is.part)

  taken-same : (p : Part) (a : Arriving) → IsArriving s rows p a → find (λ n. fails (λ lot place. is_exported place) (get s.at n)) (each p.range) ≡ taken_in a
  taken-same p a is =
      here_in_part s p
      ∙ sym (failing-alike (λ lot place. is_exported place) s.at rows p.range kept)
      ∙ ap (λ l. least_failing (λ lot place. is_exported place) (at_of l) (each p.range)) (sym is.met)
      ∙ ap (λ (q : Part). least_failing (λ lot place. is_exported place) (at_of a.book) (each q.range)) (sym is.part)

  differing-same : (p : Part) (a : Arriving) → IsRange p.range → IsArriving s rows p a → find (λ n. differs s (n, p.lot)) (each p.range) ≡ differing_in a
  differing-same p a range is =
      let met : least_failing (λ lot place. same_lot lot p.lot) (get s.at) (each p.range) ≡ least_failing (λ lot place. same_lot lot p.lot) (at_of a.book) (each p.range)
      = sym (failing-alike (λ lot place. same_lot lot p.lot) s.at rows p.range kept) ∙ ap (λ l. least_failing (λ lot place. same_lot lot p.lot) (at_of l) (each p.range)) (sym is.met) in
      differing_in_part s p range.rising
      ∙ ap (λ o. cond (is_other_lot p.lot (get s.lots (key_of p.lot))) (Some p.range.first) o) met
      ∙ ap (λ o. cond (is_other_lot p.lot o) (Some p.range.first) (least_failing (λ lot place. same_lot lot p.lot) (at_of a.book) (each p.range))) (sym is.known)
      ∙ ap (λ (q : Part). cond (is_other_lot q.lot a.known) (Some q.range.first) (least_failing (λ lot place. same_lot lot q.lot) (at_of a.book) (each q.range))) (sym is.part)

  -- over all parts
  over : (test : ℕ × LotFields → Bool) (f : Arriving → Option ℕ) → ((p : Part) (a : Arriving) → IsRange p.range → IsArriving s rows p a → find (λ n. test (n, p.lot)) (each p.range) ≡ f a)
      → (ps : List Part) (known : List Arriving) → All (λ p. IsRange p.range) ps → AreArriving s rows ps known → least_where test ps ≡ least_of f known
  over test f same [] [] ranges are = refl
  over test f same [] (a ∷ known) ranges are = absurd are
  over test f same (p ∷ ps) [] ranges are = absurd are
  over test f same (p ∷ ps) (a ∷ known) ranges are =
      least_by_part test p ps
      ∙ (λ i. option_or (same p a (All-head (λ q. IsRange q.range) p ps ranges) are.0 i) (over test f same ps known (All-tail (λ q. IsRange q.range) p ps ranges) are.1 i))

  numbers-same : (x : Import) (known : List Arriving) → All (λ p. IsRange p.range) x.notice.parts → AreArriving s rows x.notice.parts known → first_refusal (number_checks s x) ≡ first_refusal (numbers_checks s.own known)
  numbers-same x known ranges are = λ i. first_refusal (
      naming UnknownNumber (over (λ e. (code_of e.0 == s.own) && is_absent (get s.at e.0)) (unknown_in s.own) unknown-same x.notice.parts known ranges are i)
      ∷ naming NumberTaken (over (λ e. fails (λ lot place. is_exported place) (get s.at e.0)) taken_in (λ p a range is. taken-same p a is) x.notice.parts known ranges are i)
      ∷ naming LotDiffers (over (differs s) differing_in differing-same x.notice.parts known ranges are i)
      ∷ [])

  -- what the parts make of a number is what the definition makes of it
  given-taken : (ps : List Part) (known : List Arriving) (account n : ℕ) (at : Certificates) → All (λ p. IsRange p.range) ps → AreArriving s rows ps known → given known account n (get at n) ≡ get (taken ps (Held account) at) n
  given-taken [] [] account n at ranges are = refl
  given-taken [] (a ∷ known) account n at ranges are = absurd are
  given-taken (p ∷ ps) [] account n at ranges are = absurd are
  given-taken (p ∷ ps) (a ∷ known) account n at ranges are =
      let range = All-head (λ q. IsRange q.range) p ps ranges in
      ap (λ (q : Part). given known account n (set_to q.range.first q.range.last (q.lot, Held account) n (get at n))) are.0.part
      ∙ ap (given known account n) (sym (get-give_each-range p.range p.lot (Held account) at n range.rising))
      ∙ given-taken ps known account n (give_each (each p.range) p.lot (Held account) at) (All-tail (λ q. IsRange q.range) p ps ranges) are.1

  listed_alike : (ps : List Part) (known : List Arriving) → AreArriving s rows ps known → length known ≡ length ps
  listed_alike [] [] are = refl
  listed_alike [] (a ∷ known) are = absurd are
  listed_alike (p ∷ ps) [] are = absurd are
  listed_alike (p ∷ ps) (a ∷ known) are = let rest = listed_alike ps known are.1 in omega (arith, rest)

  ranges_alike : (ps : List Part) (known : List Arriving) → AreArriving s rows ps known → ranges_of known ≡ map (λ (p : Part). p.range) ps
  ranges_alike [] [] are = refl
  ranges_alike [] (a ∷ known) are = absurd are
  ranges_alike (p ∷ ps) [] are = absurd are
  ranges_alike (p ∷ ps) (a ∷ known) are = λ i. (are.0.part i).range ∷ ranges_alike ps known are.1 i

  lots_alike : (ps : List Part) (known : List Arriving) → AreArriving s rows ps known → lots_of known ≡ map (λ (p : Part). p.lot) ps
  lots_alike [] [] are = refl
  lots_alike [] (a ∷ known) are = absurd are
  lots_alike (p ∷ ps) [] are = absurd are
  lots_alike (p ∷ ps) (a ∷ known) are = λ i. (are.0.part i).lot ∷ lots_alike ps known are.1 i

  -- the lots of the edits are there before or after
  lots_taken : (x : Import) (known : List Arriving) (es : List Edit) → IsWhole x.notice → AreArriving s rows x.notice.parts known → AreOfLots (IsLotTaken rows known) es
      → AreOfLots (IsLotOf (at_of rows) (get (taken x.notice.parts (Held x.notice.account) s.at))) es
  lots_taken x known es whole are lots =
      let after = taken x.notice.parts (Held x.notice.account) s.at in
      let there : (lot : LotFields) → IsLotTaken rows known lot → IsLotOf (at_of rows) (get after) lot =
      λ lot is. ⊎_elim
      (λ (before : (n : ℕ) × (lot_in (at_of rows n) ≡ Some lot)). (before.0, inl before.1))
      (λ (brought : Contains (lots_of known) lot).
      let part = part_there (Held x.notice.account) x.notice.parts s.at lot whole.ranges whole.notice.order (subst (λ l. Contains l lot) (lots_alike x.notice.parts known are) brought) in
      (part.0, inr part.1))
      is in
      lots_weaker (IsLotTaken rows known) (IsLotOf (at_of rows) (get after)) there es lots

  pub ruled_fresh : (x : Import) (known : List Arriving) (count : ℕ) (ruling : Ruling) → IsWhole x.notice → AreArriving s rows x.notice.parts known → count ≡ sum_by (λ p. count_of p.range) x.notice.parts
      → first_refusal (standing_checks s x) ≡ None → IsTakeRuling rows known s.own x.notice.account count ruling → IsRuling (fresh_meaning s x) rows ruling
  unfolding import_reply with_import
  ruled_fresh x known count (Refused r) whole are counted passed ruled =
      (refl, passed_early (standing_checks s x) (number_checks s x) passed ∙ numbers-same x known whole.ranges are ∙ ruled)
  ruled_fresh x known count (Repeated reply) whole are counted passed ruled = absurd ruled
  ruled_fresh x known count (Passed change) whole are counted passed ruled =
      let taken_edits = ruled.3 in
      record {
        fresh = refl;
        allowed = passed_early (standing_checks s x) (number_checks s x) passed ∙ numbers-same x known whole.ranges are ∙ ruled.0;
        answered = ruled.1 ∙ ap Imported (counted ∙ sym (length_numbered x.notice.parts));
        sent = ruled.2;
        rising = stay_rising change.edits.items rows kept.disjoint taken_edits.edits;
        turned = edits-turned (taken x.notice.parts (Held x.notice.account) s.at) rows change.edits.items kept.disjoint taken_edits.edits
            (λ n. taken_edits.changes n ∙ ap (given known x.notice.account n) (kept.same n) ∙ given-taken x.notice.parts known x.notice.account n s.at whole.ranges are);
        few = let e = listed_alike x.notice.parts known are in omega (arith, e, taken_edits.one_each);
        small = subst (λ l. AreSmall l rows change.edits.items) (ranges_alike x.notice.parts known are) taken_edits.small;
        lots = lots_taken x known change.edits.items whole are taken_edits.lots;
      }

-- what holds of a ruling for all rows
pub ruled_for : (known : List Arriving) (own account count : ℕ) (r : Result Ruling Fault) → ((rows : List Piece) → IsRising rows → AreMet rows known → IfOk r (IsTakeRuling rows known own account count))
    → IfOk r (λ ruling. (rows : List Piece) → IsRising rows → AreMet rows known → IsTakeRuling rows known own account count ruling)
ruled_for known own account count (Ok ruling) so = so
ruled_for known own account count (Err fault) so = tt

-- ---- the checks before those of the account

early-fails : (s : State) (caller : List ℕ) (x : Import) (r : Refusal) → first_refusal (entry_checks s caller x) ≡ Some r → import_refusal s caller x ≡ Some r
unfolding import_refusal
early-fails s caller x r fails = ap (λ o. first_refusal (o ∷ when (is_other x.notice (get s.arrived (x.notice.sender, x.notice.number))) NoticeConflict ∷ (standing_checks s x ++ number_checks s x))) fails

early-repeats : (s : State) (caller : List ℕ) (x : Import) (r : Refusal) → first_refusal (entry_checks s caller x) ≡ Some r → import_repeats s caller x ≡ None
unfolding import_repeats
early-repeats s caller x r fails = ap (λ o. arrived_reply o (is_arrived x.notice (get s.arrived (x.notice.sender, x.notice.number))) (import_reply s x)) fails

pub ruled_early : (s : State) (rows : List Piece) (caller : List ℕ) (x : Import) (r : Refusal) → first_refusal (entry_checks s caller x) ≡ Some r → IsRuling (import_meaning s caller x) rows (Refused r)
ruled_early s rows caller x r fails = (early-repeats s caller x r fails, early-fails s caller x r fails)

later-refusal : (s : State) (caller : List ℕ) (x : Import) (b : Bool) → first_refusal (entry_checks s caller x) ≡ None → is_other x.notice (get s.arrived (x.notice.sender, x.notice.number)) ≡ b
    → import_refusal s caller x ≡ first_refusal (when b NoticeConflict ∷ (standing_checks s x ++ number_checks s x))
unfolding import_refusal
later-refusal s caller x b passed other = λ i. first_refusal (passed i ∷ when (other i) NoticeConflict ∷ (standing_checks s x ++ number_checks s x))

later-repeats : (s : State) (caller : List ℕ) (x : Import) (b : Bool) → first_refusal (entry_checks s caller x) ≡ None → is_arrived x.notice (get s.arrived (x.notice.sender, x.notice.number)) ≡ b
    → import_repeats s caller x ≡ arrived_reply None b (import_reply s x)
unfolding import_repeats
later-repeats s caller x b passed same = λ i. arrived_reply (passed i) (same i) (import_reply s x)

-- what is kept of a notice, and what that says
same-by : (notice : NoticeContents) (o : Option NoticeContents) → arrival.Same ≡ arrival_of o notice → is_arrived notice o ≡ true
same-by notice None is = absurd (cc)
same-by notice (Some kept) is = by (same_notice kept notice) is
  where
    by : (b : Bool) → arrival.Same ≡ cond b arrival.Same arrival.Other → b ≡ true
    by true is = refl
    by false is = absurd (cc)

other-by : (notice : NoticeContents) (o : Option NoticeContents) → arrival.Other ≡ arrival_of o notice → (is_arrived notice o ≡ false) × (is_other notice o ≡ true)
other-by notice None is = absurd (cc)
other-by notice (Some kept) is = by (same_notice kept notice) is
  where
    by : (b : Bool) → arrival.Other ≡ cond b arrival.Same arrival.Other → (b ≡ false) × (not b ≡ true)
    by true is = absurd (cc)
    by false is = (refl, refl)

absent-by : (notice : NoticeContents) (o : Option NoticeContents) → arrival.Absent ≡ arrival_of o notice → (is_arrived notice o ≡ false) × (is_other notice o ≡ false)
absent-by notice None is = (refl, refl)
absent-by notice (Some kept) is = by (same_notice kept notice) is
  where
    by : (b : Bool) → arrival.Absent ≡ cond b arrival.Same arrival.Other → (b ≡ false) × (not b ≡ false)
    by true is = absurd (cc)
    by false is = absurd (cc)

pub ruled_same : (s : State) (rows : List Piece) (caller : List ℕ) (x : Import) (count : ℕ) → first_refusal (entry_checks s caller x) ≡ None → arrival.Same ≡ arrival_of (get s.arrived (x.notice.sender, x.notice.number)) x.notice
    → count ≡ sum_by (λ p. count_of p.range) x.notice.parts → IsRuling (import_meaning s caller x) rows (Repeated (Imported count))
unfolding import_reply
ruled_same s rows caller x count passed same counted =
    later-repeats s caller x true passed (same-by x.notice (get s.arrived (x.notice.sender, x.notice.number)) same)
    ∙ ap (λ k. Some (Imported k)) (length_numbered x.notice.parts ∙ sym counted)

pub ruled_other : (s : State) (rows : List Piece) (caller : List ℕ) (x : Import) → first_refusal (entry_checks s caller x) ≡ None → arrival.Other ≡ arrival_of (get s.arrived (x.notice.sender, x.notice.number)) x.notice
    → IsRuling (import_meaning s caller x) rows (Refused NoticeConflict)
ruled_other s rows caller x passed other =
    let found = other-by x.notice (get s.arrived (x.notice.sender, x.notice.number)) other in
    (later-repeats s caller x false passed found.0, later-refusal s caller x true passed found.1)

pub ruled_absent : (s : State) (rows : List Piece) (caller : List ℕ) (x : Import) (ruling : Ruling) → first_refusal (entry_checks s caller x) ≡ None → arrival.Absent ≡ arrival_of (get s.arrived (x.notice.sender, x.notice.number)) x.notice
    → IsRuling (fresh_meaning s x) rows ruling → IsRuling (import_meaning s caller x) rows ruling
ruled_absent s rows caller x ruling passed absent ruled =
    let found = absent-by x.notice (get s.arrived (x.notice.sender, x.notice.number)) absent in
    let repeats = later-repeats s caller x false passed found.0 in
    let refused = later-refusal s caller x false passed found.1 in
    by ruling ruled repeats refused
  where
    by : (ruling : Ruling) → IsRuling (fresh_meaning s x) rows ruling → import_repeats s caller x ≡ None → import_refusal s caller x ≡ first_refusal (standing_checks s x ++ number_checks s x) → IsRuling (import_meaning s caller x) rows ruling
    by (Refused r) ruled repeats refused = (repeats, refused ∙ ruled.1)
    by (Repeated reply) ruled repeats refused = absurd (cc)
    by (Passed change) ruled repeats refused = record {
      fresh = repeats;
      allowed = refused ∙ ruled.allowed;
      answered = ruled.answered;
      sent = ruled.sent;
      rising = ruled.rising;
      turned = ruled.turned;
      few = ruled.few;
      small = ruled.small;
      lots = ruled.lots;
    }
