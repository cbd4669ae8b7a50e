-- Rows that expire, and what moving the date on comes to.
use Rattle.std.proofs.Common.{◌≡◌, ◌∙◌, ℕ, suc, ◌+◌, ◌-◌, ◌≤◌, List, [], ◌∷◌, ◌++◌, length, Bool, true, false, cond, refl, ap, sym, subst, arith, append_assoc, append-nil, inl}
use Rattle.std.specs.Prelude.{sum_by, Vec, Some, None, All}
use Rattle.std.specs.FinMap.{get}
use Rattle.std.specs.Global.{Global}
use Rattle.std.proofs.lemmas.List.Sums.{sum_by-append, sum_by-cons}
use Rattle.goo_types.specs.Day.{CalendarDay}
use Rattle.std.proofs.lemmas.List.Elements.{All-nil, All-cons, All-head, All-tail, All-weaker, All-filter}
use Rattle.goo_types.specs.Piece.{label_of, at_of, IsRising, IsRisingFrom}
use Rattle.goo_types.specs.Range.{Numbers}
use Rattle.goo_types.specs.Place.{account_of}
use Rattle.goo_types.specs.declared.command.Advance.{Advance}
use Rattle.goo_types.specs.declared.lot_fields.LotFields.{LotFields}
use Rattle.goo_types.specs.declared.piece.Piece.{Piece}
use Rattle.goo_types.specs.declared.place.Place.{Place}
use Rattle.goo_types.specs.declared.place.Place.TheVariants.{Expired}
use Rattle.goo_types.specs.declared.reply.Reply.TheVariants.{Advanced}
use Rattle.goo_spec.specs.Advance.{expires, aged, advance_refusal, advance_reply, with_day}
use Rattle.goo_spec.specs.Sound.{IsSound}
use Rattle.goo_spec.specs.State.{State}
use Rattle.goo_ranges.specs.declared.edits.Edit.{Edit}
use Rattle.goo_ranges_rows.specs.Plans.{placed, IsMoveOf, AreMovesOf}
use Rattle.goo_ranges_rows.specs.Rows.{AreRowsOf, edited}
use Rattle.goo_spec.specs.Lots.{lot_in}
use Rattle.goo_core_rules.specs.Changes.{AreSmall, AreOfLots, IsLotOf}
use Rattle.goo_core_rules.proofs.Lots.{rows_own}
use Rattle.goo_ranges_rows.proofs.Aging.{aged-turned}
use Rattle.goo_ranges_rows.proofs.Near.{filter-rising}
use Rattle.goo_spec_runs.specs.NextRun.{ending_from, first_of}
use Rattle.goo_spec_runs.proofs.Next.{all_above, first_above, first_some, first_none}
use Rattle.goo_core_shelf.specs.Rows.{expiring_on}
use Rattle.goo_core_shelf.proofs.Moves.{moves_stay_rising}
use Rattle.goo_core_moves.specs.Advance.{expired_place, count_in, IsExpiry}
use Rattle.goo_core_moves.specs.Ruling.{IsPassed, plain_meaning}
use Rattle.goo_core_moves.proofs.Numbering.{passing, count-rows}

-- rows before one have no more certificates than there are numbers below it
sum_before : (low : ℕ) (done : List Piece) (row : Piece) (tail : List Piece) → IsRisingFrom low (done ++ row ∷ tail) → sum_by count_in done + low ≤ row.first
sum_before low [] row tail r = omega (arith, r.0)
sum_before low (q ∷ qs) row tail r = omega (arith, sum_by-cons count_in q qs, sum_before (q.last + 1) qs row tail r.2, r.0, r.1.0)

moves_push : (new : LotFields → Place → Place) (ps : List Piece) (p : Piece) (es : List Edit) (e : Edit) → AreMovesOf new ps es → IsMoveOf new p e → AreMovesOf new (ps ++ p ∷ []) (es ++ e ∷ [])
moves_push new [] p [] e are is = (is, tt)
moves_push new [] p (f ∷ es) e are is = absurd are
moves_push new (q ∷ ps) p [] e are is = absurd are
moves_push new (q ∷ ps) p (f ∷ es) e are is = (are.0, moves_push new ps p es e are.1 is)

moves_counted : (new : LotFields → Place → Place) (ps : List Piece) (es : List Edit) → AreMovesOf new ps es → length es ≡ length ps
moves_counted new [] [] are = refl
moves_counted new [] (e ∷ es) are = absurd are
moves_counted new (p ∷ ps) [] are = absurd are
moves_counted new (p ∷ ps) (e ∷ es) are = let rest = moves_counted new ps es are.1 in omega (arith, rest)

-- a row that expires gets the place of an expired one
aged_move : (day : CalendarDay) (p : Piece) (e : Edit) → expires day p.lot p.place ≡ true → IsMoveOf expired_place p e → IsMoveOf (aged day) p e
aged_move day p e over is = record {
  deleted = is.deleted;
  inserted = is.inserted ∙ sym (ap (λ b. record p { place = cond b (Expired (account_of p.place)) p.place } ∷ []) over);
}

aged_moves-by : (day : CalendarDay) (p : Piece) (ps : List Piece) → ((es : List Edit) → AreMovesOf expired_place ps es → AreMovesOf (aged day) ps es)
    → (b : Bool) → expires day p.lot p.place ≡ b → (es : List Edit) → AreMovesOf expired_place (cond b (p ∷ ps) ps) es → AreMovesOf (aged day) (cond b (p ∷ ps) ps) es
aged_moves-by day p ps rest true over [] are = absurd are
aged_moves-by day p ps rest true over (e ∷ es) are = (aged_move day p e over are.0, rest es are.1)
aged_moves-by day p ps rest false over es are = rest es are

aged_moves : (day : CalendarDay) (rows : List Piece) (es : List Edit) → AreMovesOf expired_place (expiring_on day rows) es → AreMovesOf (aged day) (expiring_on day rows) es
aged_moves day [] [] are = tt
aged_moves day [] (e ∷ es) are = absurd are
aged_moves day (p ∷ ps) es are = aged_moves-by day p (expiring_on day ps) (aged_moves day ps) (expires day p.lot p.place) refl es are

counted-by : (b : Bool) (p : Piece) (ps : List Piece) → sum_by count_in (cond b (p ∷ ps) ps) ≡ cond b (suc p.last - p.first) 0 + sum_by count_in ps
counted-by true p ps = sum_by-cons count_in p ps
counted-by false p ps = omega arith

-- the certificates of the rows that expire
counted : (day : CalendarDay) (rows : List Piece) → sum_by count_in (expiring_on day rows) ≡ sum_by (passing (λ label. expires day label.0 label.1)) rows
counted day [] = refl
counted day (p ∷ ps) =
    omega (arith, counted-by (expires day p.lot p.place) p (expiring_on day ps), counted day ps, sum_by-cons (passing (λ label. expires day label.0 label.1)) p ps)

pub rising_on : (day : CalendarDay) (rows : List Piece) → IsRising rows → IsRising (expiring_on day rows)
rising_on day rows rising = filter-rising (λ p. expires day p.lot p.place) 0 rows rising

-- the rows that end below a number have their edits, and those that end later follow
pub record IsExpiring (all : List Piece) (from : ℕ) (edits : List Edit) (expired : ℕ) : Type 0 where
  pub done : List Piece
  pub split : all ≡ done ++ ending_from from all
  pub expiry : IsExpiry done edits expired

pub expiring_start : (all : List Piece) → IsRising all → IsExpiring all 0 [] 0
expiring_start all rising = record { done = []; split = sym (all_above 0 0 all (omega arith) rising); expiry = record { moves = tt; counted = refl } }

-- the next row gets its edit
pub expiring_more : (all : List Piece) (from : ℕ) (edits : List Edit) (expired count more : ℕ) (row : Piece) (e : Edit) → IsRising all → IsExpiring all from edits expired → Some row ≡ first_of (ending_from from all)
    → IsMoveOf expired_place row e → count ≡ count_in row → (expired ≤ row.first → more ≡ expired + count) → IsExpiring all (row.last + 1) (edits ++ e ∷ []) more
expiring_more all from edits expired count more row e rising is found move counts exact =
    let split = first_some (ending_from from all) row found in
    let of = first_above from 0 all row split.0 rising split.1 in
    let whole : all ≡ is.done ++ row ∷ split.0 = is.split ∙ ap (λ l. is.done ++ l) split.1 in
    let below : sum_by count_in is.done + 0 ≤ row.first = sum_before 0 is.done row split.0 (subst IsRising whole rising) in
    let sum : more ≡ expired + count = exact (omega (arith, below, is.expiry.counted)) in
    record {
      done = is.done ++ row ∷ [];
      split = whole ∙ sym (append_assoc is.done (row ∷ []) split.0) ∙ ap (λ l. (is.done ++ row ∷ []) ++ l) (sym of.tail_is);
      expiry = record {
        moves = moves_push expired_place is.done row edits e is.expiry.moves move;
        counted = omega (arith, sum_by-append count_in is.done (row ∷ []), sum_by-cons count_in row [], is.expiry.counted, counts, sum);
      };
    }

-- no row is left
pub expiring_end : (all : List Piece) (from : ℕ) (edits : List Edit) (expired : ℕ) → IsExpiring all from edits expired → None ≡ first_of (ending_from from all) → IsExpiry all edits expired
expiring_end all from edits expired is found =
    let empty = first_none (ending_from from all) found in
    let whole : all ≡ is.done = is.split ∙ ap (λ l. is.done ++ l) empty ∙ append-nil is.done in
    subst (λ l. IsExpiry l edits expired) (sym whole) is.expiry

-- each edit puts one row in the place of another
moves_small : (new : LotFields → Place → Place) (ranges : List Numbers) (ps rows : List Piece) (es : List Edit) → AreMovesOf new ps es → AreSmall ranges rows es
moves_small new ranges [] rows [] are = tt
moves_small new ranges [] rows (e ∷ es) are = absurd are
moves_small new ranges (p ∷ ps) rows [] are = absurd are
moves_small new ranges (p ∷ ps) rows (e ∷ es) are = (inl (ap length are.0.deleted, ap length are.0.inserted), moves_small new ranges ps (edited e rows) es are.1)

-- which has the lot of that row
moves_lots : (P : LotFields → Type 0) (new : LotFields → Place → Place) (ps : List Piece) (es : List Edit) → All (λ p. P p.lot) ps → AreMovesOf new ps es → AreOfLots P es
moves_lots P new [] [] all are = All-nil (λ e. All (λ p. P p.lot) e.insert.items)
moves_lots P new [] (e ∷ es) all are = absurd are
moves_lots P new (p ∷ ps) [] all are = absurd are
moves_lots P new (p ∷ ps) (e ∷ es) all are =
    let has : Piece → Type 0 = λ q. P q.lot in
    let here : All has e.insert.items = subst (All has) (sym are.0.inserted) (All-cons has (placed new p) [] (All-head has p ps all) (All-nil has)) in
    All-cons (λ f. All has f.insert.items) e es here (moves_lots P new ps es (All-tail has p ps all) are.1)

pub ruled_advance : (s : State) (rows : List Piece) (caller : List ℕ) (x : Advance) (edits : Vec Edit Global) (expired : ℕ) → IsSound s → AreRowsOf s.at rows
    → advance_refusal s caller x ≡ None → IsExpiry (expiring_on x.day rows) edits.items expired
    → IsPassed (plain_meaning (advance_refusal s caller x) (advance_reply s x) (with_day s x).at (λ rows. length (expiring_on x.day rows)) []) rows (record { reply = Advanced expired; edits = edits; notice = None })
unfolding advance_reply with_day
ruled_advance s rows caller x edits expired sound kept allowed is =
    let here : AreMovesOf (aged x.day) (expiring_on x.day rows) edits.items = aged_moves x.day rows edits.items is.moves in
    let is_lot : LotFields → Type 0 = IsLotOf (at_of rows) (get (with_day s x).at) in
    let known : All (λ p. is_lot p.lot) rows = All-weaker (λ p. at_of rows p.first ≡ Some (label_of p)) (λ p. is_lot p.lot) (λ p found. (p.first, inl (ap lot_in found))) rows (rows_own rows kept.disjoint) in
    record {
      fresh = refl;
      allowed = allowed;
      answered = ap Advanced (is.counted ∙ counted x.day rows ∙ sym (count-rows (λ label. expires x.day label.0 label.1) s.at rows kept));
      sent = refl;
      rising = moves_stay_rising (aged x.day) (λ p. expires x.day p.lot p.place) rows edits.items kept.disjoint here;
      turned = aged-turned s.today x.day s.at sound.times.current sound.times.expired rows edits.items kept here;
      few = let e = moves_counted (aged x.day) (expiring_on x.day rows) edits.items here in omega (arith, e);
      small = moves_small (aged x.day) [] (expiring_on x.day rows) rows edits.items here;
      lots = moves_lots is_lot (aged x.day) (expiring_on x.day rows) edits.items (All-filter (λ p. expires x.day p.lot p.place) (λ p. is_lot p.lot) rows known) here;
    }
