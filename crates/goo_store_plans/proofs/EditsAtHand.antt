-- The edits of a plan can be taken, with the lots that its command adds.
use Rattle.std.proofs.Common.{◌≡◌, ◌<◌, ◌^◌, ◌+◌, ◌++◌, ◌∷◌, [], ℕ, ℤ, List, All, Bool, true, false, cond, Some, get_or, ◌∙◌, ap}
use Rattle.std.specs.Prelude.{nat_lt}
use Rattle.std.specs.FinMap.{get}
use Rattle.std.specs.List.{AllByRecursion}
use Rattle.std.specs.Ordering.{int_cmp, match_ordering}
use Rattle.std.specs.declared.cmp.Ordering.{Ordering}
use Rattle.std.specs.declared.cmp.Ordering.TheVariants.{Less, Equal, Greater}
use Rattle.std.proofs.lemmas.List.Elements.{All-from_recursion, All-head, All-tail, recursion_from_All}
use Rattle.sqlite_keyed.specs.Keyed.{insert_by}
use Rattle.goo_types.specs.Piece.{IsForward, IsRising, IsRisingFrom}
use Rattle.goo_types.specs.declared.piece.Piece.{Piece}
use Rattle.goo_spec.specs.Lots.{key_of}
use Rattle.goo_spec.specs.State.{State}
use Rattle.goo_spec.specs.Step.{accept}
use Rattle.goo_ranges.specs.declared.edits.Edit.{Edit}
use Rattle.goo_ranges_rows.specs.Rows.{edited, with, with_each, without_each}
use Rattle.goo_core_shelf.specs.Plan.{Fits, StayRising}
use Rattle.goo_core_shelf.specs.declared.plan.Plan.{Plan}
use Rattle.goo_tables_rows.specs.Rows.{Tables, Lot, lot_in, lot_key}
use Rattle.goo_spec_tables.specs.Places.{rows_of}
use Rattle.goo_spec_tables.specs.States.{state_of}
use Rattle.goo_store_changes.specs.Changes.{ChangeFits, made, made_all}
use Rattle.goo_store_changes.specs.declared.table_change.TableChange.{TableChange}
use Rattle.goo_store_changes.specs.declared.table_change.TableChange.TheVariants.{AddHolder, AddAccount, CloseAccount, AddDevice, AddDeclaration, SetProgress, AddLot, DeletePiece, InsertPiece, AddPeer, AddReceipt, AddCancellation, AddWithdrawal, AddCorrection, AddNoticeOut, AddNoticeIn, SetToday, SetCounters}
use Rattle.goo_store_plans.specs.AtHand.{IsAtHand}
use Rattle.goo_store_plans.specs.Carrying.{CarriesOut}
use Rattle.goo_store_plans.specs.EditsTaken.{CanTakeEdits, HaveKeptNumbers}
use Rattle.goo_store_plans.specs.Found.{AreStated}
use Rattle.goo_store_plans.specs.declared.gathered_lots.Gathered.{Gathered}
use Rattle.goo_store_plans.specs.declared.lot_numbers.NumberedLot.{NumberedLot}
use Rattle.goo_store_plans.proofs.Found.{with_found}

-- ---- the pieces that edits insert run forward

abbrev AreForward : List Piece → Type 0
AreForward = AllByRecursion IsForward

forward_all : (low : ℕ) (ps : List Piece) → IsRisingFrom low ps → AreForward ps
forward_all low [] rising = tt
forward_all low (p ∷ ps) rising = (rising.1, forward_all (p.last + 1) ps rising.2)

forward_with : (p : Piece) (rows : List Piece) → AreForward (with p rows) → IsForward p × AreForward rows
forward_with p [] all = (all.0, tt)
forward_with p (q ∷ qs) all = go (nat_lt p.first q.first) (forward_with p qs) all
  where
    go : (b : Bool) → (AreForward (with p qs) → IsForward p × AreForward qs) → AreForward (cond b (p ∷ q ∷ qs) (q ∷ with p qs)) → IsForward p × AreForward (q ∷ qs)
    go true rest all = (all.0, all.1)
    go false rest all = let more = rest all.1 in (more.0, (all.0, more.1))

forward_each : (ps rows : List Piece) → AreForward (with_each ps rows) → AreForward ps × AreForward rows
forward_each [] rows all = (tt, all)
forward_each (p ∷ ps) rows all =
    let more = forward_each ps (with p rows) all in
    let one = forward_with p rows more.1 in
    ((one.0, more.0), one.1)

rising_first : (es : List Edit) (rows : List Piece) → StayRising es rows → IsRising rows
rising_first [] rows rising = rising
rising_first (e ∷ es) rows rising = rising.0

inserted_forward : (e : Edit) (rows : List Piece) → IsRising (edited e rows) → All IsForward e.insert.items
unfolding edited
inserted_forward e rows rising =
    All-from_recursion IsForward e.insert.items (forward_each e.insert.items (without_each e.delete.items rows) (forward_all 0 (with_each e.insert.items (without_each e.delete.items rows)) rising)).0

all_forward : (es : List Edit) (rows : List Piece) → StayRising es rows → All (λ e. All IsForward e.insert.items) es
all_forward es rows rising = All-from_recursion (λ e. All IsForward e.insert.items) es (go es rows rising)
  where
    go : (es : List Edit) (rows : List Piece) → StayRising es rows → AllByRecursion (λ e. All IsForward e.insert.items) es
    go [] rows rising = tt
    go (e ∷ es) rows rising = (inserted_forward e rows (rising_first es (edited e rows) rising.1), go es (edited e rows) rising.1)

-- ---- the numbers of lots after changes that columns can keep

all_put : {X : Type 0} (P : X → Type 0) (key : X → ℤ) (x : X) → P x → (xs : List X) → AllByRecursion P xs → AllByRecursion P (insert_by key xs x)
all_put P key x is [] all = (is, tt)
all_put P key x is (y ∷ ys) all = go (int_cmp (key y) (key x)) (all_put P key x is ys all.1)
  where
    go : (r : Ordering) → AllByRecursion P (insert_by key ys x) → AllByRecursion P (match_ordering r (y ∷ insert_by key ys x) (x ∷ ys) (x ∷ y ∷ ys))
    go Less rest = (all.0, rest)
    go Equal rest = (is, all.1)
    go Greater rest = (is, all)

abbrev AreLow : List Lot → Type 0
AreLow = AllByRecursion (λ l. l.id < 2 ^ 63)

low_made : (t : Tables) (c : TableChange) → ChangeFits c → AreLow t.lots → AreLow (made t c).lots
low_made t (AddLot row) fits low = all_put (λ l. l.id < 2 ^ 63) lot_key (lot_in row) fits.0 t.lots low
low_made t (AddHolder row) fits low = low
low_made t (AddAccount row) fits low = low
low_made t (CloseAccount number) fits low = low
low_made t (AddDevice row) fits low = low
low_made t (AddDeclaration row) fits low = low
low_made t (SetProgress device last_day carry) fits low = low
low_made t (DeletePiece first) fits low = low
low_made t (InsertPiece row) fits low = low
low_made t (AddPeer row) fits low = low
low_made t (AddReceipt row) fits low = low
low_made t (AddCancellation row) fits low = low
low_made t (AddWithdrawal row) fits low = low
low_made t (AddCorrection row) fits low = low
low_made t (AddNoticeOut row) fits low = low
low_made t (AddNoticeIn row) fits low = low
low_made t (SetToday day) fits low = low
low_made t (SetCounters counters) fits low = low

low_after : (t : Tables) (changes : List TableChange) → All ChangeFits changes → AreLow t.lots → AreLow (made_all t changes).lots
low_after t [] fits low = low
low_after t (c ∷ cs) fits low = low_after (made t c) cs (All-tail ChangeFits c cs fits) (low_made t c (All-head ChangeFits c cs fits) low)

-- ---- the edits

-- the lots after the command are those that the registry knows once the request is accepted
lots_after : (t : Tables) (plan : Plan) (gathered : Gathered) → CarriesOut t plan.request.command gathered → (state_of (made_all t gathered.changes.items)).lots ≡ (accept (state_of t) plan.request).lots
unfolding accept
lots_after t plan gathered carries = ap (λ (s : State). s.lots) (carries.acted.state (state_of t).at)

pub edits_at_hand : (t : Tables) (plan : Plan) (gathered : Gathered) (found : List NumberedLot) → Fits (state_of t) (rows_of t) plan → CarriesOut t plan.request.command gathered → All ChangeFits gathered.changes.items
    → AreStated t.lots found → HaveKeptNumbers t.lots → CanTakeEdits (gathered.added.items ++ found) t plan.edits.items
unfolding state_of
edits_at_hand t plan gathered found fits carries fit stated low =
    let after : List Lot = (made_all t gathered.changes.items).lots in
    let all = with_found t.lots gathered.added.items found after stated carries.lots in
    let forward = all_forward plan.edits.items (rows_of t) fits.rising in
    let at_hand : (p : Piece) → get (accept (state_of t) plan.request).lots (key_of p.lot) ≡ Some p.lot → IsAtHand (gathered.added.items ++ found) t p.lot =
    λ p is. all.only p.lot (ap (λ lots. get lots (key_of p.lot)) (lots_after t plan gathered carries) ∙ is) in record {
      pieces = λ i e low_e j p low_p. (forward i e low_e j p low_p, at_hand (get_or (get_or plan.edits.items i e).insert.items j p) (fits.known i e low_e j p low_p));
      lots = after;
      with = all.with;
      numbers = All-from_recursion (λ l. l.id < 2 ^ 63) after (low_after t gathered.changes.items fit (recursion_from_All (λ l. l.id < 2 ^ 63) t.lots low));
    }
