-- Edits whose pieces have lots among those found.
use Rattle.std.proofs.Common.{◌≡◌, true, ◌<◌, ◌^◌, ◌+◌, ◌++◌, ◌∷◌, [], ℕ, pos, List, All, Err, Result, IsOkUnless, length, map, take, get_or, inl, inr, refl, sym, subst, ◌∙◌, ap, arith}
use Rattle.std.proofs.lemmas.Bool.{cases_lt}
use Rattle.std.proofs.lemmas.List.{get_or_default, map-append, take_more}
use Rattle.std.proofs.lemmas.List.Elements.{All-contains, All-map, All-weaker, Contains-get_or, recursion_from_All}
use Rattle.std.specs.List.{Any, Contains}
use Rattle.std.specs.Ordering.{int_eq}
use Rattle.goo_types.specs.declared.lot_fields.LotFields.{LotFields}
use Rattle.goo_ranges.specs.declared.edits.Edit.{Edit}
use Rattle.goo_tables_rows.specs.Rows.{Tables, Lot, lot_key}
use Rattle.goo_store_rules.proofs.EachRow.{found_both}
use Rattle.sqlite_keyed.proofs.KeyedLemmas.{same_int}
use Rattle.goo_store_plans.specs.AtHand.{IsAtHand}
use Rattle.goo_store_plans.specs.EditsGathered.{CanBeTaken, HasNoNumber, HasNumber}
use Rattle.goo_store_plans.specs.EditsTaken.{CanAllBePutIn, CanBePutIn, CanTakeEdits, HaveKeptNumbers}
use Rattle.goo_store_plans.specs.LotNumbers.{AreNumbered, AreWith, IsNumberOf}
use Rattle.goo_store_plans.specs.declared.lot_numbers.NumberedLot.{NumberedLot}
use Rattle.goo_store_plans.proofs.Refusing.{one_number}
use Rattle.goo_store_values.specs.declared.statement_fault.StatementFault.{StatementFault}
use Rattle.goo_store_values.specs.declared.statement_fault.StatementFault.TheVariants.{Memory}

-- one place more without a number of the lot
pub none_more : (found : List NumberedLot) (from i : ℕ) (lot : LotFields) (x : NumberedLot) → i < length found → x ≡ get_or found i x → ¬ ((x.lot ≡ lot) × (x.number < 2 ^ 63)) → HasNoNumber found from i lot → HasNoNumber found from (i + 1) lot
none_more found from i lot x low is not before k known least most there has = elim (cases_lt k i) [
  | inl less ↦ before k known least less there has
  | inr more ↦
      let at : k ≡ i = omega (arith, most, more) in
      let same : known ≡ x = there ∙ ap (λ j. get_or found j known) at ∙ get_or_default found i known x low ∙ sym is in
      not (subst (λ (z : NumberedLot). (z.lot ≡ lot) × (z.number < 2 ^ 63)) same has)
]

-- an error that is handed on is for want of memory if it was
pub handed : {V : Type 0} (e : StatementFault) (r : Result V StatementFault) → r ≡ Err e → IsOkUnless {T = V} (Err e) Memory → IsOkUnless r Memory
handed {V = V} e r is bad = subst (λ (z : Result V StatementFault). IsOkUnless z Memory) (sym is) bad

-- one element more, put behind a list that is so far the same through a function
pub one_more : {A B : Type 0} (f : A → B) (before : List A) (xs : List B) (i : ℕ) (x : A) → i < length xs → f x ≡ get_or xs i (f x) → map f before ≡ take i xs → map f (before ++ x ∷ []) ≡ take (i + 1) xs
one_more f before xs i x low is same = map-append f before (x ∷ []) ∙ (λ j. same j ++ is j ∷ []) ∙ sym (take_more xs i (f x) low)

-- each lot is at hand, where it is one of a piece that can be put in
pub all_at_hand : (lots : List LotFields) (edits : List Edit) (added : List NumberedLot) (t : Tables) → ((x : LotFields) → Contains lots x → Any (λ e. Any (λ p. p.lot ≡ x) e.insert.items) edits) → CanAllBePutIn added t edits → All (IsAtHand added t) lots
all_at_hand lots edits added t only can k d low = go (get_or lots k d) (only (get_or lots k d) (Contains-get_or lots k d low))
  where
    go : (x : LotFields) → Any (λ e. Any (λ p. p.lot ≡ x) e.insert.items) edits → IsAtHand added t x
    go x (i, e, low_e, is_e, (j, p, low_p, is_p, is)) =
        let each : All (CanBePutIn added t) e.insert.items = subst (λ z. All (CanBePutIn added t) z.insert.items) is_e (can i e low_e) in
        let one : CanBePutIn added t p = subst (CanBePutIn added t) is_p (each j p low_p) in
        subst (IsAtHand added t) is one.1

number_same : (a b : ℕ) → int_eq (pos a) (pos b) ≡ true → a ≡ b
number_same a b is = one_number a b (pos b) (same_int (pos a) (pos b) is) refl

-- a number under which a row stands is one that a column keeps
low_number : (lots : List Lot) (n : ℕ) (lot : LotFields) → HaveKeptNumbers lots → IsNumberOf lots n lot → n < 2 ^ 63
low_number lots n lot numbers is =
    let both = found_both (λ l. int_eq (lot_key l) (pos n)) (λ l. l.id < 2 ^ 63) lots is.row is.there (recursion_from_All (λ l. l.id < 2 ^ 63) lots numbers) in
    subst (λ k. k < 2 ^ 63) (number_same is.row.id n both.0) both.1

-- each lot that was looked for has a number
has_number : (found : List NumberedLot) (lot : LotFields) → All (λ x. x.number < 2 ^ 63) found → Contains (map (λ x. x.lot) found) lot → HasNumber found lot
has_number found lot numbers there =
    let each : All (λ x. HasNumber found x.lot) found = λ k d low. (k, get_or found k d, low, get_or_default found k (get_or found k d) d low, (refl, numbers k d low)) in
    All-contains (HasNumber found) (map (λ x. x.lot) found) lot (All-map (HasNumber found) (λ x. x.lot) found each) there

-- edits can be taken, where each of their lots was looked for and found
pub edits_taken : (found added : List NumberedLot) (t : Tables) (wanted : List LotFields) (edits : List Edit) → map (λ x. x.lot) found ≡ wanted → All (λ e. All (λ p. Contains wanted p.lot) e.insert.items) edits
    → ((lots : List Lot) → AreWith t.lots added lots → AreNumbered lots found) → CanTakeEdits added t edits → All (CanBeTaken found) edits
edits_taken found added t wanted edits each noted are can i d low j q low_q =
    let e : Edit = get_or edits i d in
    let numbers : All (λ x. x.number < 2 ^ 63) found = All-weaker (λ x. IsNumberOf can.lots x.number x.lot) (λ x. x.number < 2 ^ 63) (λ x is. low_number can.lots x.number x.lot can.numbers is) found (are can.lots can.with) in
    ((can.pieces i d low j q low_q).0, has_number found (get_or e.insert.items j q).lot numbers (subst (λ xs. Contains xs (get_or e.insert.items j q).lot) (sym each) (noted i d low j q low_q)))
