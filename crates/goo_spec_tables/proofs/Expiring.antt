-- The held rows whose lot is over.
use Rattle.std.proofs.Common.{◌≡◌, ℕ, ℤ, pos, ◌==◌, ◌&&◌, nat_lt, List, [], ◌∷◌, Bool, true, false, cond, find, map, Option, Some, None, option_map, Result, Ok, Err, refl, sym, ap, subst, ◌∙◌, true≢false}
use Rattle.std.specs.List.{cons_option, list_all, AllByRecursion}
use Rattle.std.specs.Ordering.{int_eq}
use Rattle.sqlite_typed.specs.Tests.{bytes_lt, both_and}
use Rattle.sqlite_keyed.specs.Keyed.{get_by}
use Rattle.sqlite_keyed.proofs.RuleLemmas.{first_of_both, second_of_both}
use Rattle.goo_types.specs.Day.{CalendarDay, IsDay, day_reading, months_after}
use Rattle.goo_types.specs.Texts.{day_text}
use Rattle.goo_types.specs.declared.day.DayFault.{DayFault}
use Rattle.goo_types.specs.declared.place.Place.TheVariants.{Held, Cancelled, Expired, Withdrawn, Exported}
use Rattle.goo_types.specs.declared.piece.Piece.{Piece}
use Rattle.goo_notice_json.proofs.LimitLemmas.{IsDay-reading}
use Rattle.goo_spec.specs.Advance.{expires}
use Rattle.goo_spec.specs.Days.{is_over, is_past}
use Rattle.goo_spec.specs.Lots.{is_held}
use Rattle.goo_tables_rows.specs.Rows.{Tables, Lot, lot_key}
use Rattle.goo_tables_rows.specs.Beside.{beside, pieces_beside}
use Rattle.goo_tables_rows.specs.declared.piece.PieceRow.{PieceRow}
use Rattle.goo_spec_tables.specs.Kept.{AreKept, IsKeptLot}
use Rattle.goo_spec_tables.specs.Places.{place_of, lot_of, piece_of}
use Rattle.goo_spec_tables.specs.Readable.{reads, is_code, is_plant, is_lot, is_maybe_other}
use Rattle.goo_types.specs.Gsrn.{gsrn_reading}
use Rattle.goo_spec_tables.specs.Texts.{day_of, no_day}
use Rattle.std.specs.Result.{result_unwrap_or}
use Rattle.goo_spec_tables.proofs.DayTexts.{earlier_text, later_day}
use Rattle.goo_spec_tables.proofs.Known.{number_is}
use Rattle.goo_spec_tables.proofs.RowsFound.{first_found}

pub place_held : (kind account act : ℕ) → is_held (place_of kind account act) ≡ (kind == 1)
place_held kind account act = go (kind == 1) (kind == 2) (kind == 3) (kind == 4)
  where
    go : (a b c d : Bool) → is_held (cond a (Held account) (cond b (Cancelled account act) (cond c (Expired account) (cond d (Withdrawn account act) (Exported account act))))) ≡ a
    go true b c d = refl
    go false true c d = refl
    go false false true d = refl
    go false false false true = refl
    go false false false false = refl

past : (o : Option CalendarDay) (day : CalendarDay) → IsDay day → ((e : CalendarDay) → o ≡ Some e → IsDay e) → both_and bytes_lt (option_map day_text o) (Some (day_text day)) ≡ is_past o day
past None day valid later = refl
past (Some e) day valid later = earlier_text e day (later e refl) valid

-- a day that a text states is one
pub stated_day : (text : List ℕ) (r : Result CalendarDay DayFault) → day_reading text ≡ r → reads r ≡ true → IsDay (day_of text)
stated_day text (Ok d) is good = subst IsDay (sym (ap (λ q. result_unwrap_or q no_day) is)) (IsDay-reading text d is)
stated_day text (Err e) is good = absurd (true≢false (sym good))

pub over_text : (l : Lot) (day : CalendarDay) → IsDay day → IsKeptLot l → IsDay (day_of l.last_day) → both_and bytes_lt l.expires_on (Some (day_text day)) ≡ is_over (lot_of l) day
unfolding is_over
over_text l day valid kept last =
    ap (λ o. both_and bytes_lt o (Some (day_text day))) kept.expires ∙ past (months_after (day_of l.last_day) 18) day valid (λ e is. later_day (day_of l.last_day) 18 e last is)

-- ---- the lots of pieces

pub found_passes : {X : Type 0} (p q : X → Bool) (xs : List X) (x : X) → list_all p xs ≡ true → find q xs ≡ Some x → p x ≡ true
found_passes p q [] x all is = absurd cc
found_passes p q (y ∷ ys) x all is = go (q y) is (found_passes p q ys x (second_of_both (p y) (list_all p ys) all))
  where
    go : (b : Bool) → cond b (Some y) (find q ys) ≡ Some x → (find q ys ≡ Some x → p x ≡ true) → p x ≡ true
    go true here rest = let same : y ≡ x = cc in subst (λ z. p z ≡ true) same (first_of_both (p y) (list_all p ys) all)
    go false there rest = rest there

all_beside : (P : Lot → Type 0) (lots : List Lot) → ((id : ℤ) (l : Lot) → get_by lot_key lots id ≡ Some l → P l) → (ps : List PieceRow) → AllByRecursion (λ a. P a.1) (beside lots ps)
all_beside P lots each [] = tt
all_beside P lots each (p ∷ ps) = go (get_by lot_key lots (pos p.lot)) refl (all_beside P lots each ps)
  where
    go : (o : Option Lot) → get_by lot_key lots (pos p.lot) ≡ o → AllByRecursion (λ (a : PieceRow × Lot). P a.1) (beside lots ps)
        → AllByRecursion (λ (a : PieceRow × Lot). P a.1) (cons_option (option_map (λ l. (p, l)) o) (beside lots ps))
    go None is rest = rest
    go (Some l) is rest = (each (pos p.lot) l is, rest)

same_find : {X : Type 0} (p q : X → Bool) (P : X → Type 0) → ((x : X) → P x → p x ≡ q x) → (xs : List X) → AllByRecursion P xs → find p xs ≡ find q xs
same_find p q P same [] all = refl
same_find p q P same (x ∷ xs) all = λ i. cond (same x all.0 i) (Some x) (same_find p q P same xs all.1 i)

-- the third of three tests, made before the second
third_before : (a b c : Bool) → a && (b && c) ≡ (a && c) && b
third_before false b c = refl
third_before true false false = refl
third_before true false true = refl
third_before true true false = refl
third_before true true true = refl

abbrev Datable : Lot → Type 0
Datable l = IsKeptLot l × IsDay (day_of l.last_day)

fifth : (a b c d e f : Bool) → a && (b && (c && (d && (e && f)))) ≡ true → e ≡ true
fifth a b c d e f all = first_of_both e f (second_of_both d (e && f) (second_of_both c (d && (e && f)) (second_of_both b (c && (d && (e && f))) (second_of_both a (b && (c && (d && (e && f)))) all))))

pub last_day_read : (l : Lot) → is_lot l ≡ true → IsDay (day_of l.last_day)
last_day_read l good =
    stated_day l.last_day (day_reading l.last_day) refl
    (fifth (is_code l.origin) (reads (gsrn_reading l.device)) (is_plant l.plant) (reads (day_reading l.first_day)) (reads (day_reading l.last_day)) (reads (day_reading l.issued_on) && is_maybe_other l.carrier) good)

-- the row that the statement finds is the first held one above a number whose lot is over
pub expiring_found : (t : Tables) → AreKept t → (day : CalendarDay) → IsDay day → (after : ℕ) (found : Option (PieceRow × Lot)) (row : Option Piece)
    → found ≡ find (λ a. int_eq (pos a.0.kind) (pos 1) && (nat_lt after a.0.first && both_and bytes_lt a.1.expires_on (Some (day_text day)))) (pieces_beside t) → row ≡ option_map piece_of found
    → row ≡ find (λ p. expires day p.lot p.place && nat_lt after p.first) (map piece_of (pieces_beside t))
expiring_found t kept day valid after found row is read =
    read ∙ ap (option_map piece_of) (is ∙ same_find _ (λ a. expires day (lot_of a.1) (place_of a.0.kind a.0.account a.0.act) && nat_lt after a.0.first) (λ a. Datable a.1)
    (λ a it. (λ i. (number_is a.0.kind 1 ∙ sym (place_held a.0.kind a.0.account a.0.act)) i && (nat_lt after a.0.first && over_text a.1 day valid it.0 it.1 i))
    ∙ third_before (is_held (place_of a.0.kind a.0.account a.0.act)) (nat_lt after a.0.first) (is_over (lot_of a.1) day))
    (pieces_beside t) (all_beside Datable t.lots (λ id l here. (kept.lots id l here, last_day_read l (found_passes is_lot _ t.lots l kept.readable.lots here))) t.pieces))
    ∙ first_found (λ a. expires day (lot_of a.1) (place_of a.0.kind a.0.account a.0.act) && nat_lt after a.0.first) (λ p. expires day p.lot p.place && nat_lt after p.first) (λ a. refl) (pieces_beside t)
