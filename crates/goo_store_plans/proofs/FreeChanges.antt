-- Changes that are free, since what they put in isn't there yet.
use Rattle.std.proofs.Common.{◌≡◌, ℕ, pos, ◌&&◌, List, [], ◌∷◌, Bool, true, false, cond, map, find, take, get_or, Some, None, refl, ap, sym, subst, ◌∙◌, true≢false, inl, inr}
use Rattle.std.specs.Str as str
use Rattle.std.specs.Cmp.{IsTotalOrder, nat_cmp_total}
use Rattle.std.specs.Cmp.Lexicographic.{nat_list_cmp_total}
use Rattle.std.specs.declared.cmp.Ordering.{Ordering}
use Rattle.std.specs.FinMap.{get, from_entries, get-from_entries}
use Rattle.std.specs.FinMap.Entries as entries
use Rattle.std.specs.List.{list_any}
use Rattle.std.specs.Ordering.{eq_by_cmp, int_eq, nat_cmp}
use Rattle.std.proofs.lemmas.Bool.{eqb-true, or_parts}
use Rattle.std.proofs.lemmas.Slice.Eq.{bytes_eq-Decides}
use Rattle.sqlite_keyed.specs.Keyed.{has_key, get_by, insert_by}
use Rattle.sqlite_keyed.proofs.RuleLemmas.{first_of_both, second_of_both}
use Rattle.sqlite_typed.specs.Tests.{bytes_eq}
use Rattle.goo_types.specs.declared.command.Declare.{Declare}
use Rattle.goo_types.specs.declared.part.Part.{Part}
use Rattle.goo_types.proofs.LotLemmas.{Decides-same_day}
use Rattle.goo_spec.specs.Lots as lots
use Rattle.goo_spec.specs.Lots.{key_of, same_day}
use Rattle.goo_spec.specs.State.{text_cmp, receipt_cmp, notice_cmp}
use Rattle.goo_tables_rows.specs.Rows as row
use Rattle.goo_tables_rows.specs.Rows.{Tables, Lot, lot_key, lot_in}
use Rattle.goo_tables_rows.specs.declared.lot.LotRow.{LotRow}
use Rattle.goo_tables_accounts.specs.Changes.{with_lot}
use Rattle.goo_store_changes.specs.Changes.{made_all, IsFor, AreFor, IsFree, AreFree}
use Rattle.goo_store_changes.specs.declared.table_change.TableChange.{TableChange}
use Rattle.goo_store_changes.specs.declared.table_change.TableChange.TheVariants.{AddHolder, AddAccount, CloseAccount, AddDevice, AddDeclaration, SetProgress, AddLot, DeletePiece, InsertPiece, AddPeer, AddReceipt, AddCancellation, AddWithdrawal, AddCorrection, AddNoticeOut, AddNoticeIn, SetToday, SetCounters}
use Rattle.goo_spec_tables.specs.Devices.{declaration_of}
use Rattle.goo_spec_tables.specs.Places.{lot_of}
use Rattle.goo_spec_tables.specs.States.{known_lot}
use Rattle.goo_spec_tables.specs.Texts.{day_of}
use Rattle.goo_spec_tables.proofs.Known.{text_test, text_same, text_itself, number_test, number_is, receipt_total, receipt_test, notice_total, notice_test}
use Rattle.goo_store_plans.specs.NewLots.{known_lots, AreNewLots}
use Rattle.goo_store_plans.proofs.CarriersAdded.{HaveLots, no_lot_word, lot_words_there}
use Rattle.goo_store_plans.proofs.InTurn.{none_in_turn, first_in_turn}
use Rattle.goo_store_plans.proofs.LotsAdded.{none_there}

-- ---- where nothing is known under a key, no row is found by it

module _ {A K X : Type 0} {R : K → K → Ordering} (o : IsTotalOrder R) (entry : A → K × X) (q : K) (test : A → Bool) (same : (a : A) → test a ≡ true → eq_by_cmp R q (entry a).0 ≡ true) where
  none_among : (xs : List A) → entries.find R q (map entry xs) ≡ None → find test xs ≡ None
  none_among [] none = refl
  none_among (x ∷ xs) none = go (test x) (eq_by_cmp R q (entry x).0) (same x) none (none_among xs)
    where
      go : (b c : Bool) → (b ≡ true → c ≡ true) → cond c (Some (entry x).1) (entries.find R q (map entry xs)) ≡ None → (entries.find R q (map entry xs) ≡ None → find test xs ≡ None) → cond b (Some x) (find test xs) ≡ None
      go b true picks none rest = absurd cc
      go false false picks none rest = rest none
      go true false picks none rest = absurd (true≢false (sym (picks refl)))

  pub none_found : (xs : List A) → get (from_entries {R = R} (map entry xs)) q ≡ None → find test xs ≡ None
  none_found xs none = none_among xs (sym (get-from_entries o (map entry xs) q) ∙ none)

module _ {A X : Type 0} (value : A → X) where
  pub no_text : (text : A → List ℕ) (q : List ℕ) (xs : List A) → get (from_entries {R = text_cmp} (map (λ a. (text a, value a)) xs)) q ≡ None → find (λ a. bytes_eq (text a) q) xs ≡ None
  no_text text q xs none = none_found nat_list_cmp_total (λ a. (text a, value a)) q (λ a. bytes_eq (text a) q) (λ a is. sym (text_test (text a) q) ∙ is) xs none

  pub no_number : (number : A → ℕ) (q : ℕ) (xs : List A) → get (from_entries {R = nat_cmp} (map (λ a. (number a, value a)) xs)) q ≡ None → find (λ a. int_eq (pos (number a)) (pos q)) xs ≡ None
  no_number number q xs none = none_found nat_cmp_total (λ a. (number a, value a)) q (λ a. int_eq (pos (number a)) (pos q)) (λ a is. sym (number_test (number a) q) ∙ is) xs none

  pub no_receipt : (caller key : A → List ℕ) (q k : List ℕ) (xs : List A) → get (from_entries {R = receipt_cmp} (map (λ a. ((caller a, key a), value a)) xs)) (q, k) ≡ None
      → find (λ a. bytes_eq (caller a) q && bytes_eq (key a) k) xs ≡ None
  no_receipt caller key q k xs none =
      none_found receipt_total (λ a. ((caller a, key a), value a)) (q, k) (λ a. bytes_eq (caller a) q && bytes_eq (key a) k) (λ a is. sym (receipt_test (caller a) (key a) q k) ∙ is) xs none

  pub no_notice : (sender number : A → ℕ) (q k : ℕ) (xs : List A) → get (from_entries {R = notice_cmp} (map (λ a. ((sender a, number a), value a)) xs)) (q, k) ≡ None
      → find (λ a. int_eq (pos (sender a)) (pos q) && int_eq (pos (number a)) (pos k)) xs ≡ None
  no_notice sender number q k xs none =
      none_found notice_total (λ a. ((sender a, number a), value a)) (q, k) (λ a. int_eq (pos (sender a)) (pos q) && int_eq (pos (number a)) (pos k)) (λ a is. sym (notice_test (sender a) (number a) q k) ∙ is) xs none

-- a lot that isn't known has no row by its columns
pub no_lot : (l : Lot) (ls : List Lot) → get (known_lots ls) (key_of (lot_of l)) ≡ None → find (λ x. int_eq (pos x.origin) (pos l.origin) && (bytes_eq x.device l.device && bytes_eq x.first_day l.first_day)) ls ≡ None
no_lot l ls none =
    none_found nat_list_cmp_total known_lot (key_of (lot_of l)) (λ x. int_eq (pos x.origin) (pos l.origin) && (bytes_eq x.device l.device && bytes_eq x.first_day l.first_day))
    (λ x is.
    let origin : x.origin ≡ l.origin = eqb-true x.origin l.origin (sym (number_is x.origin l.origin) ∙ first_of_both _ _ is) in
    let rest = second_of_both (int_eq (pos x.origin) (pos l.origin)) _ is in
    let device : x.device ≡ l.device = text_same x.device l.device (first_of_both _ _ rest) in
    let day : x.first_day ≡ l.first_day = text_same x.first_day l.first_day (second_of_both (bytes_eq x.device l.device) _ rest) in
    text_itself (key_of (lot_of l)) (key_of (lot_of x)) (λ i. lots.lot_key (sym origin i) (sym device i) (day_of (sym day i)))) ls none

-- where no declaration of a device has a first day, none has its row
pub no_declaration : (x : Declare) (d : row.Declaration) → declaration_of d ≡ x → (ds : List row.Declaration) → list_any (λ y. str.bytes_eq y.device x.device && same_day y.first_day x.first_day) (map declaration_of ds) ≡ false
    → find (λ y. bytes_eq y.device d.device && bytes_eq y.first_day d.first_day) ds ≡ None
no_declaration x d states [] none = refl
no_declaration x d states (y ∷ ds) none =
    let parts = or_parts (str.bytes_eq y.device x.device && same_day (day_of y.first_day) x.first_day) (list_any (λ z. str.bytes_eq z.device x.device && same_day z.first_day x.first_day) (map declaration_of ds)) none in
    go (bytes_eq y.device d.device && bytes_eq y.first_day d.first_day) refl parts.0 (no_declaration x d states ds parts.1)
  where
    go : (b : Bool) → bytes_eq y.device d.device && bytes_eq y.first_day d.first_day ≡ b → str.bytes_eq y.device x.device && same_day (day_of y.first_day) x.first_day ≡ false → find (λ z. bytes_eq z.device d.device && bytes_eq z.first_day d.first_day) ds ≡ None
        → cond b (Some y) (find (λ z. bytes_eq z.device d.device && bytes_eq z.first_day d.first_day) ds) ≡ None
    go false is other rest = rest
    go true is other rest =
        let device : y.device ≡ x.device = text_same y.device d.device (first_of_both _ _ is) ∙ ap (λ (k : Declare). k.device) states in
        let day : day_of y.first_day ≡ x.first_day = ap day_of (text_same y.first_day d.first_day (second_of_both (bytes_eq y.device d.device) _ is)) ∙ ap (λ (k : Declare). k.first_day) states in
        absurd (true≢false (sym (λ i. (bytes_eq-Decides y.device x.device).1 device i && (Decides-same_day (day_of y.first_day) x.first_day).1 day i) ∙ other))

-- ---- lots that become known

-- a row of a lot that isn't known, under a number that no lot has
pub free_lot : (t : Tables) (r : LotRow) → HaveLots t.lots t.lot_carriers → has_key lot_key t.lots (lot_key (lot_in r)) ≡ false → get (known_lots t.lots) (key_of (lot_of (lot_in r))) ≡ None → IsFree t (AddLot r)
free_lot t r there fresh unknown = ((none_there (get_by lot_key t.lots (lot_key (lot_in r))) fresh, no_lot_word t.lots t.lot_carriers r.id there fresh), no_lot (lot_in r) t.lots unknown)

-- the lots of a notice's parts, one after another
pub free_lots : (ps : List Part) (rows : List LotRow) (t : Tables) → HaveLots t.lots t.lot_carriers → AreNewLots t.lots ps (map lot_in rows) → AreFree t (map (λ r. AddLot r) rows)
free_lots [] [] t there are = none_in_turn IsFree t
free_lots [] (r ∷ rows) t there are = absurd cc
free_lots (p ∷ ps) rows t there are = go rows are (free_lots ps)
  where
    go : (more : List LotRow) → AreNewLots t.lots (p ∷ ps) (map lot_in more) → ((others : List LotRow) (u : Tables) → HaveLots u.lots u.lot_carriers → AreNewLots u.lots ps (map lot_in others) → AreFree u (map (λ r. AddLot r) others))
        → AreFree t (map (λ r. AddLot r) more)
    go more (inl known) later = later more t there known.1
    go [] (inr put) later = none_in_turn IsFree t
    go (r ∷ more) (inr put) later =
        let is : lot_in r ∷ map lot_in more ≡ put.0 ∷ put.1 = put.2 in
        let first : put.0 ≡ lot_in r = cc in
        let rest : put.1 ≡ map lot_in more = cc in
        let it = put.3 in
        let fresh : has_key lot_key t.lots (lot_key (lot_in r)) ≡ false = subst (λ (l : Lot). has_key lot_key t.lots (lot_key l) ≡ false) first it.fresh in
        first_in_turn IsFree t (AddLot r) (map (λ k. AddLot k) more)
        (free_lot t r there fresh (subst (λ (l : Lot). get (known_lots t.lots) (key_of (lot_of l)) ≡ None) first (ap (λ k. get (known_lots t.lots) (key_of k)) it.states ∙ it.unknown)))
        (later more (with_lot t (lot_in r)) (lot_words_there t.lots t.lot_carriers (lot_in r) fresh there)
        (subst (λ (l : Lot). AreNewLots (insert_by lot_key t.lots l) ps (map lot_in more)) first (subst (AreNewLots (insert_by lot_key t.lots put.0) ps) rest put.4)))

-- ---- what is free is one for the tables

free_for : (t : Tables) (d : TableChange) → IsFree t d → IsFor t d
free_for t (AddHolder row) free = tt
free_for t (AddAccount row) free = tt
free_for t (CloseAccount number) free = tt
free_for t (AddDevice row) free = free
free_for t (AddDeclaration row) free = tt
free_for t (SetProgress device last_day carry) free = free
free_for t (AddLot row) free = free.0
free_for t (DeletePiece first) free = tt
free_for t (InsertPiece row) free = tt
free_for t (AddPeer row) free = tt
free_for t (AddReceipt row) free = tt
free_for t (AddCancellation row) free = tt
free_for t (AddWithdrawal row) free = tt
free_for t (AddNoticeOut row) free = tt
free_for t (AddNoticeIn row) free = tt
free_for t (AddCorrection row) free = tt
free_for t (SetToday day) free = tt
free_for t (SetCounters counters) free = tt

pub all_for : (t : Tables) (changes : List TableChange) → AreFree t changes → AreFor t changes
all_for t changes free i d low = free_for (made_all t (take i changes)) (get_or changes i d) (free i d low)
