-- Lots that are kept, by the rows that state them.
use Rattle.std.proofs.Common.{◌≡◌, inl, inr, ⊎_elim, refl, sym, ap, subst, ◌∙◌, ◌++◌, ◌∷◌, [], pos, ℕ, ◌||◌, Bool, true, false, cond, true≢false, List, find, slice_index_or, is_some, Option, Some, None, option_map}
use Rattle.std.specs.FinMap.{contains_key}
use Rattle.std.specs.Ordering.{eq_by_cmp, int_eq}
use Rattle.std.specs.Cmp.Lexicographic.{nat_list_cmp_total}
use Rattle.std.proofs.lemmas.List.Elements.{All-head, All-tail, All-append}
use Rattle.sqlite_keyed.specs.Keyed.{get_by}
use Rattle.sqlite_keyed.proofs.SliceLemmas.{is_some-map}
use Rattle.goo_spec.specs.Lots.{key_of}
use Rattle.goo_spec.specs.State.{text_cmp}
use Rattle.goo_spec.proofs.Mapping.{inside, none_some}
use Rattle.goo_tables_rows.specs.Rows.{Lot, lot_key}
use Rattle.goo_spec_tables.specs.States.{known_lot}
use Rattle.goo_spec_tables.proofs.Known.{text_same, text_itself, get-known}
use Rattle.goo_spec_tables.specs.Places.{lot_of}
use Rattle.goo_store_plans.specs.Found.{IsStated, IsMissing, AreStated, AreMissing, key_in}
use Rattle.goo_store_plans.specs.LotNumbers.{AreJustWith, IsNumberOf}
use Rattle.goo_store_plans.specs.LotRows.{is_among, is_among_missing}
use Rattle.goo_store_plans.specs.NewLots.{known_lots}
use Rattle.goo_store_plans.specs.declared.known_rows.LotKey.{LotKey}
use Rattle.goo_store_plans.specs.declared.lot_numbers.NumberedLot.{NumberedLot}
use Rattle.goo_store_plans.proofs.Gathering.{any_more}

-- a lot that a row states has the row's number
pub stated : (lots : List Lot) (x : NumberedLot) → option_map lot_of (get_by lot_key lots (pos x.number)) ≡ Some x.lot → IsNumberOf lots x.number x.lot
stated lots x = go (get_by lot_key lots (pos x.number)) refl
  where
    go : (o : Option Lot) → get_by lot_key lots (pos x.number) ≡ o → option_map lot_of o ≡ Some x.lot → IsNumberOf lots x.number x.lot
    go None is states = none_some x.lot states
    go (Some row) is states = record { row = row; there = is; states = inside _ _ states }

-- those that are kept are there beside those that are added
pub with_found : (before : List Lot) (added found : List NumberedLot) (lots : List Lot) → AreStated before found → AreJustWith before added lots → AreJustWith before (added ++ found) lots
with_found before added found lots are it = record {
  with = record {
    kept = it.with.kept;
    added_are = All-append (λ x. IsNumberOf lots x.number x.lot) added found it.with.added_are (λ k d low. later (slice_index_or found k d) (stated before (slice_index_or found k d) (are k d low)));
  };
  only = λ lot is. ⊎_elim (λ there. inl (any_more (λ (x : NumberedLot). x.lot ≡ lot) added found there)) inr (it.only lot is);
}
  where
    later : (x : NumberedLot) → IsNumberOf before x.number x.lot → IsNumberOf lots x.number x.lot
    later x is = record { row = is.row; there = it.with.kept x.number is.row is.there; states = is.states }

-- where a row is found, a row that passes another test as well is found by it
found_too : {X : Type 0} (p q : X → Bool) (xs : List X) (x : X) → find p xs ≡ Some x → q x ≡ true → is_some (find q xs) ≡ true
found_too p q [] x is passes = none_some x is
found_too {X} p q (y ∷ ys) x is passes = go (p y) (q y) refl is (λ later. found_too p q ys x later passes)
  where
    go : (a b : Bool) → q y ≡ b → cond a (Some y) (find p ys) ≡ Some x → (find p ys ≡ Some x → is_some (find q ys) ≡ true) → is_some (cond b (Some y) (find q ys)) ≡ true
    go a true same found rest = refl
    go true false same found rest = absurd (true≢false (sym passes ∙ ap q (sym (inside y x found)) ∙ same))
    go false false same found rest = rest found

-- a lot that a row states is known by its key
stated_known : (lots : List Lot) (x : NumberedLot) → IsStated lots x.number x.lot → contains_key (known_lots lots) (key_of x.lot) ≡ true
stated_known lots x states =
    let it = stated lots x states in
    let test : Lot → Bool = λ l. eq_by_cmp text_cmp (key_of x.lot) (key_of (lot_of l)) in
    ap is_some (get-known nat_list_cmp_total known_lot (key_of x.lot) test (λ l. refl) lots) ∙ is_some-map (λ l. (known_lot l).1) (find test lots)
    ∙ found_too (λ l. int_eq (lot_key l) (pos x.number)) test lots it.row it.there (text_itself (key_of x.lot) (key_of (lot_of it.row)) (ap key_of (sym it.states)))

-- a lot that is among those that are kept is known
pub kept_known : (lots : List Lot) (kept : List NumberedLot) (key : List ℕ) → AreStated lots kept → is_among kept key ≡ true → contains_key (known_lots lots) key ≡ true
kept_known lots [] key are among = absurd (true≢false (sym among))
kept_known lots (x ∷ xs) key are among = go (eq_by_cmp text_cmp key (key_of x.lot)) refl among (kept_known lots xs key (All-tail (λ y. IsStated lots y.number y.lot) x xs are))
  where
    go : (b : Bool) → eq_by_cmp text_cmp key (key_of x.lot) ≡ b → (b || is_among xs key) ≡ true → (is_among xs key ≡ true → contains_key (known_lots lots) key ≡ true) → contains_key (known_lots lots) key ≡ true
    go true same here rest = subst (λ k. contains_key (known_lots lots) k ≡ true) (sym (text_same key (key_of x.lot) same)) (stated_known lots x (All-head (λ y. IsStated lots y.number y.lot) x xs are))
    go false other later rest = rest later

-- a lot that is among those that are missing is not known
pub missing_unknown : (lots : List Lot) (missing : List LotKey) (key : List ℕ) → AreMissing lots missing → is_among_missing missing key ≡ true → contains_key (known_lots lots) key ≡ false
missing_unknown lots [] key are among = absurd (true≢false (sym among))
missing_unknown lots (k ∷ ks) key are among = go (eq_by_cmp text_cmp key (key_in k)) refl among (missing_unknown lots ks key (All-tail (IsMissing lots) k ks are))
  where
    go : (b : Bool) → eq_by_cmp text_cmp key (key_in k) ≡ b → (b || is_among_missing ks key) ≡ true → (is_among_missing ks key ≡ true → contains_key (known_lots lots) key ≡ false) → contains_key (known_lots lots) key ≡ false
    go true same here rest = subst (λ x. contains_key (known_lots lots) x ≡ false) (sym (text_same key (key_in k) same)) (All-head (IsMissing lots) k ks are)
    go false other later rest = rest later
