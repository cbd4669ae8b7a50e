-- The devices of lots, as one more lot is taken in.
use Rattle.std.proofs.Common.{◌≡◌, ◌<◌, ◌+◌, ℕ, pos, Bool, true, false, cond, List, [], ◌∷◌, ◌++◌, map, take, length, get_or, find, Option, Some, None, is_some, option_map, refl, sym, ap, ◌∙◌, true≢false}
use Rattle.std.specs.List.{list_all}
use Rattle.std.specs.BTreeMap.{BTreeMap, get}
use Rattle.std.specs.Ordering.{eq_by_cmp, int_eq, nat_cmp}
use Rattle.std.specs.Cmp.{eq_by_cmp_equiv, nat_cmp_total}
use Rattle.std.proofs.lemmas.Bool.{eqb-true}
use Rattle.std.proofs.lemmas.List.{take_more, map-append}
use Rattle.std.proofs.lemmas.List.Folds.{list_all_at}
use Rattle.sqlite_keyed.specs.Keyed.{get_by}
use Rattle.goo_tables_rows.specs.Rows.{Lot, lot_key, lot_in}
use Rattle.goo_tables_rows.specs.declared.lot.LotRow.{LotRow}
use Rattle.goo_spec_tables.proofs.Known.{number_test, number_is}
use Rattle.goo_store_rules.specs.Production.{AreDevicesOf}

-- what holds of all holds of one
pub at_true : {X : Type 0} (p : X → Bool) (xs : List X) (i : ℕ) (x : X) → i < length xs → x ≡ get_or xs i x → list_all p xs ≡ true → p x ≡ true
at_true p xs i x low at all = go (p x) refl
  where
    go : (b : Bool) → p x ≡ b → b ≡ true
    go true e = refl
    go false e = absurd (true≢false (sym all ∙ list_all_at p xs i x low (ap p (sym at) ∙ e)))

or_else : {X : Type 0} → Option X → Option X → Option X
or_else None o = o
or_else (Some x) o = Some x

find-push : {X : Type 0} (p : X → Bool) (xs : List X) (x : X) → find p (xs ++ x ∷ []) ≡ or_else (find p xs) (cond (p x) (Some x) None)
unfolding or_else
find-push p [] x = refl
find-push p (y ∷ ys) x = go (p y) (find-push p ys x)
  where
    go : (b : Bool) → find p (ys ++ x ∷ []) ≡ or_else (find p ys) (cond (p x) (Some x) None) → cond b (Some y) (find p (ys ++ x ∷ [])) ≡ or_else (cond b (Some y) (find p ys)) (cond (p x) (Some x) None)
    go true rest = refl
    go false rest = rest

abbrev device : Lot → List ℕ
device l = l.device

put : (l : Lot) (b : Bool) (o : Option Lot) → (b ≡ true → is_some (option_map device o) ≡ false) → cond b (Some l.device) (option_map device o) ≡ option_map device (or_else o (cond b (Some l) None))
unfolding or_else
put l true None new = refl
put l true (Some y) new = absurd (true≢false (new refl))
put l false None new = refl
put l false (Some y) new = refl

left : (l : Lot) (b : Bool) (o : Option Lot) → (b ≡ true → is_some (option_map device o) ≡ true) → option_map device o ≡ option_map device (or_else o (cond b (Some l) None))
unfolding or_else
left l true None there = absurd (true≢false (sym (there refl)))
left l true (Some y) there = refl
left l false None there = refl
left l false (Some y) there = refl

module _ (rows : List LotRow) (i : ℕ) (row : LotRow) (low : i < length rows) (at : row ≡ get_or rows i row) (m : BTreeMap ℕ (List ℕ)) (are : AreDevicesOf (map lot_in (take i rows)) m) where
  one_more : map lot_in (take (i + 1) rows) ≡ map lot_in (take i rows) ++ lot_in row ∷ []
  one_more = ap (map lot_in) (take_more rows i row low ∙ ap (λ z. take i rows ++ z ∷ []) (sym at)) ∙ map-append lot_in (take i rows) (row ∷ [])

  found : (id : ℕ) → get_by lot_key (map lot_in (take (i + 1) rows)) (pos id) ≡ or_else (get_by lot_key (map lot_in (take i rows)) (pos id)) (cond (int_eq (pos row.id) (pos id)) (Some (lot_in row)) None)
  found id = ap (λ ls. get_by lot_key ls (pos id)) one_more ∙ find-push (λ l. int_eq (lot_key l) (pos id)) (map lot_in (take i rows)) (lot_in row)

  test : (id : ℕ) → eq_by_cmp nat_cmp row.id id ≡ int_eq (pos row.id) (pos id)
  test id = (eq_by_cmp_equiv nat_cmp_total).symm row.id id ∙ sym (number_test row.id id)

  same : (id : ℕ) → int_eq (pos row.id) (pos id) ≡ true → get nat_cmp m id ≡ get nat_cmp m row.id
  same id is = ap (get nat_cmp m) (sym (eqb-true row.id id (sym (number_is row.id id) ∙ is)))

  -- a lot of a number that isn't there yet
  pub devices_put : (n : BTreeMap ℕ (List ℕ)) (d : List ℕ) → d ≡ (lot_in row).device → is_some (get nat_cmp m row.id) ≡ false → ((id : ℕ) → get nat_cmp n id ≡ cond (eq_by_cmp nat_cmp row.id id) (Some d) (get nat_cmp m id))
      → AreDevicesOf (map lot_in (take (i + 1) rows)) n
  devices_put n d is none puts id =
      puts id ∙ (λ k. cond (test id k) (Some (is k)) (are id k))
      ∙ put (lot_in row) (int_eq (pos row.id) (pos id)) (get_by lot_key (map lot_in (take i rows)) (pos id)) (λ eq. ap is_some (sym (are id) ∙ same id eq) ∙ none)
      ∙ ap (option_map device) (sym (found id))

  -- a lot of a number that is there
  pub devices_left : is_some (get nat_cmp m row.id) ≡ true → AreDevicesOf (map lot_in (take (i + 1) rows)) m
  devices_left there id =
      are id ∙ left (lot_in row) (int_eq (pos row.id) (pos id)) (get_by lot_key (map lot_in (take i rows)) (pos id)) (λ eq. ap is_some (sym (are id) ∙ same id eq) ∙ there)
      ∙ ap (option_map device) (sym (found id))
