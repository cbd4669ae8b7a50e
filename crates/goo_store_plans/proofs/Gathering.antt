-- Lots that are gathered part by part.
use Rattle.std.proofs.Common.{◌≡◌, ◌⊎◌, ⊎_elim, arith, drop, slice_index, ℕ, ◌+◌, ℤ, pos, ◌+ℤ◌, ◌&&◌, ◌||◌, List, [], ◌∷◌, ◌++◌, append_assoc, Bool, true, false, IsTrue, cond, find, option_map, reverse, fold, is_some, slice_get, inl, inr, Option, Some, None, refl, ap, sym, subst, ◌∙◌, true≢false}
use Rattle.std.specs.Prelude.{◌↔◌}
use Rattle.std.specs.FinMap.{FinMap, get, insert, get-insert, contains_key}
use Rattle.std.specs.List.{Any}
use Rattle.std.specs.Ordering.{eq_by_cmp, int_eq}
use Rattle.std.specs.Cmp.Lexicographic.{nat_list_cmp_total}
use Rattle.std.proofs.lemmas.Cmp.{int_eq_equiv}
use Rattle.std.proofs.lemmas.List.{reverse-append}
use Rattle.std.proofs.lemmas.List.Sums.{fold-append}
use Rattle.std.proofs.lemmas.List.Folds.{list_any-append}
use Rattle.std.proofs.lemmas.List.Elements.{All-nil, All-push, All-weaker}
use Rattle.std.proofs.lemmas.List.Quantifiers.{Any-push}
use Rattle.std.proofs.lemmas.Grind.{common_steps}
use Rattle.sqlite_keyed.specs.Keyed.{IsKeyedBy, get_by, has_key, insert_by, next_key}
use Rattle.sqlite_keyed.proofs.KeyedLemmas.{same_int, next_key_is_free, IsKeyedBy-insert_by}
use Rattle.sqlite_keyed.proofs.SliceLemmas.{insert_next, is_some-map}
use Rattle.sqlite_typed.specs.Tests.{bytes_eq}
use Rattle.goo_types.specs.Day.{IsDay}
use Rattle.goo_types.specs.Texts.{day_text}
use Rattle.goo_types.specs.Lot.{IsKnownAs}
use Rattle.goo_types.specs.declared.lot_fields.LotFields.{LotFields}
use Rattle.goo_types.specs.declared.part.Part.{Part}
use Rattle.goo_spec.specs.Lots.{key_of}
use Rattle.goo_spec.specs.Lots as lots_of
use Rattle.goo_spec.specs.State.{text_cmp}
use Rattle.goo_spec.proofs.Mapping.{inside}
use Rattle.goo_tables_rows.specs.Rows as row
use Rattle.goo_tables_rows.specs.Rows.{Lot, lot_key, lot_in, bare_lot, declaration_key, correction_key}
use Rattle.goo_tables_rows.specs.declared.lot.LotRow.{LotRow}
use Rattle.goo_spec_tables.specs.Kept.{IsKeptLot}
use Rattle.goo_spec_tables.specs.Places.{lot_of}
use Rattle.goo_spec_tables.specs.Readable.{is_lot}
use Rattle.goo_spec_tables.specs.States.{known_lot}
use Rattle.goo_spec_tables.proofs.Inserted.{map_inserted}
use Rattle.goo_spec_tables.proofs.Known.{text_same, text_itself, lot_test, get-known}
use Rattle.goo_store_plans.specs.Found.{IsKeyOf, key_in}
use Rattle.goo_store_plans.specs.LotNumbers.{IsNumberOf, IsKnownBy, AreJustWith}
use Rattle.goo_store_plans.specs.LotRows.{next_lot, next_declaration, next_correction, with_rows, is_among, AreGathered}
use Rattle.goo_store_plans.specs.NewLots.{known_lots, IsNewLot, AreNewLots}
use Rattle.goo_store_plans.specs.declared.known_rows.LotKey.{LotKey}
use Rattle.goo_store_plans.specs.declared.lot_numbers.NumberedLot.{NumberedLot}
use Rattle.goo_store_plans.proofs.CommandsActed.{texts_apart}
use Rattle.goo_store_plans.proofs.RegisteringActed.{find_put, find_either}
use Rattle.goo_store_plans.proofs.ImportingActed.{known_as}

-- ---- the next number

abbrev last_or : {X : Type 0} (key : X → ℤ) → ℤ → Option X → ℤ
last_or key before None = before
last_or key before (Some x) = key x +ℤ pos 1

last_behind : {X : Type 0} (key : X → ℤ) (before : ℤ) (ys : List X) (x : X) → last_or key (key x +ℤ pos 1) (slice_get ys 0) ≡ last_or key before (slice_get (ys ++ x ∷ []) 0)
last_behind key before [] x = refl
last_behind key before (y ∷ ys) x = refl

last_next : {X : Type 0} (key : X → ℤ) (before : ℤ) (xs : List X) → fold (λ _ x. key x +ℤ pos 1) before xs ≡ last_or key before (slice_get (reverse xs) 0)
last_next key before [] = refl
last_next key before (x ∷ xs) = last_next key (key x +ℤ pos 1) xs ∙ last_behind key before (reverse xs) x ∙ ap (λ ys. last_or key before (slice_get ys 0)) (sym (reverse-append (x ∷ []) xs))

pub next_lot_is : (lots : List Lot) → pos (next_lot (option_map bare_lot (slice_get (reverse lots) 0))) ≡ next_key lot_key lots
next_lot_is lots = go (slice_get (reverse lots) 0) ∙ sym (last_next lot_key (pos 1) lots)
  where
    go : (o : Option Lot) → pos (next_lot (option_map bare_lot o)) ≡ last_or lot_key (pos 1) o
    go None = refl
    go (Some l) = refl

-- what is there is there with more behind
pub any_more : {X : Type 0} (P : X → Type 0) (xs ys : List X) → Any P xs → Any P (xs ++ ys)
any_more P xs ys (k, x, low, is, has) = (k, x, grind (arith, common_steps), grind (arith, common_steps), has)

-- ---- a row more

module _ (xs : List Lot) (l : Lot) (fresh : has_key lot_key xs (lot_key l) ≡ false) where
  none_there : (o : Option Lot) → is_some o ≡ false → o ≡ None
  none_there None is = refl
  none_there (Some x) is = absurd (true≢false is)

  found_more : (id : ℤ) → get_by lot_key (insert_by lot_key xs l) id ≡ cond (int_eq (lot_key l) id) (Some l) (get_by lot_key xs id)
  found_more id =
      find_put lot_key (λ k. int_eq (lot_key k) id) l xs fresh
      (λ is. subst (λ k. get_by lot_key xs k ≡ None) (same_int (lot_key l) id is) (none_there (get_by lot_key xs (lot_key l)) fresh))

  still_there : (n : ℕ) (row : Lot) → get_by lot_key xs (pos n) ≡ Some row → get_by lot_key (insert_by lot_key xs l) (pos n) ≡ Some row
  still_there n row is = found_more (pos n) ∙ go (int_eq (lot_key l) (pos n)) refl
    where
      go : (b : Bool) → int_eq (lot_key l) (pos n) ≡ b → cond b (Some l) (get_by lot_key xs (pos n)) ≡ Some row
      go true same = absurd (true≢false (sym (ap is_some is) ∙ sym (ap (has_key lot_key xs) (same_int (lot_key l) (pos n) same)) ∙ fresh))
      go false other = is

  -- the lot that is known is the new one, or was known
  known_more : (before : List Lot) (added : List NumberedLot) (x : NumberedLot) → AreJustWith before added xs → lot_of l ≡ x.lot
      → (lot : LotFields) → IsKnownBy (insert_by lot_key xs l) lot → Any (λ y. y.lot ≡ lot) (added ++ x ∷ []) ⊎ IsKnownBy before lot
  known_more before added x it states lot is =
      let test : Lot → Bool = λ y. eq_by_cmp text_cmp (key_of lot) (key_of (lot_of y)) in
      let P : Option Lot → Type 0 = λ o. option_map (λ y. (known_lot y).1) o ≡ Some lot in
      ⊎_elim
      (λ new. inl (Any-push (λ (y : NumberedLot). y.lot ≡ lot) added x (sym states ∙ inside (lot_of l) lot new)))
      (λ old. ⊎_elim (λ there. inl (any_more (λ (y : NumberedLot). y.lot ≡ lot) added (x ∷ []) there)) inr (it.only lot (get-known nat_list_cmp_total known_lot (key_of lot) test (λ y. refl) xs ∙ old)))
      (find_either lot_key test l P xs fresh (sym (get-known nat_list_cmp_total known_lot (key_of lot) test (λ y. refl) (insert_by lot_key xs l)) ∙ is))

  -- one lot more, under its number
  pub with_more : (before : List Lot) (added : List NumberedLot) (x : NumberedLot) → AreJustWith before added xs → l.id ≡ x.number → lot_of l ≡ x.lot → AreJustWith before (added ++ x ∷ []) (insert_by lot_key xs l)
  with_more before added x it number states = record {
    with = record {
      kept = λ n row is. still_there n row (it.with.kept n row is);
      added_are = All-push (λ y. IsNumberOf (insert_by lot_key xs l) y.number y.lot) added x
          (All-weaker (λ y. IsNumberOf xs y.number y.lot) (λ y. IsNumberOf (insert_by lot_key xs l) y.number y.lot) (λ y h. record { row = h.row; there = still_there y.number h.row h.there; states = h.states }) added it.with.added_are)
          (record {
            row = l;
            there = found_more (pos x.number) ∙ ap (λ b. cond b (Some l) (get_by lot_key xs (pos x.number))) (ap (λ n. int_eq (pos n) (pos x.number)) number ∙ int_eq_equiv.refl (pos x.number));
            states = states;
          });
    };
    only = known_more before added x it states;
  }

pub with_none : (lots : List Lot) → AreJustWith lots [] lots
with_none lots = record { with = record { kept = λ n row is. is; added_are = All-nil (λ y. IsNumberOf lots y.number y.lot) }; only = λ lot is. inr is }

-- ---- part by part

pub gathered_first : (lots : List Lot) (all : List Part) (next : ℕ) → IsKeyedBy lot_key lots → pos next ≡ next_key lot_key lots → AreGathered lots all all [] [] next
gathered_first lots all next rise is = record { rise = rise; next_is = is; members = λ k. sym (or-false (contains_key (known_lots lots) k)); numbers = with_none lots; done = λ more are. are }
  where
    or-false : (b : Bool) → (b || false) ≡ b
    or-false true = refl
    or-false false = refl

pub gathered_known : (lots : List Lot) (all left : List Part) (p : Part) (new : List Lot) (numbered : List NumberedLot) (next : ℕ) → (contains_key (known_lots lots) (key_of p.lot) || is_among numbered (key_of p.lot)) ≡ true
    → AreGathered lots all (p ∷ left) new numbered next → AreGathered lots all left new numbered next
gathered_known lots all left p new numbered next known it = record {
  rise = it.rise;
  next_is = it.next_is;
  members = it.members;
  numbers = it.numbers;
  done = λ more are. it.done more (inl (it.members (key_of p.lot) ∙ known, are));
}

module _ (lots : List Lot) (all left : List Part) (p : Part) (new : List Lot) (numbered : List NumberedLot) (next : ℕ) (it : AreGathered lots all (p ∷ left) new numbered next)
    (unknown : (contains_key (known_lots lots) (key_of p.lot) || is_among numbered (key_of p.lot)) ≡ false)
    (l : Lot) (x : NumberedLot) (id : l.id ≡ next) (states : lot_of l ≡ p.lot) (reads : is_lot l ≡ true) (keeps : IsKeptLot l) (number : x.number ≡ next) (lot : x.lot ≡ p.lot) where
  abbrev xs : List Lot
  xs = with_rows lots new

  abbrev m : FinMap text_cmp LotFields
  m = known_lots xs

  key_is : lot_key l ≡ next_key lot_key xs
  key_is = ap pos id ∙ it.next_is

  fresh : has_key lot_key xs (lot_key l) ≡ false
  fresh = ap (has_key lot_key xs) key_is ∙ next_key_is_free lot_key xs it.rise

  no_lot : get m (key_of p.lot) ≡ None
  no_lot = go (get m (key_of p.lot)) (it.members (key_of p.lot) ∙ unknown)
    where
      go : (o : Option LotFields) → is_some o ≡ false → o ≡ None
      go None is = refl
      go (Some k) is = absurd (true≢false is)

  is_new : IsNewLot xs p.lot l
  is_new = record { states = states; unknown = no_lot; fresh = fresh; reads = reads; kept = keeps }

  put : known_lots (insert_by lot_key xs l) ≡ insert m (key_of p.lot) p.lot
  put = map_inserted nat_list_cmp_total lot_key known_lot l texts_apart xs fresh (ap (λ k. get m (key_of k)) states ∙ no_lot) ∙ ap (λ k. insert m (key_of k) k) states

  rows_are : with_rows lots (new ++ l ∷ []) ≡ insert_by lot_key xs l
  rows_are = fold-append (insert_by lot_key) lots new (l ∷ [])

  next_after : next_key lot_key (insert_by lot_key xs l) ≡ pos (next + 1)
  next_after = ap (next_key lot_key) (insert_next lot_key xs l it.rise key_is) ∙ fold-append (λ _ y. lot_key y +ℤ pos 1) (pos 1) xs (l ∷ []) ∙ ap (λ n. pos n +ℤ pos 1) id

  members_after : (k : List ℕ) → contains_key (known_lots (insert_by lot_key xs l)) k ≡ (contains_key (known_lots lots) k || is_among (numbered ++ x ∷ []) k)
  members_after k =
      ap (λ (n : FinMap text_cmp LotFields). contains_key n k) put
      ∙ ap is_some (get-insert nat_list_cmp_total m (key_of p.lot) p.lot k)
      ∙ go (eq_by_cmp text_cmp k (key_of p.lot)) (get m k) (contains_key (known_lots lots) k) (is_among numbered k) (it.members k)
      ∙ ap (λ b. contains_key (known_lots lots) k || (is_among numbered k || (b || false))) (ap (λ q. eq_by_cmp text_cmp k (key_of q)) (sym lot))
      ∙ ap (λ b. contains_key (known_lots lots) k || b) (sym (list_any-append (λ y. eq_by_cmp text_cmp k (key_of y.lot)) numbered (x ∷ [])))
    where
      go : (e : Bool) (o : Option LotFields) (a b : Bool) → is_some o ≡ (a || b) → is_some (cond e (Some p.lot) o) ≡ (a || (b || (e || false)))
      go true o true b is = refl
      go true o false true is = refl
      go true o false false is = refl
      go false o true b is = is
      go false o false true is = is
      go false o false false is = is

  pub gathered_new : AreGathered lots all left (new ++ l ∷ []) (numbered ++ x ∷ []) (next + 1)
  gathered_new = record {
    rise = subst (IsKeyedBy lot_key) (sym rows_are) (IsKeyedBy-insert_by lot_key xs l it.rise);
    next_is = sym (ap (next_key lot_key) rows_are ∙ next_after);
    members = λ k. ap (λ ys. contains_key (known_lots ys) k) rows_are ∙ members_after k;
    numbers = subst (AreJustWith lots (numbered ++ x ∷ [])) (sym rows_are) (with_more xs l fresh lots numbered x it.numbers (id ∙ sym number) (states ∙ sym lot));
    done = λ more are. subst (AreNewLots lots all) (sym (append_assoc new (l ∷ []) more)) (it.done (l ∷ more) (inr (l, more, refl, is_new, subst (λ ys. AreNewLots ys left more) rows_are are)));
  }

alike : (a c : Bool) → (a ≡ true → c ≡ true) → (c ≡ true → a ≡ true) → a ≡ c
alike true c there back = sym (there refl)
alike false true there back = back refl
alike false false there back = refl

-- two lots are known as one just where their keys are one
pub known_as_test : (b : Bool) (known lot : LotFields) → (IsTrue b ↔ IsKnownAs known lot) → b ≡ eq_by_cmp text_cmp (key_of lot) (key_of known)
known_as_test b known lot says =
    alike b (eq_by_cmp text_cmp (key_of lot) (key_of known))
    (λ is. let k = says.0 is in text_itself (key_of lot) (key_of known) (λ i. lots_of.lot_key (sym k.origin i) (sym k.device i) (sym k.first_day i)))
    (λ is. says.1 (known_as known lot (sym (text_same (key_of lot) (key_of known) is))))

-- a lot is known by its origin, device and first day alone
pub key_test : (b : Bool) (key : LotKey) (lot : LotFields) → (IsTrue b ↔ IsKeyOf key lot) → b ≡ eq_by_cmp text_cmp (key_of lot) (key_in key)
key_test b key lot says =
    alike b (eq_by_cmp text_cmp (key_of lot) (key_in key))
    (λ is. let k = says.0 is in text_itself (key_of lot) (key_in key) (λ i. lots_of.lot_key (sym k.origin i) (sym k.device i) (sym k.first_day i)))
    (λ is. says.1 (shared (sym (text_same (key_of lot) (key_in key) is))))
  where
    shared : key_in key ≡ key_of lot → IsKeyOf key lot
    shared e = record {
      origin = ap (λ k. slice_index k 0) e;
      device = ap (drop 4) e;
      first_day = λ i. record { year = slice_index (e i) 1; month = slice_index (e i) 2; day = slice_index (e i) 3 };
    }

-- whether a lot was found by its key
pub known_found : (lots : List Lot) (found : Option LotRow) (there : Bool) (o : ℕ) (d text : List ℕ) (lot : LotFields) → o ≡ lot.origin → d ≡ lot.device → text ≡ day_text lot.first_day → IsDay lot.first_day
    → option_map lot_in found ≡ find (λ x. int_eq (pos x.origin) (pos o) && (bytes_eq x.device d && bytes_eq x.first_day text)) lots → there ≡ is_some found → there ≡ contains_key (known_lots lots) (key_of lot)
known_found lots found there o d text lot origin device day valid right read =
    let test : Lot → Bool = λ x. int_eq (pos x.origin) (pos o) && (bytes_eq x.device d && bytes_eq x.first_day text) in
    let same : (l : Lot) → test l ≡ eq_by_cmp text_cmp (key_of lot) (key_of (lot_of l)) =
    λ l. (λ i. int_eq (pos l.origin) (pos (origin i)) && (bytes_eq l.device (device i) && bytes_eq l.first_day (day i))) ∙ lot_test l.origin l.device l.first_day lot.origin lot.device lot.first_day valid in
    read ∙ sym (is_some-map lot_in found) ∙ ap is_some right ∙ sym (is_some-map (λ l. (known_lot l).1) (find test lots)) ∙ ap is_some (sym (get-known nat_list_cmp_total known_lot (key_of lot) test same lots))

pub next_declaration_is : (ds : List row.Declaration) → pos (next_declaration (slice_get (reverse ds) 0)) ≡ next_key declaration_key ds
next_declaration_is ds = go (slice_get (reverse ds) 0) ∙ sym (last_next declaration_key (pos 1) ds)
  where
    go : (o : Option row.Declaration) → pos (next_declaration o) ≡ last_or declaration_key (pos 1) o
    go None = refl
    go (Some d) = refl

pub next_correction_is : (cs : List row.Correction) → pos (next_correction (slice_get (reverse cs) 0)) ≡ next_key correction_key cs
next_correction_is cs = go (slice_get (reverse cs) 0) ∙ sym (last_next correction_key (pos 1) cs)
  where
    go : (o : Option row.Correction) → pos (next_correction o) ≡ last_or correction_key (pos 1) o
    go None = refl
    go (Some c) = refl
