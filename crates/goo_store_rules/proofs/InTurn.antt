-- Own lots beside their declarations, both in one order.
use Rattle.std.proofs.Common.{◌≡◌, ◌+◌, ◌==◌, ℕ, Bool, true, false, cond, not, ◌&&◌, ◌||◌, List, [], ◌∷◌, take, drop, map, string_bytes, Some, refl, sym, ap, ◌∙◌, true≢false}
use Rattle.std.specs.Prelude.{position}
use Rattle.std.specs.List.{AllByRecursion, list_all, list_any, position_from}
use Rattle.std.specs.Ordering.{eq_by_cmp, is_eq}
use Rattle.std.specs.Cmp.Lexicographic.{texts_ties}
use Rattle.std.proofs.lemmas.Bool.{and_parts, or_left, or_right}
use Rattle.std.proofs.lemmas.Iterator.Adapters.{position_from-zero}
use Rattle.std.proofs.lemmas.List.{take-append-drop}
use Rattle.std.proofs.lemmas.List.Folds.{list_any-append}
use Rattle.sqlite_keyed.proofs.ListLemmas.{all_weaker}
use Rattle.sqlite_keyed.proofs.SliceLemmas.{list_all_same}
use Rattle.goo_spec.specs.State.{text_cmp}
use Rattle.goo_tables_rows.specs.Rows.{Lot, Declaration, declaration_in, lot_in, correction_in}
use Rattle.goo_tables_rows.specs.declared.correction.CorrectionRow.{CorrectionRow}
use Rattle.goo_tables_rows.specs.declared.declaration.DeclarationRow.{DeclarationRow}
use Rattle.goo_tables_rows.specs.declared.lot.LotRow.{LotRow}
use Rattle.goo_store_rules.specs.WellKept.{has_declaration, has_lot_device, has_corrected, is_declared, is_of_lot, text_pair_cmp}
use Rattle.goo_spec_tables.proofs.Known.{text_same, text_itself}
use Rattle.goo_store_rules.proofs.EachRow.{list_any-map, any_itself}
use Rattle.goo_store_rules.proofs.LotsDeclared.{both_equal}

-- what has a place is there
placed : {X : Type 0} (test : X → Bool) (i : ℕ) (xs : List X) (n : ℕ) → position_from test i xs ≡ Some n → list_any test xs ≡ true
placed test i [] n is = absurd cc
placed test i (x ∷ xs) n is = go (test x) is (placed test (i + 1) xs n)
  where
    go : (b : Bool) → cond b (Some i) (position_from test (i + 1) xs) ≡ Some n → (position_from test (i + 1) xs ≡ Some n → list_any test xs ≡ true) → b || list_any test xs ≡ true
    go true here later = refl
    go false here later = later here

-- what is in a part is among all
any_among : {X : Type 0} (test : X → Bool) (m n : ℕ) (xs : List X) → list_any test (take m (drop n xs)) ≡ true → list_any test xs ≡ true
any_among test m n xs is =
    let part : list_any test (drop n xs) ≡ true =
    ap (list_any test) (sym (take-append-drop m (drop n xs))) ∙ list_any-append test (take m (drop n xs)) (drop m (drop n xs)) ∙ or_left (list_any test (take m (drop n xs))) (list_any test (drop m (drop n xs))) is in
    ap (list_any test) (sym (take-append-drop n xs)) ∙ list_any-append test (take n xs) (drop n xs) ∙ or_right (list_any test (take n xs)) (list_any test (drop n xs)) part

same_test : (l : Lot) (d : Declaration) → is_of_lot l d ≡ eq_by_cmp text_pair_cmp (l.device, l.first_day) (d.device, d.first_day)
same_test l d = (λ i. texts_ties l.device d.device i && texts_ties l.first_day d.first_day i) ∙ sym (both_equal (text_cmp l.device d.device) (text_cmp l.first_day d.first_day))

-- the declaration of a lot that has a place is there
pub is_there : (l : Lot) (ds : List DeclarationRow) (n : ℕ) → position (λ d. is_of_lot l (declaration_in d)) ds ≡ Some n → has_declaration (map declaration_in ds) l.device l.first_day ≡ true
is_there l ds n is =
    list_any-map (λ d. eq_by_cmp text_pair_cmp (l.device, l.first_day) (d.device, d.first_day)) declaration_in ds
    ∙ (λ i. list_any (λ d. sym (same_test l (declaration_in d)) i) ds) ∙ placed (λ d. is_of_lot l (declaration_in d)) 0 ds n (sym (position_from-zero (λ d. is_of_lot l (declaration_in d)) ds) ∙ is)

-- a declaration of a part is among all
pub is_among : (ds : List DeclarationRow) (m n : ℕ) (device first_day : List ℕ) → has_declaration (map declaration_in (take m (drop n ds))) device first_day ≡ true → has_declaration (map declaration_in ds) device first_day ≡ true
is_among ds m n device first_day is =
    let test : Declaration → Bool = λ d. eq_by_cmp text_pair_cmp (device, first_day) (d.device, d.first_day) in
    list_any-map test declaration_in ds ∙ any_among (λ d. test (declaration_in d)) m n ds (sym (list_any-map test declaration_in (take m (drop n ds))) ∙ is)

-- ---- declarations of some devices

-- periods that are the same are of the same device
pub same_device : (a f b g : List ℕ) → eq_by_cmp text_pair_cmp (a, f) (b, g) ≡ true → b ≡ a
same_device a f b g is = sym (text_same a b (and_parts (is_eq (text_cmp a b)) (is_eq (text_cmp f g)) (sym (both_equal (text_cmp a b) (text_cmp f g)) ∙ is)).0)

-- one more declaration, whose device is one of them or not
pub kept_of : (here same among before : Bool) → (same ≡ true → among ≡ here) → cond (here && same) true (among && before) ≡ (among && cond same true before)
kept_of true true true before is = refl
kept_of true true false before is = sym (is refl)
kept_of false true true before is = absurd (true≢false (is refl))
kept_of false true false before is = refl
kept_of true false among before is = refl
kept_of false false among before is = refl

-- where periods are those of the devices of some rows, they say of each of these rows whether it was declared
module _ {X : Type 0} (device first_day : X → List ℕ) (has_one : List ℕ → Bool) (has_period declared : List ℕ → List ℕ → Bool) (periods : (x : X) → has_period (device x) (first_day x) ≡ (has_one (device x) && declared (device x) (first_day x))) where
  pub each_declared : (xs : List X) → ((x : X) → has_one (device x) ≡ list_any (λ y. eq_by_cmp text_cmp (device x) (device y)) xs) → AllByRecursion (λ x. has_period (device x) (first_day x) ≡ declared (device x) (first_day x)) xs
  each_declared xs are =
      all_weaker (λ x. list_any (λ y. eq_by_cmp text_cmp (device x) (device y)) xs ≡ true) _
      (λ x there. periods x ∙ ap (λ b. b && declared (device x) (first_day x)) (are x ∙ there)) xs
      (any_itself (λ x y. eq_by_cmp text_cmp (device x) (device y)) (λ x. text_itself (device x) (device x) refl) xs)

module _ (has_one : List ℕ → Bool) (has_period declared : List ℕ → List ℕ → Bool) where
  pub lots_same : (own : ℕ) (lots : List LotRow) → ((x : LotRow) → has_period (string_bytes x.device) (string_bytes x.first_day) ≡ (has_one (string_bytes x.device) && declared (string_bytes x.device) (string_bytes x.first_day)))
      → ((x : LotRow) → has_one (string_bytes x.device) ≡ has_lot_device (map lot_in lots) (string_bytes x.device))
      → list_all (λ row. is_declared has_period own (lot_in row)) lots ≡ list_all (λ row. is_declared declared own (lot_in row)) lots
  lots_same own lots periods are =
      list_all_same (λ row. is_declared has_period own (lot_in row)) (λ row. is_declared declared own (lot_in row)) lots
      (all_weaker _ _ (λ row is. ap (λ b. not (row.origin == own) || b) is) lots
      (each_declared (λ (x : LotRow). string_bytes x.device) (λ x. string_bytes x.first_day) has_one has_period declared periods lots (λ x. are x ∙ list_any-map (λ l. eq_by_cmp text_cmp (string_bytes x.device) l.device) lot_in lots)))

  pub corrections_same : (corrections : List CorrectionRow) → ((x : CorrectionRow) → has_period (string_bytes x.device) (string_bytes x.first_day) ≡ (has_one (string_bytes x.device) && declared (string_bytes x.device) (string_bytes x.first_day)))
      → ((x : CorrectionRow) → has_one (string_bytes x.device) ≡ has_corrected (map correction_in corrections) (string_bytes x.device))
      → list_all (λ row. has_period (string_bytes row.device) (string_bytes row.first_day)) corrections ≡ list_all (λ row. declared (string_bytes row.device) (string_bytes row.first_day)) corrections
  corrections_same corrections periods are =
      list_all_same (λ row. has_period (string_bytes row.device) (string_bytes row.first_day)) (λ row. declared (string_bytes row.device) (string_bytes row.first_day)) corrections
      (each_declared (λ (x : CorrectionRow). string_bytes x.device) (λ x. string_bytes x.first_day) has_one has_period declared periods corrections
      (λ x. are x ∙ list_any-map (λ c. eq_by_cmp text_cmp (string_bytes x.device) c.device) correction_in corrections))
