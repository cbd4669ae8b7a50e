-- What the checks of an accepted import say of each certificate that its notice names.
use Rattle.std.proofs.Common.{◌≡◌, ℕ, Bool, true, false, cond, ◌&&◌, List, [], ◌∷◌, map, Option, Some, None, refl, sym, ap, ◌∙◌, inl, inr, ⊎_elim}
use Rattle.std.specs.Prelude.{◌⊎◌, ◌==◌, find}
use Rattle.std.specs.Option.{option_or}
use Rattle.std.specs.List.{list_any}
use Rattle.std.specs.FinMap.{get}
use Rattle.std.proofs.lemmas.List.Folds.{find-append}
use Rattle.std.proofs.lemmas.Bool.{true≢false, eqb-true, eq-eqb, or_cases, or_parts, not-false}
use Rattle.goo_types.specs.Number.{code_of}
use Rattle.goo_types.specs.declared.lot_fields.LotFields.{LotFields}
use Rattle.goo_types.specs.declared.place.Place.{Place}
use Rattle.goo_types.specs.declared.place.Place.TheVariants.{Held}
use Rattle.goo_types.specs.declared.part.Part.{Part}
use Rattle.goo_types.specs.declared.command.Import.{Import}
use Rattle.goo_types.proofs.LotLemmas.{Decides-same_lot}
use Rattle.goo_spec.specs.Days.{is_over}
use Rattle.goo_spec.specs.Lots.{same_lot, is_absent, is_exported, fails, key_of}
use Rattle.goo_spec.specs.Maps.{each, is_within}
use Rattle.goo_spec.specs.State.{State}
use Rattle.goo_spec.specs.Import.{names, numbered, number_of, least_where, is_other_lot, differs, entry_checks, import_checks, import_refusal}
use Rattle.goo_spec.specs.Fate.{taken_one}
use Rattle.goo_spec.proofs.Mapping.{none_some}
use Rattle.goo_spec.proofs.Placing.{is_one_of}
use Rattle.goo_spec.proofs.Checking.{none_fail, passes, holds, unfound}
use Rattle.goo_spec.proofs.Numbers.{one_within}
use Rattle.goo_spec_laws.specs.Ways.{Known, IsAway, IsImported}
use Rattle.goo_spec_laws.proofs.Rows.{StaysOr}

-- the lot of each part that has the number is good
abbrev Fits : (LotFields → Type 0) → ℕ → List Part → Type 0
Fits Good n [] = Unit {0}
Fits Good n (p ∷ ps) = (is_within p.range n ≡ true → Good p.lot) × Fits Good n ps

both_fit : (A B : LotFields → Type 0) (n : ℕ) (ps : List Part) → Fits A n ps → Fits B n ps → Fits (λ lot. A lot × B lot) n ps
both_fit A B n [] a b = tt
both_fit A B n (p ∷ ps) a b = ((λ within. (a.0 within, b.0 within)), both_fit A B n ps a.1 b.1)

-- ---- a test that finds none of the parts' numbers

unmapped : (test : ℕ × LotFields → Bool) (lot : LotFields) (ns : List ℕ) (n : ℕ) → find test (map (λ m. (m, lot)) ns) ≡ None → is_one_of ns n ≡ true → test (n, lot) ≡ false
unmapped test lot [] n none one = absurd (true≢false (sym one))
unmapped test lot (m ∷ ms) n none one =
    elim (test (m, lot)) as (λ b. test (m, lot) ≡ b → cond b (Some (m, lot)) (find test (map (λ k. (k, lot)) ms)) ≡ None → test (n, lot) ≡ false) [
      | true ↦ λ e h. none_some (m, lot) (sym h)
      | false ↦ λ e h. ⊎_elim
          (λ (here : (n == m) ≡ true). ap (λ k. test (k, lot)) (eqb-true n m here) ∙ e)
          (λ (later : is_one_of ms n ≡ true). unmapped test lot ms n h later)
          (or_cases (n == m) (is_one_of ms n) one)
    ] refl none

neither : {X : Type 0} (a b : Option X) → option_or a b ≡ None → (a ≡ None) × (b ≡ None)
neither None b h = (refl, h)
neither (Some x) b h = none_some x (sym h)

no_number : (o : Option (ℕ × LotFields)) → number_of o ≡ None → o ≡ None
no_number None h = refl
no_number (Some e) h = none_some e.0 (sym h)

nowhere : (test : ℕ × LotFields → Bool) (n : ℕ) (ps : List Part) → find test (numbered ps) ≡ None → Fits (λ lot. test (n, lot) ≡ false) n ps
nowhere test n [] none = tt
nowhere test n (p ∷ ps) none =
    let parts = neither (find test (map (λ m. (m, p.lot)) (each p.range))) (find test (numbered ps)) (sym (find-append test (map (λ m. (m, p.lot)) (each p.range)) (numbered ps)) ∙ none) in
    ((λ within. unmapped test p.lot (each p.range) n parts.0 (one_within p.range n ∙ within)), nowhere test n ps parts.1)

none_over : (test : Part → Bool) (good : LotFields → Bool) → ((p : Part) → test p ≡ false → good p.lot ≡ false) → (n : ℕ) (ps : List Part) → list_any test ps ≡ false → Fits (λ lot. good lot ≡ false) n ps
none_over test good so n [] none = tt
none_over test good so n (p ∷ ps) none = let parts = or_parts (test p) (list_any test ps) none in ((λ within. so p parts.0), none_over test good so n ps parts.1)

-- where no part has the number, any lot is good
none_named : (n : ℕ) (ps : List Part) → list_any (λ p. is_within p.range n) ps ≡ false → Fits (λ lot. ⊥) n ps
none_named n [] none = tt
none_named n (p ∷ ps) none =
    let parts = or_parts (is_within p.range n) (list_any (λ q. is_within q.range n) ps) none in
    ((λ within. true≢false (sym within ∙ parts.0)), none_named n ps parts.1)

-- ---- what a number has after the parts

abbrev Took : (LotFields → Type 0) → Place → Known → Known → Type 0
Took Good place o known = (known ≡ o) ⊎ ((lot : LotFields) × Good lot × (known ≡ Some (lot, place)))

module _ (Good : LotFields → Type 0) (place : Place) (o : Known) (n : ℕ) where
  took_part : (p : Part) (b : Bool) (known : Known) → (b ≡ true → Good p.lot) → Took Good place o known → Took Good place o (cond b (Some (p.lot, place)) known)
  took_part p true known good took = inr (p.lot, good refl, refl)
  took_part p false known good took = took

  took_parts : (ps : List Part) (known : Known) → Fits Good n ps → Took Good place o known → Took Good place o (taken_one ps place n known)
  took_parts [] known fits took = took
  took_parts (p ∷ ps) known fits took = took_parts ps (cond (is_within p.range n) (Some (p.lot, place)) known) fits.1 (took_part p (is_within p.range n) known fits.0 took)

-- ---- the checks of one number

away_with : (lot : LotFields) (o : Known) → fails (λ l place. is_exported place) o ≡ false → fails (λ l place. same_lot l lot) o ≡ false → IsAway lot o
away_with lot None out same = tt
away_with lot (Some known) out same = ((Decides-same_lot known.0 lot).0 (not-false (same_lot known.0 lot) same), not-false (is_exported known.1) out)

second_false : (a b : Bool) → a ≡ true → (a && b) ≡ false → b ≡ false
second_false true b e h = h
second_false false b e h = absurd (true≢false (sym e))

abbrev here : State → ℕ × LotFields → Bool
here s e = fails (λ lot place. is_exported place) (get s.at e.0)

abbrev missing : State → ℕ × LotFields → Bool
missing s e = (code_of e.0 == s.own) && is_absent (get s.at e.0)

abbrev IsGood : State → ℕ → LotFields → Type 0
IsGood s n lot = ((missing s (n, lot) ≡ false) × (here s (n, lot) ≡ false)) × ((differs s (n, lot) ≡ false) × (is_over lot s.today ≡ false))

module _ (s : State) (caller : List ℕ) (x : Import) (n : ℕ) (none : import_refusal s caller x ≡ None) where
  all_good : Fits (IsGood s n) n x.notice.parts
  unfolding import_refusal
  all_good =
      let met = none_fail (import_checks s caller x) none in
      let parts = x.notice.parts in
      let there = nowhere (missing s) n parts (no_number (find (missing s) (numbered parts)) (unfound _ (least_where (missing s) parts) met.1.1.1.1.0)) in
      let away = nowhere (here s) n parts (no_number (find (here s) (numbered parts)) (unfound _ (least_where (here s) parts) met.1.1.1.1.1.0)) in
      let alike = nowhere (differs s) n parts (no_number (find (differs s) (numbered parts)) (unfound _ (least_where (differs s) parts) met.1.1.1.1.1.1.0)) in
      let current = none_over (λ p. is_over p.lot s.today) (λ lot. is_over lot s.today) (λ p h. h) n parts (passes _ _ met.1.1.1.0) in
      both_fit (λ lot. (missing s (n, lot) ≡ false) × (here s (n, lot) ≡ false)) (λ lot. (differs s (n, lot) ≡ false) × (is_over lot s.today ≡ false)) n parts
      (both_fit (λ lot. missing s (n, lot) ≡ false) (λ lot. here s (n, lot) ≡ false) n parts there away)
      (both_fit (λ lot. differs s (n, lot) ≡ false) (λ lot. is_over lot s.today ≡ false) n parts alike current)

  row_of : (after : Known) → names x.notice n ≡ true → Took (IsGood s n) (Held x.notice.account) (get s.at n) after → StaysOr (IsImported s caller x n) (get s.at n) after
  unfolding import_refusal
  row_of after named (inl same) = inl same
  row_of after named (inr (lot, good, now)) =
      let met = none_fail (import_checks s caller x) none in
      let entered = none_fail (entry_checks s caller x) met.0 in
      let alike = or_parts (fails (λ l place. same_lot l lot) (get s.at n)) (is_other_lot lot (get s.lots (key_of lot))) good.1.0 in
      inr (record {
        right = holds _ _ entered.0;
        named = named;
        addressee = eqb-true x.notice.addressee s.own (holds _ _ entered.1.0);
        peer = holds _ _ entered.1.1.0;
        lot = lot;
        away = away_with lot (get s.at n) good.0.1 alike.0;
        own = λ is. second_false (code_of n == s.own) (is_absent (get s.at n)) (eq-eqb (code_of n) s.own is) good.0.0;
        now = now;
        valid = good.1.1;
      })

  unnamed : Took (λ lot. ⊥) (Held x.notice.account) (get s.at n) (taken_one x.notice.parts (Held x.notice.account) n (get s.at n))
      → StaysOr (IsImported s caller x n) (get s.at n) (taken_one x.notice.parts (Held x.notice.account) n (get s.at n))
  unnamed (inl same) = inl same
  unnamed (inr (lot, bad, now)) = absurd bad

  imported_by : (b : Bool) → names x.notice n ≡ b → StaysOr (IsImported s caller x n) (get s.at n) (taken_one x.notice.parts (Held x.notice.account) n (get s.at n))
  imported_by true is = row_of _ is (took_parts (IsGood s n) (Held x.notice.account) (get s.at n) n x.notice.parts (get s.at n) all_good (inl refl))
  imported_by false is = unnamed (took_parts (λ lot. ⊥) (Held x.notice.account) (get s.at n) n x.notice.parts (get s.at n) (none_named n x.notice.parts is) (inl refl))

  pub imported_row : StaysOr (IsImported s caller x n) (get s.at n) (taken_one x.notice.parts (Held x.notice.account) n (get s.at n))
  imported_row = imported_by (names x.notice n) refl
