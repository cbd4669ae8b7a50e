-- Rows of certificates that expire, each put there by an edit of its own.
use Rattle.std.proofs.Common.{◌≡◌, ℕ, List, Bool, true, false, cond, Option, Some, None, refl, ap, sym, ◌∙◌}
use Rattle.std.specs.Prelude.{is_some}
use Rattle.std.specs.List.{filter, list_any}
use Rattle.std.specs.FinMap.{get, keys, contains_key-keys}
use Rattle.std.specs.Cmp.{unsigned_ties}
use Rattle.std.proofs.lemmas.Bool.{true≢false}
use Rattle.goo_types.specs.Day.{CalendarDay}
use Rattle.goo_types.specs.Place.{account_of}
use Rattle.goo_types.specs.declared.lot_fields.LotFields.{LotFields}
use Rattle.goo_types.specs.declared.place.Place.{Place}
use Rattle.goo_types.specs.declared.place.Place.TheVariants.{Held, Cancelled, Expired, Withdrawn, Exported}
use Rattle.goo_types.specs.declared.piece.Piece.{Piece}
use Rattle.goo_types.specs.Piece.{at_of}
use Rattle.goo_spec.specs.Days.{is_over}
use Rattle.goo_spec.specs.Lots.{Certificates, is_held, is_expired}
use Rattle.goo_spec.specs.Maps.{place_each}
use Rattle.goo_spec.specs.Advance.{expires, aged}
use Rattle.goo_spec.proofs.Advancing.{aged_again}
use Rattle.goo_spec.proofs.Placing.{is_one_of, replaced, get-place_each}
use Rattle.goo_ranges.specs.declared.edits.Edit.{Edit}
use Rattle.goo_ranges_rows.specs.Rows.{AreRowsOf}
use Rattle.goo_ranges_rows.specs.Plans.{IsTurned, AreMovesOf}
use Rattle.goo_ranges_rows.proofs.Moves.{placed-rising, placed-at, moved-rows, moved-apart}

-- each certificate of the registry gets the place that its lot and its old place give
pub get-place_each-all : (new : LotFields → Place → Place) → ((lot : LotFields) (place : Place) → new lot (new lot place) ≡ new lot place)
    → (at : Certificates) (n : ℕ) → get (place_each new (keys at) at) n ≡ replaced new (get at n)
get-place_each-all new again at n = get-place_each new again (keys at) at n ∙ known (get at n) refl
  where
    one_of : is_some (get at n) ≡ is_one_of (keys at) n
    one_of = contains_key-keys at n ∙ sym (λ i. list_any (λ m. unsigned_ties n m i) (keys at))

    known : (o : Option (LotFields × Place)) → get at n ≡ o → cond (is_one_of (keys at) n) (replaced new (get at n)) (get at n) ≡ replaced new (get at n)
    known None is = rw is (elim (is_one_of (keys at) n) as (λ b. cond b (replaced new None) None ≡ None) [ true ↦ refl | false ↦ refl ])
    known (Some label) is = let there : is_one_of (keys at) n ≡ true = sym one_of ∙ ap is_some is in rw there refl

unheld : (day : CalendarDay) (lot : LotFields) (place : Place) → is_held place ≡ false → aged day lot place ≡ place
unheld day lot place h = rw h refl

unexpiring : (day : CalendarDay) (lot : LotFields) (place : Place) → expires day lot place ≡ false → aged day lot place ≡ place
unexpiring day lot place h = rw h refl

held-is : (place : Place) → is_held place ≡ true → place ≡ Held (account_of place)
held-is (Held a) h = refl
held-is (Cancelled a k) h = absurd (true≢false (sym h))
held-is (Expired a) h = absurd (true≢false (sym h))
held-is (Withdrawn a k) h = absurd (true≢false (sym h))
held-is (Exported a k) h = absurd (true≢false (sym h))

held-both : (a b : ℕ) (over : Bool) → cond over (Expired a) (Held a) ≡ cond over (Expired b) (Held b) → Held a ≡ Held b
held-both a b true e = ap (λ p. Held (account_of p)) e
held-both a b false e = e

held-other : (a : ℕ) (b : Place) (over : Bool) → is_held b ≡ false → is_expired b ≡ false → cond over (Expired a) (Held a) ≡ b → ⊥
held-other a b true h x e = true≢false (ap is_expired e ∙ x)
held-other a b false h x e = true≢false (ap is_held e ∙ h)

module _ (today day : CalendarDay) (at : Certificates)
    (current : (n : ℕ) (lot : LotFields) (place : Place) → get at n ≡ Some (lot, place) → is_held place ≡ true → is_over lot today ≡ false)
    (expired : (n : ℕ) (lot : LotFields) (place : Place) → get at n ≡ Some (lot, place) → is_expired place ≡ true → is_over lot today ≡ true) where
  unlike : (n m : ℕ) (lot : LotFields) (a b : Place) → get at n ≡ Some (lot, a) → get at m ≡ Some (lot, b) → is_held a ≡ true → is_held b ≡ false → aged day lot a ≡ aged day lot b → ⊥
  unlike n m lot a b at_a at_b held free same =
      let is : a ≡ Held (account_of a) = held-is a held in
      let now : cond (is_over lot day) (Expired (account_of a)) (Held (account_of a)) ≡ b = sym (ap (aged day lot) is) ∙ same ∙ unheld day lot b free in
      elim (is_expired b) as (λ x. is_expired b ≡ x → ⊥) [
        | true ↦ λ x. true≢false (sym (expired m lot b at_b x) ∙ current n lot a at_a held)
        | false ↦ λ x. held-other (account_of a) b (is_over lot day) free x now
      ] refl

  -- two places of one lot stay two
  pub aged-differ : (n m : ℕ) (lot : LotFields) (a b : Place) → get at n ≡ Some (lot, a) → get at m ≡ Some (lot, b) → aged day lot a ≡ aged day lot b → a ≡ b
  aged-differ n m lot a b at_a at_b same =
      elim (is_held a) as (λ x. is_held a ≡ x → a ≡ b) [
        | true ↦ λ x. elim (is_held b) as (λ y. is_held b ≡ y → a ≡ b) [
          | true ↦ λ y.
              let one = held-is a x in
              let two = held-is b y in
              one ∙ held-both (account_of a) (account_of b) (is_over lot day) (sym (ap (aged day lot) one) ∙ same ∙ ap (aged day lot) two) ∙ sym two
          | false ↦ λ y. absurd (unlike n m lot a b at_a at_b x y same)
        ] refl
        | false ↦ λ x. elim (is_held b) as (λ y. is_held b ≡ y → a ≡ b) [
          | true ↦ λ y. absurd (unlike m n lot b a at_b at_a y x (sym same))
          | false ↦ λ y. sym (unheld day lot a x) ∙ same ∙ unheld day lot b y
        ] refl
      ] refl

  -- one edit for each row that expires turns the rows into those of the later day
  pub aged-turned : (rows : List Piece) (es : List Edit) → AreRowsOf at rows → AreMovesOf (aged day) (filter (λ p. expires day p.lot p.place) rows) es
      → IsTurned (place_each (aged day) (keys at) at) rows es
  aged-turned rows es kept are =
      let is = moved-rows (aged day) (λ p. expires day p.lot p.place) (λ p. unexpiring day p.lot p.place) rows es kept.disjoint are in
      record {
        fits = record {
          disjoint = rw is (placed-rising (aged day) 0 rows kept.disjoint);
          same = λ n. ap (λ l. at_of l n) is ∙ placed-at (aged day) rows n ∙ ap (replaced (aged day)) (kept.same n) ∙ sym (get-place_each-all (aged day) (λ lot. aged_again day lot) at n);
        };
        apart = λ a. rw is (moved-apart (aged day) rows kept.disjoint
            (λ n m lot x y here there. aged-differ n m lot x y (sym (kept.same n) ∙ here) (sym (kept.same m) ∙ there)) a);
      }
