-- A registry that issues certificates.
use Rattle.std.proofs.Common.{◌≡◌, ℕ, ◌+◌, ◌≤◌, ◌==◌, ◌||◌, Bool, true, false, Option, Some, None, refl, sym, ap, ◌∙◌, arith}
use Rattle.std.specs.Prelude.{is_some}
use Rattle.std.specs.FinMap.{get, contains_key}
use Rattle.std.proofs.lemmas.Bool.{true≢false, eq-eqb, and_from, and_right}
use Rattle.goo_types.specs.Number.{code_of, serial_of}
use Rattle.goo_types.specs.declared.lot_fields.LotFields.{LotFields}
use Rattle.goo_types.specs.declared.place.Place.{Place}
use Rattle.goo_spec.specs.State.{State}
use Rattle.goo_spec_one_home.specs.World.{notice_in, kept_notice, World, is_home, contains, put, one, is_known, lot_of}
use Rattle.goo_spec_one_home.proofs.Counts.{put-here}
use Rattle.goo_spec_one_home.proofs.Effects.{has, IsIssue}
use Rattle.goo_spec_one_home.proofs.Keeps.{Keeps, with_state, homes-after, roads-same, known-same, is_some-lot_of, given-after, arrived-after, own-after, below-after, lots-after, sent-after, sent_kept-after, kept_sent-after}

-- what is at home is known
known_at_home : (o : Option (LotFields × Place)) → is_home o ≡ true → is_some o ≡ true
known_at_home None is = absurd cc
known_at_home (Some known) is = refl

not_home : (o : Option (LotFields × Place)) → is_some o ≡ false → is_home o ≡ false
not_home None is = refl
not_home (Some known) is = absurd cc

no_lot : (o : Option (LotFields × Place)) (lot : LotFields) → is_some o ≡ false → lot_of o ≡ Some lot → ⊥
no_lot o lot none is = true≢false (sym (ap is_some is) ∙ is_some-lot_of o ∙ none)

module _ (w : World) (c : ℕ) (t : State) (new : ℕ → Bool) (h : Keeps w) (here : contains c w.codes ≡ true) (e : IsIssue (w.state c) t new) where
  kept : (j : ℕ) → kept_notice t j ≡ kept_notice (w.state c) j
  kept j = ap (λ m. notice_in (get m j)) e.sent

  accepts : (a b : ℕ) → has t a b ≡ has (w.state c) a b
  accepts a b = ap (λ m. contains_key m (a, b)) e.arrived

  own_code : (n : ℕ) → new n ≡ true → code_of n ≡ c
  own_code n is = e.code n is ∙ h.own c

  unknown : (n : ℕ) → new n ≡ true → contains_key (w.state c).at n ≡ false
  unknown n is = h.below c n (own_code n is) (e.low n is)

  sum_new : (n : ℕ) (b : Bool) → new n ≡ b → one (is_home (get t.at n)) + one (is_known w n) ≡ one (is_home (get (w.state c).at n)) + one (is_known (with_state w c t w.sent) n)
  sum_new n true is =
      let after : one (is_home (get t.at n)) ≡ 1 = ap one (e.home n is) in
      let before : one (is_home (get (w.state c).at n)) ≡ 0 = ap one (not_home (get (w.state c).at n) (unknown n is)) in
      let not_known : one (is_known w n) ≡ 0 = ap one (and_right _ _ (ap (λ d. contains_key (w.state d).at n) (own_code n is) ∙ unknown n is)) in
      let there : put w.state c t (code_of n) ≡ t = ap (put w.state c t) (own_code n is) ∙ put-here w.state c t in
      let known : one (is_known (with_state w c t w.sent) n) ≡ 1 =
      ap one (and_from _ _ (ap (λ d. contains d w.codes) (own_code n is) ∙ here) (ap (λ (r : State). contains_key r.at n) there ∙ known_at_home (get t.at n) (e.home n is))) in
      omega arith
  sum_new n false is =
      let same : one (is_home (get t.at n)) ≡ one (is_home (get (w.state c).at n)) = ap (λ o. one (is_home o)) (e.other n is) in
      let known : one (is_known (with_state w c t w.sent) n) ≡ one (is_known w n) = ap one (known-same w c t w.sent n (λ own. ap is_some (e.other n is))) in
      omega arith

  below_by : (n : ℕ) (b : Bool) → new n ≡ b → code_of n ≡ c → t.next_serial ≤ serial_of n → contains_key t.at n ≡ false
  below_by n true is own high = absurd (omega (arith, e.high n is))
  below_by n false is own high = ap is_some (e.other n is) ∙ h.below c n own (omega (arith, e.serial))

  grow_by : (n : ℕ) (lot : LotFields) (b : Bool) → new n ≡ b → lot_of (get (w.state c).at n) ≡ Some lot → lot_of (get t.at n) ≡ Some lot
  grow_by n lot true is got = absurd (no_lot (get (w.state c).at n) lot (unknown n is) got)
  grow_by n lot false is got = ap lot_of (e.other n is) ∙ got

  mine_by : (n : ℕ) (lot : LotFields) (b : Bool) → new n ≡ b → (code_of n == c) ≡ false → lot_of (get t.at n) ≡ Some lot → lot_of (get (w.state (code_of n)).at n) ≡ Some lot
  mine_by n lot true is other got = absurd (true≢false (sym (eq-eqb (code_of n) c (own_code n is)) ∙ other))
  mine_by n lot false is other got = h.lots c n lot (sym (ap lot_of (e.other n is)) ∙ got)

  pub issue_keeps : Keeps (with_state w c t w.sent)
  issue_keeps = record {
    distinct = h.distinct;
    own = own-after w c t h e.own;
    sum = λ n. omega (arith, h.sum n, sum_new n _ refl, homes-after w c t w.sent n h.distinct here, roads-same w.codes w.state c t n w.sent accepts);
    named = h.named;
    given = given-after w.state c t (omega (arith, e.notice)) w.sent h.given;
    arrived = arrived-after w c t h (omega (arith, e.notice)) (λ a b is. h.arrived c a b (sym (accepts a b) ∙ is));
    below = below-after w c t h (λ n own high. below_by n _ refl own high);
    lots = lots-after w c t h (λ n lot own is. grow_by n lot _ refl is) (λ n lot other is. mine_by n lot _ refl other is);
    sent_kept = sent_kept-after w c t h (λ j lt. kept j) w.sent h.given h.sent_kept;
    kept_sent = kept_sent-after w c t w.sent (λ j x is. h.kept_sent c j x (sym (kept j) ∙ is)) h.kept_sent;
    lots_sent = λ n. sent-after w c t h (λ n lot own is. grow_by n lot _ refl is) n w.sent (h.lots_sent n);
  }

  issued_by : (n : ℕ) (b : Bool) → new n ≡ b → is_known (with_state w c t w.sent) n ≡ (b || is_known w n)
  issued_by n true is =
      let there : put w.state c t (code_of n) ≡ t = ap (put w.state c t) (own_code n is) ∙ put-here w.state c t in
      and_from _ _ (ap (λ d. contains d w.codes) (own_code n is) ∙ here) (ap (λ (r : State). contains_key r.at n) there ∙ known_at_home (get t.at n) (e.home n is))
  issued_by n false is = known-same w c t w.sent n (λ own. ap is_some (e.other n is))

  -- the registry of the code knows the new ones, and those that it knew
  pub issue_known : (n : ℕ) → is_known (with_state w c t w.sent) n ≡ (new n || is_known w n)
  issue_known n = issued_by n (new n) refl
