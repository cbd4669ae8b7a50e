-- A registry that takes in certificates.
use Rattle.std.proofs.Common.{◌≡◌, ℕ, ◌+◌, ◌<◌, ◌==◌, ◌||◌, Bool, true, false, Some, refl, sym, ap, subst, ◌∙◌, arith}
use Rattle.std.specs.FinMap.{get, contains_key}
use Rattle.std.proofs.lemmas.Bool.{eqb-true, and_parts}
use Rattle.goo_types.specs.Number.{code_of}
use Rattle.goo_types.specs.Notice.{NoticeContents}
use Rattle.goo_types.specs.declared.lot_fields.LotFields.{LotFields}
use Rattle.goo_spec.specs.State.{State}
use Rattle.goo_spec.specs.Import.{names}
use Rattle.goo_spec_one_home.specs.World.{notice_in, kept_notice, World, is_home, nth, contains, one, is_known, lot_of}
use Rattle.goo_spec_one_home.proofs.Effects.{has, is_called, IsTake}
use Rattle.goo_spec_one_home.proofs.Keeps.{Keeps, with_state, homes-after, known-same, known_alike, given-after, arrived-after, own-after, below-after, lots-after, sent-after, sent_kept-after, kept_sent-after}
use Rattle.goo_spec_one_home.proofs.Roads.{road-falls, given_at, lot_at}

module _ (w : World) (c k : ℕ) (t : State) (m : NoticeContents) (h : Keeps w) (here : contains c w.codes ≡ true) (sent : nth w.sent k ≡ Some m) (e : IsTake (w.state c) t m) where
  kept : (j : ℕ) → kept_notice t j ≡ kept_notice (w.state c) j
  kept j = ap (λ m. notice_in (get m j)) e.sent

  to_here : m.addressee ≡ c
  to_here = e.addressee ∙ h.own c

  take_home : (n : ℕ) (b : Bool) → names m n ≡ b → one (is_home (get t.at n)) ≡ one (is_home (get (w.state c).at n)) + one b
  take_home n true is =
      let after : one (is_home (get t.at n)) ≡ 1 = ap one (e.came n is) in
      let before : one (is_home (get (w.state c).at n)) ≡ 0 = ap one (e.away n is) in
      omega arith
  take_home n false is = let same : one (is_home (get t.at n)) ≡ one (is_home (get (w.state c).at n)) = ap (λ o. one (is_home o)) (e.other n is) in omega arith

  -- a number named gets the lot that the registry of its code has
  issued_lot : (n : ℕ) → names m n ≡ true → lot_of (get t.at n) ≡ lot_of (get (w.state (code_of n)).at n)
  issued_lot n is = e.lot n _ is (lot_at w.state n m w.sent k sent (h.lots_sent n))

  own_lot : (n : ℕ) (b : Bool) → names m n ≡ b → code_of n ≡ c → lot_of (get t.at n) ≡ lot_of (get (w.state c).at n)
  own_lot n true is own = issued_lot n is ∙ ap (λ d. lot_of (get (w.state d).at n)) own
  own_lot n false is own = ap lot_of (e.other n is)

  alike : (n : ℕ) → code_of n ≡ c → contains_key t.at n ≡ contains_key (w.state c).at n
  alike n own = known_alike (get t.at n) (get (w.state c).at n) (own_lot n _ refl own)

  accepted_number : (a b : ℕ) (called : Bool) → is_called m a b ≡ called → (called || has (w.state c) a b) ≡ true → b < (w.state a).next_notice
  accepted_number a b true is any =
      let parts = and_parts (a == m.sender) (b == m.number) is in
      let sender_is = eqb-true a m.sender parts.0 in
      let number_is = eqb-true b m.number parts.1 in
      let below = given_at w.state m w.sent k sent h.given in
      subst (λ (d : ℕ). b < (w.state d).next_notice) (sym sender_is) (omega arith)
  accepted_number a b false is any = h.arrived c a b any

  mine_by : (n : ℕ) (lot : LotFields) (b : Bool) → names m n ≡ b → lot_of (get t.at n) ≡ Some lot → lot_of (get (w.state (code_of n)).at n) ≡ Some lot
  mine_by n lot true is got = sym (issued_lot n is) ∙ got
  mine_by n lot false is got = h.lots c n lot (sym (ap lot_of (e.other n is)) ∙ got)

  grow : (n : ℕ) (lot : LotFields) → code_of n ≡ c → lot_of (get (w.state c).at n) ≡ Some lot → lot_of (get t.at n) ≡ Some lot
  grow n lot own is = own_lot n _ refl own ∙ is

  pub take_keeps : Keeps (with_state w c t w.sent)
  take_keeps = record {
    distinct = h.distinct;
    own = own-after w c t h e.own;
    sum = λ n.
        omega (
          arith,
          h.sum n,
          take_home n _ refl,
          homes-after w c t w.sent n h.distinct here,
          ap one (known-same w c t w.sent n (alike n)),
          road-falls w.codes w.state c t m n e.arrived to_here here w.sent k e.new sent h.named,
        );
    named = h.named;
    given = given-after w.state c t (omega (arith, e.notice)) w.sent h.given;
    arrived = arrived-after w c t h (omega (arith, e.notice)) (λ a b any. accepted_number a b _ refl (sym (e.arrived a b) ∙ any));
    below = below-after w c t h (λ n own high. alike n own ∙ h.below c n own (omega (arith, e.serial)));
    lots = lots-after w c t h grow (λ n lot other is. mine_by n lot _ refl is);
    sent_kept = sent_kept-after w c t h (λ j lt. kept j) w.sent h.given h.sent_kept;
    kept_sent = kept_sent-after w c t w.sent (λ j x is. h.kept_sent c j x (sym (kept j) ∙ is)) h.kept_sent;
    lots_sent = λ n. sent-after w c t h grow n w.sent (h.lots_sent n);
  }

  pub take_known : (n : ℕ) → is_known (with_state w c t w.sent) n ≡ is_known w n
  take_known n = known-same w c t w.sent n (alike n)
