-- A registry that sends certificates away.
use Rattle.std.proofs.Common.{◌≡◌, ℕ, zero, suc, cond, ◌+◌, ◌<◌, ◌==◌, ◌&&◌, not, List, [], ◌∷◌, Bool, true, false, Some, refl, sym, ap, subst, ◌∙◌, arith}
use Rattle.std.specs.FinMap.{get, contains_key}
use Rattle.std.proofs.lemmas.Bool.{eqb-true, ne_eqb, eq-eqb, and_right}
use Rattle.goo_types.specs.Number.{code_of}
use Rattle.goo_types.specs.Notice.{NoticeContents}
use Rattle.goo_types.specs.declared.lot_fields.LotFields.{LotFields}
use Rattle.goo_spec.specs.State.{State}
use Rattle.goo_spec.specs.Import.{names}
use Rattle.goo_spec_one_home.specs.World.{nth, kept_notice, World, is_home, contains, put, one, is_under_way, is_known, lot_of}
use Rattle.goo_spec_one_home.proofs.Counts.{put-here}
use Rattle.goo_spec_one_home.proofs.Effects.{has, IsSend}
use Rattle.goo_spec_one_home.proofs.Keeps.{Keeps, IsNew, AreGiven, OwnBelow, with_state, homes-after, under_way-same, roads-same, known-same, known_alike, given-after, arrived-after, own-after, below-after, lots-after, sent-after, sent_kept-after, kept_sent-after, have_lot, issuer-after}
use Rattle.goo_spec_one_home.proofs.Roads.{still}

module _ (w : World) (c : ℕ) (t : State) (m : NoticeContents) (h : Keeps w) (here : contains c w.codes ≡ true) (e : IsSend (w.state c) t m) where
  accepts : (a b : ℕ) → has t a b ≡ has (w.state c) a b
  accepts a b = ap (λ m. contains_key m (a, b)) e.arrived

  alike : (n : ℕ) → contains_key t.at n ≡ contains_key (w.state c).at n
  alike n = known_alike (get t.at n) (get (w.state c).at n) (e.lot n)

  sender : m.sender ≡ c
  sender = e.sender ∙ h.own c

  send_home : (n : ℕ) (b : Bool) → names m n ≡ b → one (is_home (get t.at n)) + one b ≡ one (is_home (get (w.state c).at n))
  send_home n true is =
      let after : one (is_home (get t.at n)) ≡ 0 = ap one (e.gone n is) in
      let before : one (is_home (get (w.state c).at n)) ≡ 1 = ap one (e.was n is) in
      omega arith
  send_home n false is = let same : one (is_home (get t.at n)) ≡ one (is_home (get (w.state c).at n)) = ap one (e.other n is) in omega arith

  -- nobody has accepted a notice of that number
  not_yet : (q : ℕ) (b : Bool) → has (w.state q) m.sender m.number ≡ b → b ≡ false
  not_yet q true is =
      let given : m.number < (w.state m.sender).next_notice = h.arrived q m.sender m.number is in
      let mine : m.number < (w.state c).next_notice = subst (λ (d : ℕ). m.number < (w.state d).next_notice) sender given in
      absurd (omega (arith, e.number))
  not_yet q false is = refl

  under_way : (n : ℕ) → is_under_way w.codes (put w.state c t) n m ≡ names m n
  under_way n =
      under_way-same w.codes w.state c t n m (accepts m.sender m.number)
      ∙ ap (λ b. names m n && not b) (and_right (contains m.addressee w.codes) _ (not_yet m.addressee _ refl))
      ∙ still (names m n)

  other_number : (x : NoticeContents) (b : Bool) → (x.sender == m.sender) ≡ b → x.number < (w.state x.sender).next_notice → (b && (x.number == m.number)) ≡ false
  other_number x true is given =
      let same = eqb-true x.sender m.sender is ∙ sender in
      let below : x.number < (w.state c).next_notice = subst (λ (d : ℕ). x.number < (w.state d).next_notice) same given in
      ne_eqb x.number m.number (λ same_number. omega (arith, e.number))
  other_number x false is given = refl

  named_new : (sent : List NoticeContents) → AreGiven w.state sent → IsNew m sent
  named_new [] given = tt
  named_new (x ∷ xs) given = (other_number x _ refl given.0, named_new xs given.1)

  given_new : m.number < (put w.state c t m.sender).next_notice
  given_new =
      let there : put w.state c t m.sender ≡ t = ap (put w.state c t) sender ∙ put-here w.state c t in
      subst (λ (r : State). m.number < r.next_notice) (sym there) (omega (arith, e.number, e.notice))

  below : OwnBelow c t
  below n own high = alike n ∙ h.below c n own (omega (arith, e.serial))

  lot_known : (n : ℕ) (lot : LotFields) → lot_of (get (w.state c).at n) ≡ Some lot → lot_of (get (put w.state c t (code_of n)).at n) ≡ Some lot
  lot_known n lot is = issuer-after w c t h (λ n lot own is. e.lot n ∙ is) n lot (h.lots c n lot is)

  further : (x : NoticeContents) → (i : ℕ) × (nth w.sent i ≡ Some x) → (i : ℕ) × (nth (m ∷ w.sent) i ≡ Some x)
  further x found = (suc found.0, found.1)

  mine_by : (j : ℕ) (x : NoticeContents) (b : Bool) → cond b (Some m) (kept_notice (w.state c) j) ≡ Some x → (i : ℕ) × (nth (m ∷ w.sent) i ≡ Some x)
  mine_by j x true is = (zero, is)
  mine_by j x false is = further x (h.kept_sent c j x is)

  older : (j : ℕ) → j < (w.state c).next_notice → kept_notice t j ≡ kept_notice (w.state c) j
  older j lt = e.sent j ∙ ap (λ b. cond b (Some m) (kept_notice (w.state c) j)) (ne_eqb j (w.state c).next_notice (λ same. omega arith))

  kept_new : kept_notice (put w.state c t m.sender) m.number ≡ Some m
  kept_new =
      let there : put w.state c t m.sender ≡ t = ap (put w.state c t) sender ∙ put-here w.state c t in
      ap (λ (r : State). kept_notice r m.number) there
      ∙ e.sent m.number
      ∙ ap (λ b. cond b (Some m) (kept_notice (w.state c) m.number)) (eq-eqb m.number (w.state c).next_notice e.number)

  pub send_keeps : Keeps (with_state w c t (m ∷ w.sent))
  send_keeps = record {
    distinct = h.distinct;
    own = own-after w c t h e.own;
    sum = λ n.
        omega (
          arith,
          h.sum n,
          send_home n _ refl,
          ap one (under_way n),
          homes-after w c t (m ∷ w.sent) n h.distinct here,
          roads-same w.codes w.state c t n w.sent accepts,
          ap one (known-same w c t (m ∷ w.sent) n (λ own. alike n)),
        );
    named = (named_new w.sent h.given, h.named);
    given = (given_new, given-after w.state c t (omega (arith, e.notice)) w.sent h.given);
    arrived = arrived-after w c t h (omega (arith, e.notice)) (λ a b is. h.arrived c a b (sym (accepts a b) ∙ is));
    below = below-after w c t h below;
    lots = lots-after w c t h (λ n lot own is. e.lot n ∙ is) (λ n lot other is. h.lots c n lot (sym (e.lot n) ∙ is));
    sent_kept = (kept_new, sent_kept-after w c t h older w.sent h.given h.sent_kept);
    kept_sent = kept_sent-after w c t (m ∷ w.sent) (λ j x is. mine_by j x (j == (w.state c).next_notice) (sym (e.sent j) ∙ is)) (λ d j x is. further x (h.kept_sent d j x is));
    lots_sent = λ n. (have_lot w c t h (λ n lot own is. e.lot n ∙ is) n _ _ (lot_known n) m.parts (e.lots n), sent-after w c t h (λ n lot own is. e.lot n ∙ is) n w.sent (h.lots_sent n));
  }

  pub send_known : (n : ℕ) → is_known (with_state w c t (m ∷ w.sent)) n ≡ is_known w n
  send_known n = known-same w c t (m ∷ w.sent) n (λ own. alike n)
