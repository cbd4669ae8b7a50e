-- A registry at which no certificate comes or goes.
use Rattle.std.proofs.Common.{◌≡◌, ℕ, true, sym, ap, ◌∙◌, arith}
use Rattle.std.specs.FinMap.{get, contains_key}
use Rattle.goo_spec.specs.State.{State}
use Rattle.goo_spec_one_home.specs.World.{notice_in, kept_notice, World, contains, one, is_known}
use Rattle.goo_spec_one_home.proofs.Effects.{has, IsQuiet}
use Rattle.goo_spec_one_home.proofs.Keeps.{Keeps, OwnBelow, with_state, homes-after, roads-same, known-same, known_alike, given-after, arrived-after, own-after, below-after, lots-after, sent-after, sent_kept-after, kept_sent-after}

module _ (w : World) (c : ℕ) (t : State) (h : Keeps w) (here : contains c w.codes ≡ true) (e : IsQuiet (w.state c) t) where
  kept : (j : ℕ) → kept_notice t j ≡ kept_notice (w.state c) j
  kept j = ap (λ m. notice_in (get m j)) e.sent

  accepts : (a b : ℕ) → has t a b ≡ has (w.state c) a b
  accepts a b = ap (λ m. contains_key m (a, b)) e.arrived

  alike : (n : ℕ) → contains_key t.at n ≡ contains_key (w.state c).at n
  alike n = known_alike (get t.at n) (get (w.state c).at n) (e.lot n)

  below : OwnBelow c t
  below n own high = alike n ∙ h.below c n own (omega (arith, e.serial))

  pub quiet_keeps : Keeps (with_state w c t w.sent)
  quiet_keeps = record {
    distinct = h.distinct;
    own = own-after w c t h e.own;
    sum = λ n.
        omega
        (arith, h.sum n, ap one (e.home n), homes-after w c t w.sent n h.distinct here, roads-same w.codes w.state c t n w.sent accepts, ap one (known-same w c t w.sent n (λ own. alike n)));
    named = h.named;
    given = given-after w.state c t (omega (arith, e.notice)) w.sent h.given;
    arrived = arrived-after w c t h (omega (arith, e.notice)) (λ a b is. h.arrived c a b (sym (accepts a b) ∙ is));
    below = below-after w c t h below;
    lots = lots-after w c t h (λ n lot own is. e.lot n ∙ is) (λ n lot other is. h.lots c n lot (sym (e.lot n) ∙ is));
    sent_kept = sent_kept-after w c t h (λ j lt. kept j) w.sent h.given h.sent_kept;
    kept_sent = kept_sent-after w c t w.sent (λ j x is. h.kept_sent c j x (sym (kept j) ∙ is)) h.kept_sent;
    lots_sent = λ n. sent-after w c t h (λ n lot own is. e.lot n ∙ is) n w.sent (h.lots_sent n);
  }

  pub quiet_known : (n : ℕ) → is_known (with_state w c t w.sent) n ≡ is_known w n
  quiet_known n = known-same w c t w.sent n (λ own. alike n)
