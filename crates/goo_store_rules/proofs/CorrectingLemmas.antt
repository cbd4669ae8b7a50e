-- Corrections by what they are of, as one more is taken in.
use Rattle.std.proofs.Common.{◌≡◌, ◌<◌, ◌+◌, ℕ, Bool, true, false, cond, ◌&&◌, ◌==◌, List, [], ◌∷◌, ◌++◌, take, length, get_or, Some, None, refl, sym, ap, ◌∙◌, arith}
use Rattle.std.specs.Str.{bytes_eq}
use Rattle.std.specs.List.{list_any}
use Rattle.std.specs.BTreeMap.{BTreeMap, get}
use Rattle.std.specs.Ordering.{eq_by_cmp, nat_cmp}
use Rattle.std.specs.Cmp.{IsTotalOrder, eq_by_cmp_equiv, unsigned_tied, then_total, on_total, nat_cmp_total}
use Rattle.std.specs.Cmp.Lexicographic.{nat_list_cmp_total, texts_ties}
use Rattle.std.proofs.lemmas.List.{take_more}
use Rattle.std.proofs.lemmas.Bool.{and_parts}
use Rattle.std.proofs.Math.Bool.{and-false}
use Rattle.std.proofs.lemmas.Slice.Eq.{bytes_eq-Decides}
use Rattle.goo_types.specs.Day.{CalendarDay}
use Rattle.goo_types.proofs.LotLemmas.{Decides-same_day}
use Rattle.goo_spec.specs.Energy.{withdrew}
use Rattle.goo_spec.specs.Lots.{same_day}
use Rattle.goo_spec.specs.State.{Correction, text_cmp}
use Rattle.goo_store_rules.specs.Summing.{amount}
use Rattle.goo_store_rules.specs.Correcting.{device_act_cmp, day_cmp, period_cmp, is_period, taken_at}
use Rattle.goo_store_rules.proofs.Keying.{any-push}
use Rattle.goo_store_rules.proofs.LotsDeclared.{both_equal}

-- ---- withdrawals

device_act_test : (d e : List ℕ) (a b : ℕ) → eq_by_cmp device_act_cmp (d, a) (e, b) ≡ bytes_eq d e && (a == b)
device_act_test d e a b = both_equal (text_cmp d e) (nat_cmp a b) ∙ (λ i. sym (texts_ties d e) i && unsigned_tied a b i)

-- one correction more
module _ (cs : List Correction) (i : ℕ) (c : Correction) (low : i < length cs) (at : c ≡ get_or cs i c) (device : List ℕ) (act : ℕ) where
  one_more : list_any (withdrew device act) (take (i + 1) cs) ≡ cond (withdrew device act c) true (list_any (withdrew device act) (take i cs))
  one_more = ap (list_any (withdrew device act)) (take_more cs i c low ∙ ap (λ z. take i cs ++ z ∷ []) (sym at)) ∙ any-push (withdrew device act) (take i cs) c

  pub made_one : (old new : Bool) (made : ℕ) → c.withdrawal ≡ Some made → old ≡ list_any (withdrew device act) (take i cs) → new ≡ cond (eq_by_cmp device_act_cmp (c.device, made) (device, act)) true old
      → new ≡ list_any (withdrew device act) (take (i + 1) cs)
  made_one old new made is before put =
      put ∙ (λ k. cond (device_act_test c.device device made act k) true (before k))
      ∙ ap (λ w. cond (withdrew device act (record { device = c.device; first_day = c.first_day; less = c.less; withdrawal = w })) true (list_any (withdrew device act) (take i cs))) (sym is)
      ∙ sym one_more

  pub made_none : (old : Bool) → c.withdrawal ≡ None → old ≡ list_any (withdrew device act) (take i cs) → old ≡ list_any (withdrew device act) (take (i + 1) cs)
  made_none old is before =
      before ∙ ap (λ b. cond b true (list_any (withdrew device act) (take i cs))) (sym (and-false (bytes_eq c.device device)))
      ∙ ap (λ w. cond (withdrew device act (record { device = c.device; first_day = c.first_day; less = c.less; withdrawal = w })) true (list_any (withdrew device act) (take i cs))) (sym is)
      ∙ sym one_more

-- ---- periods

day_total : IsTotalOrder day_cmp
day_total = then_total (on_total (λ (d : CalendarDay). d.year) nat_cmp_total) (then_total (on_total (λ (d : CalendarDay). d.month) nat_cmp_total) (on_total (λ (d : CalendarDay). d.day) nat_cmp_total))

period_total : IsTotalOrder period_cmp
period_total = then_total (on_total (λ (p : List ℕ × CalendarDay). p.0) nat_list_cmp_total) (on_total (λ (p : List ℕ × CalendarDay). p.1) day_total)

day_test : (a b : CalendarDay) → eq_by_cmp day_cmp a b ≡ same_day a b
day_test a b =
    both_equal (nat_cmp a.year b.year) _
    ∙ (λ i. unsigned_tied a.year b.year i && (both_equal (nat_cmp a.month b.month) (nat_cmp a.day b.day) ∙ (λ k. unsigned_tied a.month b.month k && unsigned_tied a.day b.day k)) i)

period_test : (d e : List ℕ) (a b : CalendarDay) → eq_by_cmp period_cmp (d, a) (e, b) ≡ bytes_eq d e && same_day a b
period_test d e a b = both_equal (text_cmp d e) (day_cmp a b) ∙ (λ i. sym (texts_ties d e) i && day_test a b i)

module _ (m : BTreeMap (List ℕ × CalendarDay) ℕ) (device : List ℕ) (first_day : CalendarDay) (sum more : ℕ) (adds : sum ≡ taken_at m device first_day + more) (d : List ℕ) (first : CalendarDay) where
  by_test : (b : Bool) → (b ≡ true → (d ≡ device) × (first ≡ first_day)) → amount (cond b (Some sum) (get period_cmp m (d, first))) ≡ taken_at m d first + cond b more 0
  by_test true is = let same = is refl in adds ∙ (λ i. taken_at m (sym same.0 i) (sym same.1 i) + more)
  by_test false is = omega arith

  same_period : is_period device first_day d first ≡ true → (d ≡ device) × (first ≡ first_day)
  same_period is = let both = and_parts (bytes_eq d device) (same_day first first_day) is in ((bytes_eq-Decides d device).0 both.0, (Decides-same_day first first_day).0 both.1)

  -- what is put under a period is taken off it alone
  pub taken_more : (n : BTreeMap (List ℕ × CalendarDay) ℕ) → get period_cmp n (d, first) ≡ cond (eq_by_cmp period_cmp (device, first_day) (d, first)) (Some sum) (get period_cmp m (d, first))
      → taken_at n d first ≡ taken_at m d first + cond (is_period device first_day d first) more 0
  taken_more n put =
      ap amount put
      ∙ ap (λ b. amount (cond b (Some sum) (get period_cmp m (d, first)))) ((eq_by_cmp_equiv period_total).symm (device, first_day) (d, first) ∙ period_test d device first first_day)
      ∙ by_test (is_period device first_day d first) same_period
