-- Periods of devices, as one more declaration is taken in.
use Rattle.std.proofs.Common.{◌≡◌, ◌<◌, ◌+◌, ℕ, Bool, true, false, cond, ◌&&◌, not, List, [], ◌∷◌, ◌++◌, take, drop, length, get_or, Option, Some, None, refl, sym, ap, ◌∙◌, true≢false}
use Rattle.std.specs.Str.{bytes_eq}
use Rattle.std.specs.BTreeMap.{BTreeMap, get}
use Rattle.std.specs.Ordering.{eq_by_cmp}
use Rattle.std.specs.Cmp.Lexicographic.{texts_ties}
use Rattle.std.proofs.lemmas.List.{append-nil, take-append-drop, drop_more}
use Rattle.std.proofs.lemmas.List.Elements.{filter-append, filter_more}
use Rattle.std.proofs.lemmas.Slice.Eq.{bytes_eq-Decides}
use Rattle.goo_types.specs.Day.{CalendarDay}
use Rattle.goo_types.specs.declared.command.Declare.{Declare}
use Rattle.goo_spec.specs.Days.{is_before}
use Rattle.goo_spec.specs.Declare.{declared_by, last_end, begins_too_early}
use Rattle.goo_spec.specs.Sound.{do_rise}
use Rattle.goo_spec.specs.State.{text_cmp}
use Rattle.goo_store_rules.specs.Production.{follows, DoPeriodsRise}

-- ---- a list of periods

last_end-push : (before : Option CalendarDay) (xs : List Declare) (x : Declare) → last_end before (xs ++ x ∷ []) ≡ Some x.last_day
last_end-push before [] x = refl
last_end-push before (y ∷ ys) x = last_end-push (Some y.last_day) ys x

alone : (a b : Bool) → a && b ≡ true → a && (b && true) ≡ true
alone true true is = refl
alone true false is = is
alone false b is = is

behind : (a b c d : Bool) → (c ≡ true → d ≡ true) → a && (b && c) ≡ true → a && (b && d) ≡ true
behind true true c d go is = go is
behind true false c d go is = is
behind false b c d go is = is

rest_of : (a b c : Bool) → a && (b && c) ≡ true → c ≡ true
rest_of true true c is = is
rest_of true false c is = absurd (true≢false (sym is))
rest_of false b c is = absurd (true≢false (sym is))

first_of : (a b c : Bool) → a && (b && c) ≡ true → a && b ≡ true
first_of true true c is = refl
first_of true false c is = is
first_of false b c is = is

rise-push : (before : Option CalendarDay) (xs : List Declare) (x : Declare) → do_rise before xs ≡ true → follows (last_end before xs) x ≡ true → do_rise before (xs ++ x ∷ []) ≡ true
rise-push before [] x rises is = alone (not (begins_too_early before x.first_day)) (not (is_before x.last_day x.first_day)) is
rise-push before (y ∷ ys) x rises is =
    behind (not (begins_too_early before y.first_day)) (not (is_before y.last_day y.first_day)) (do_rise (Some y.last_day) ys) (do_rise (Some y.last_day) (ys ++ x ∷ []))
    (λ up. rise-push (Some y.last_day) ys x up is) rises

rise-at : (before : Option CalendarDay) (xs : List Declare) (x : Declare) (ys : List Declare) → do_rise before (xs ++ x ∷ ys) ≡ true → follows (last_end before xs) x ≡ true
rise-at before [] x ys rises = first_of (not (begins_too_early before x.first_day)) (not (is_before x.last_day x.first_day)) (do_rise (Some x.last_day) ys) rises
rise-at before (z ∷ xs) x ys rises =
    rise-at (Some z.last_day) xs x ys (rest_of (not (begins_too_early before z.first_day)) (not (is_before z.last_day z.first_day)) (do_rise (Some z.last_day) (xs ++ x ∷ ys)) rises)

same_text : (a b : List ℕ) → bytes_eq a b ≡ true → b ≡ a
same_text a b is = sym ((bytes_eq-Decides a b).0 is)

-- ---- the place of a list that a loop is at

module _ (xs : List Declare) (i : ℕ) (x : Declare) (low : i < length xs) (at : x ≡ get_or xs i x) where
  one_more : (q : List ℕ) → declared_by q (take (i + 1) xs) ≡ declared_by q (take i xs) ++ cond (bytes_eq x.device q) (x ∷ []) []
  one_more q = filter_more (λ y. bytes_eq y.device q) xs i x low ∙ ap (λ z. declared_by q (take i xs) ++ cond (bytes_eq z.device q) (z ∷ []) []) (sym at)

  all : xs ≡ take i xs ++ x ∷ drop (i + 1) xs
  all = sym (take-append-drop i xs) ∙ ap (λ ys. take i xs ++ ys) (drop_more xs i x low ∙ ap (λ z. z ∷ drop (i + 1) xs) (sym at))

  module _ (m : BTreeMap (List ℕ) CalendarDay) (ends : (q : List ℕ) → get text_cmp m q ≡ last_end None (declared_by q (take i xs))) where
    ended : (q : List ℕ) (b : Bool) → cond b (Some x.last_day) (get text_cmp m q) ≡ last_end None (declared_by q (take i xs) ++ cond b (x ∷ []) [])
    ended q true = sym (last_end-push None (declared_by q (take i xs)) x)
    ended q false = ends q ∙ ap (last_end None) (sym (append-nil (declared_by q (take i xs))))

    -- the end of the device's last period is put under the device
    pub ends_kept : (n : BTreeMap (List ℕ) CalendarDay) → ((q : List ℕ) → get text_cmp n q ≡ cond (eq_by_cmp text_cmp x.device q) (Some x.last_day) (get text_cmp m q))
        → (q : List ℕ) → get text_cmp n q ≡ last_end None (declared_by q (take (i + 1) xs))
    ends_kept n put q =
        put q ∙ ap (λ b. cond b (Some x.last_day) (get text_cmp m q)) (sym (texts_ties x.device q)) ∙ ended q (bytes_eq x.device q) ∙ ap (last_end None) (sym (one_more q))

    module _ (before : Option CalendarDay) (is : before ≡ get text_cmp m x.device) where
      before_it : (q : List ℕ) → q ≡ x.device → before ≡ last_end None (declared_by q (take i xs))
      before_it q same = is ∙ ends x.device ∙ ap (λ d. last_end None (declared_by d (take i xs))) (sym same)

      -- a period that follows the last one of its device
      pub rise_kept : follows before x ≡ true → DoPeriodsRise (take i xs) → DoPeriodsRise (take (i + 1) xs)
      rise_kept next rise q = ap (do_rise None) (one_more q) ∙ by (bytes_eq x.device q) refl
        where
          by : (b : Bool) → bytes_eq x.device q ≡ b → do_rise None (declared_by q (take i xs) ++ cond b (x ∷ []) []) ≡ true
          by true same = rise-push None (declared_by q (take i xs)) x (rise q) (ap (λ o. follows o x) (sym (before_it q (same_text x.device q same))) ∙ next)
          by false same = ap (do_rise None) (append-nil (declared_by q (take i xs))) ∙ rise q

      own : declared_by x.device xs ≡ declared_by x.device (take i xs) ++ x ∷ declared_by x.device (drop (i + 1) xs)
      own =
          ap (declared_by x.device) all ∙ filter-append (λ y. bytes_eq y.device x.device) (take i xs) (x ∷ drop (i + 1) xs)
          ∙ ap (λ b. declared_by x.device (take i xs) ++ cond b (x ∷ declared_by x.device (drop (i + 1) xs)) (declared_by x.device (drop (i + 1) xs))) (itself x.device)
        where
          itself : (q : List ℕ) → bytes_eq q q ≡ true
          itself q = (bytes_eq-Decides q q).1 refl

      -- one that doesn't
      pub never_rise : follows before x ≡ false → DoPeriodsRise xs → ⊥
      never_rise late rise =
          true≢false (sym (rise-at None (declared_by x.device (take i xs)) x (declared_by x.device (drop (i + 1) xs)) (sym (ap (do_rise None) own) ∙ rise x.device)) ∙ ap (λ o. follows o x) (sym (before_it x.device refl)) ∙ late)
