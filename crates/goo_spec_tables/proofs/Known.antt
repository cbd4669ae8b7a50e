-- Rows of a table as a finite map.
use Rattle.std.proofs.Common.{◌≡◌, ℕ, ◌==◌, pos, List, [], ◌∷◌, Bool, true, false, cond, map, find, Option, Some, None, option_map, refl, ap, sym, ◌∙◌}
use Rattle.std.specs.declared.cmp.Ordering.{Ordering}
use Rattle.std.specs.Ordering.{eq_by_cmp, int_eq, nat_cmp}
use Rattle.std.specs.Cmp.{IsTotalOrder, eq_by_cmp_equiv, unsigned_tied, then_total, on_total, nat_cmp_total}
use Rattle.std.proofs.lemmas.Cmp.{int_eq_equiv}
use Rattle.std.proofs.lemmas.Bool.{eq-eqb, eqb-true}
use Rattle.sqlite_keyed.proofs.KeyedLemmas.{same_int}
use Rattle.std.specs.Cmp.Lexicographic.{nat_list_cmp_total, texts_ties}
use Rattle.std.specs.Str as str
use Rattle.std.specs.FinMap.{get, from_entries, get-from_entries}
use Rattle.std.specs.FinMap.Entries as entries
use Rattle.sqlite_typed.specs.Tests.{bytes_eq}
use Rattle.std.specs.Prelude.{◌&&◌}
use Rattle.std.specs.declared.cmp.Ordering.TheVariants.{Less, Equal, Greater}
use Rattle.std.specs.Ordering.{is_eq, ordering_then}
use Rattle.std.specs.Result.{result_unwrap_or}
use Rattle.std.proofs.Common.{Result, Ok, Err, arith}
use Rattle.goo_types.specs.Day.{CalendarDay, IsDay, day_reading}
use Rattle.goo_types.specs.Texts.{day_text}
use Rattle.goo_types.specs.declared.day.DayFault.{DayFault}
use Rattle.goo_types.proofs.DayLemmas.{only_day_text, day_reading-day_text}
use Rattle.goo_types.proofs.LotLemmas.{Decides-same_day}
use Rattle.goo_spec.specs.Lots.{lot_key, same_day}
use Rattle.std.proofs.Common.{drop, true≢false}
use Rattle.std.specs.FinMap.{slice_cmp-IsAntisymmetric, nat_cmp-IsAntisymmetric}
use Rattle.goo_core_shelf.specs.LotKeys.{item}
use Rattle.goo_spec_tables.specs.Texts.{no_day, day_of}
use Rattle.goo_spec.specs.State.{text_cmp, receipt_cmp, notice_cmp}

-- a row, if the test picks one
pick : {A X : Type 0} (f : A → X) (a : A) (b c : Bool) (rest : Option A) → b ≡ c → cond c (Some (f a)) (option_map f rest) ≡ option_map f (cond b (Some a) rest)
pick f a true true rest same = refl
pick f a true false rest same = absurd cc
pick f a false true rest same = absurd cc
pick f a false false rest same = refl

-- the first of the values that pass is the value of the first row that passes
pub find-values : {A X : Type 0} (f : A → X) (test : A → Bool) (p : X → Bool) → ((a : A) → test a ≡ p (f a)) → (xs : List A) → find p (map f xs) ≡ option_map f (find test xs)
find-values f test p same [] = refl
find-values f test p same (x ∷ xs) = ap (cond (p (f x)) (Some (f x))) (find-values f test p same xs) ∙ pick f x (test x) (p (f x)) (find test xs) (same x)

module _ {A K X : Type 0} {R : K → K → Ordering} (o : IsTotalOrder R) (entry : A → K × X) (q : K) (test : A → Bool) (same : (a : A) → test a ≡ eq_by_cmp R q (entry a).0) where
  find-known : (xs : List A) → entries.find R q (map entry xs) ≡ option_map (λ a. (entry a).1) (find test xs)
  find-known [] = refl
  find-known (x ∷ xs) = ap (cond (eq_by_cmp R q (entry x).0) (Some (entry x).1)) (find-known xs) ∙ pick (λ a. (entry a).1) x (test x) (eq_by_cmp R q (entry x).0) (find test xs) (same x)

  -- what is known under a key is in the first row that has it
  pub get-known : (xs : List A) → get (from_entries {R = R} (map entry xs)) q ≡ option_map (λ a. (entry a).1) (find test xs)
  get-known xs = get-from_entries o (map entry xs) q ∙ find-known xs

mapped : {A B C : Type 0} (f : B → C) (g : A → B) (o : Option A) → option_map f (option_map g o) ≡ option_map (λ a. f (g a)) o
mapped f g None = refl
mapped f g (Some a) = refl

-- what is read of the row found by its key
module _ {A K X : Type 0} {R : K → K → Ordering} (o : IsTotalOrder R) (key : A → K) (q : K) (test : A → Bool) (same : (a : A) → test a ≡ eq_by_cmp R q (key a)) where
  pub known_row : (value : A → X) (xs : List A) (x : Option A) (y : Option X) → x ≡ find test xs → y ≡ option_map value x → y ≡ get (from_entries {R = R} (map (λ a. (key a, value a)) xs)) q
  known_row value xs x y found read = read ∙ ap (option_map value) found ∙ sym (get-known o (λ a. (key a, value a)) q test same xs)

  -- where the row is kept under a number of its own
  pub known_kept : {B : Type 0} (part : A → B) (value : B → X) (xs : List A) (x : Option B) (y : Option X) → x ≡ option_map part (find test xs) → y ≡ option_map value x
      → y ≡ get (from_entries {R = R} (map (λ a. (key a, value (part a))) xs)) q
  known_kept part value xs x y found read = read ∙ ap (option_map value) found ∙ mapped value part (find test xs) ∙ sym (get-known o (λ a. (key a, value (part a))) q test same xs)

-- the tests of statements
eq_by_cmp_true : (r : Ordering) → is_eq r ≡ true → r ≡ Equal
eq_by_cmp_true Less e = absurd (true≢false (sym e))
eq_by_cmp_true Equal e = refl
eq_by_cmp_true Greater e = absurd (true≢false (sym e))

pub text_test : (a q : List ℕ) → bytes_eq a q ≡ eq_by_cmp text_cmp q a
text_test a q = (eq_by_cmp_equiv nat_list_cmp_total).symm a q

alike : (b c : Bool) → (b ≡ true → c ≡ true) → (c ≡ true → b ≡ true) → b ≡ c
alike true c there back = sym (there refl)
alike false true there back = back refl
alike false false there back = refl

same_pos : (a b : ℕ) → pos a ≡ pos b → b ≡ a
same_pos a b is = cc

pub number_test : (a q : ℕ) → int_eq (pos a) (pos q) ≡ eq_by_cmp nat_cmp q a
number_test a q =
    alike (int_eq (pos a) (pos q)) (q == a) (λ is. eq-eqb q a (same_pos a q (same_int (pos a) (pos q) is))) (λ is. ap (λ n. int_eq (pos n) (pos q)) (sym (eqb-true q a is)) ∙ int_eq_equiv.refl (pos q))
    ∙ sym (unsigned_tied q a)

-- pairs in order
pub receipt_total : IsTotalOrder receipt_cmp
receipt_total = then_total (on_total (λ (p : List ℕ × List ℕ). p.0) nat_list_cmp_total) (on_total (λ (p : List ℕ × List ℕ). p.1) nat_list_cmp_total)

pub notice_total : IsTotalOrder notice_cmp
notice_total = then_total (on_total (λ (p : ℕ × ℕ). p.0) nat_cmp_total) (on_total (λ (p : ℕ × ℕ). p.1) nat_cmp_total)

-- two tests beside each other
is_eq_then : (r s : Ordering) → is_eq r && is_eq s ≡ is_eq (ordering_then r s)
is_eq_then Less s = refl
is_eq_then Equal s = refl
is_eq_then Greater s = refl

pub receipt_test : (caller key q k : List ℕ) → bytes_eq caller q && bytes_eq key k ≡ eq_by_cmp receipt_cmp (q, k) (caller, key)
receipt_test caller key q k = (λ i. text_test caller q i && text_test key k i) ∙ is_eq_then (text_cmp q caller) (text_cmp k key)

pub notice_test : (sender number q k : ℕ) → int_eq (pos sender) (pos q) && int_eq (pos number) (pos k) ≡ eq_by_cmp notice_cmp (q, k) (sender, number)
notice_test sender number q k = (λ i. number_test sender q i && number_test number k i) ∙ is_eq_then (nat_cmp q sender) (nat_cmp k number)

-- a stored day is a day of the calendar just where its text is the day's
day_same : (text : List ℕ) (day : CalendarDay) → IsDay day → (r : Result CalendarDay DayFault) → day_reading text ≡ r → result_unwrap_or r no_day ≡ day → text ≡ day_text day
day_same text day valid (Ok d) is same = only_day_text text d is ∙ ap day_text same
day_same text day valid (Err e) is same = absurd (omega (arith, valid.0, ap (λ (d : CalendarDay). d.year) same))

pub only_day : (text : List ℕ) (day : CalendarDay) → IsDay day → day_of text ≡ day → text ≡ day_text day
only_day text day valid same = day_same text day valid (day_reading text) refl same

pub day_back : (day : CalendarDay) → IsDay day → day_of (day_text day) ≡ day
day_back day valid = ap (λ r. result_unwrap_or r no_day) (day_reading-day_text day valid)

-- a lot is known by its origin, its device and its first day
same_key : (o p y : ℕ) (d e : CalendarDay) (a b : List ℕ) → lot_key o a d ≡ lot_key p b e → (o ≡ p) × (a ≡ b) × (d ≡ e)
same_key o p y d e a b same = (item_same _ _ same, ap (drop 4) same, λ i. record { year = item (drop 1 (same i)); month = item (drop 2 (same i)); day = item (drop 3 (same i)) })
  where
    item_same : (xs ys : List ℕ) → xs ≡ ys → item xs ≡ item ys
    item_same xs ys is = ap item is

both_true : (a b c : Bool) → a ≡ true → b ≡ true → c ≡ true → a && (b && c) ≡ true
both_true a b c x y z = λ i. x i && (y i && z i)

first_true : (a b c : Bool) → a && (b && c) ≡ true → (a ≡ true) × (b ≡ true) × (c ≡ true)
first_true true true c is = (refl, refl, is)
first_true true false c is = absurd (true≢false (sym is))
first_true false b c is = absurd (true≢false (sym is))

pub text_same : (a b : List ℕ) → bytes_eq a b ≡ true → a ≡ b
text_same a b is = slice_cmp-IsAntisymmetric nat_cmp-IsAntisymmetric a b (eq_by_cmp_true (text_cmp a b) is)

pub text_itself : (a b : List ℕ) → a ≡ b → bytes_eq a b ≡ true
text_itself a b is = ap (λ x. bytes_eq x b) is ∙ (eq_by_cmp_equiv nat_list_cmp_total).refl b

number_same : (a b : ℕ) → int_eq (pos a) (pos b) ≡ true → a ≡ b
number_same a b is = sym (same_pos a b (same_int (pos a) (pos b) is))

number_itself : (a b : ℕ) → a ≡ b → int_eq (pos a) (pos b) ≡ true
number_itself a b is = ap (λ x. int_eq (pos x) (pos b)) is ∙ int_eq_equiv.refl (pos b)

pub lot_test : (origin : ℕ) (device first_day : List ℕ) (o : ℕ) (d : List ℕ) (day : CalendarDay) → IsDay day
    → int_eq (pos origin) (pos o) && (bytes_eq device d && bytes_eq first_day (day_text day)) ≡ eq_by_cmp text_cmp (lot_key o d day) (lot_key origin device (day_of first_day))
lot_test origin device first_day o d day valid =
    alike (int_eq (pos origin) (pos o) && (bytes_eq device d && bytes_eq first_day (day_text day))) (eq_by_cmp text_cmp (lot_key o d day) (lot_key origin device (day_of first_day)))
    (λ is.
    let parts = first_true _ _ _ is in
    let day_is : day_of first_day ≡ day = ap day_of (text_same first_day (day_text day) parts.2) ∙ day_back day valid in
    text_itself (lot_key o d day) (lot_key origin device (day_of first_day)) (λ i. lot_key (sym (number_same origin o parts.0) i) (sym (text_same device d parts.1) i) (sym day_is i)))
    (λ is.
    let same = same_key o origin 0 day (day_of first_day) d device (text_same (lot_key o d day) (lot_key origin device (day_of first_day)) is) in
    both_true _ _ _ (number_itself origin o (sym same.0)) (text_itself device d (sym same.1)) (text_itself first_day (day_text day) (only_day first_day day valid (sym same.2))))

-- a test of numbers, as statements write it
pub number_is : (a q : ℕ) → int_eq (pos a) (pos q) ≡ (a == q)
number_is a q = alike (int_eq (pos a) (pos q)) (a == q) (λ is. eq-eqb a q (number_same a q is)) (λ is. number_itself a q (eqb-true a q is))

-- a declaration is known by its device and its first day
pub declaration_test : (device first_day d : List ℕ) (day : CalendarDay) → IsDay day → bytes_eq device d && bytes_eq first_day (day_text day) ≡ str.bytes_eq device d && same_day (day_of first_day) day
declaration_test device first_day d day valid = λ i. sym (texts_ties device d) i && day_test i
  where
    day_test : bytes_eq first_day (day_text day) ≡ same_day (day_of first_day) day
    day_test =
        alike (bytes_eq first_day (day_text day)) (same_day (day_of first_day) day)
        (λ is. (Decides-same_day (day_of first_day) day).1 (ap day_of (text_same first_day (day_text day) is) ∙ day_back day valid))
        (λ is. text_itself first_day (day_text day) (only_day first_day day valid ((Decides-same_day (day_of first_day) day).0 is)))
