-- A declaration that is lowered keeps the state sound.
use Rattle.std.proofs.Common.{◌≡◌, ◌≢◌, ℕ, zero, suc, ◌+◌, ◌-◌, ◌*◌, ◌/◌, ◌≤◌, ◌<◌, Bool, true, false, cond, ◌&&◌, ◌||◌, ◌==◌, List, [], ◌∷◌, ◌++◌, Option, Some, None, refl, sym, ap, ◌∙◌, arith}
use Rattle.std.specs.Prelude.{count_by, sum_by, find, is_some, nat_le, nat_lt}
use Rattle.std.specs.Str.{bytes_eq}
use Rattle.std.specs.List.{list_any, list_all}
use Rattle.std.specs.Cmp.{nat_cmp_total}
use Rattle.std.specs.FinMap.{get, entries, nat_cmp-IsAntisymmetric}
use Rattle.std.proofs.lemmas.List.Sums.{sum_by_push}
use Rattle.std.proofs.lemmas.List.Folds.{list_any-append, list_all-append}
use Rattle.std.proofs.lemmas.Nat.{le-div}
use Rattle.std.proofs.lemmas.Bool.{ltb-false, leb-true, le-leb, eqb-true, eq-eqb, ne_eqb, true≢false, and_parts, and_from}
use Rattle.std.proofs.lemmas.Slice.Eq.{bytes_eq-Decides}
use Rattle.std.proofs.Math.Nat.{div-mul-le_self}
use Rattle.std.proofs.Math.Bool.{and-false, and-true, and_self, or-false}
use Rattle.goo_types.specs.Number.{code_of}
use Rattle.goo_types.specs.Range.{Numbers}
use Rattle.goo_types.specs.Place.{account_of}
use Rattle.goo_types.specs.declared.lot_fields.LotFields.{LotFields}
use Rattle.goo_types.specs.declared.place.Place.{Place}
use Rattle.goo_types.specs.declared.place.Place.TheVariants.{Held, Cancelled, Expired, Withdrawn, Exported}
use Rattle.goo_types.specs.declared.refusal.Refusal.{Refusal}
use Rattle.goo_types.specs.declared.refusal.Refusal.TheVariants.{UnknownNumber, OtherDevice, NotHeld, NumbersExhausted}
use Rattle.goo_types.specs.declared.command.Correct.{Correct}
use Rattle.goo_types.specs.declared.command.Declare.{Declare}
use Rattle.goo_types.specs.declared.command.Withdraw.{Withdraw}
use Rattle.goo_spec.specs.Lots.{Certificates, is_held, is_absent}
use Rattle.goo_spec.specs.Maps.{numbers_from, count_of, each, place_one, place_each, least_absent, least_failing}
use Rattle.goo_spec.specs.State.{State, Correction, last_act}
use Rattle.goo_spec.specs.Energy.{certificate, net, net_of, total, less_of, lowered, remaining, due, issued, corrected, is_issued_to, is_number, withdrew, is_taken_back, is_corrected, begins, corrects, less_from, lowered_by}
use Rattle.goo_spec.specs.Withdraw.{withdraw_refusal, withdrawal_of, with_withdrawal}
use Rattle.goo_spec.specs.Correct.{left_of, correctable, lowering_refusal, excess, numbers_in, count_in, is_lot_of, correct_checks, correct_refusal, withdrawal_for, correction_of, taken_out, with_correction}
use Rattle.goo_spec.specs.Checks.{first_refusal, when, naming}
use Rattle.goo_spec.specs.Sound.{IsSound, is_withdrawal_there, is_act_there}
use Rattle.goo_spec.proofs.Counting.{one, one_at, count-insert, count-alike}
use Rattle.goo_spec.proofs.Mapping.{none_some, get_other, contains_set}
use Rattle.goo_spec.proofs.Placing.{is_one_of, passed_over}
use Rattle.goo_spec.proofs.Checking.{none_fail, passes, holds, all_pass, unfound}
use Rattle.goo_spec.proofs.Lowering.{never_withdrew, held_stays, next_is_free}
use Rattle.goo_spec.proofs.Rising.{only_one}
use Rattle.goo_spec.proofs.Importable.{one_of}
use Rattle.goo_spec.proofs.Moving.{issued_after, sound_withdraw}

-- ---- what is accepted

-- what the checks of an accepted correction say
pub record Passes (s : State) (caller : List ℕ) (x : Correct) : Type 0 where
  pub declaration : Declare
  pub found : find (begins x.device x.first_day) s.declarations ≡ Some declaration
  pub fits : x.less ≤ net declaration - lowered_by s.corrections declaration
  pub count : count_in x.range ≡ excess s x
  -- each number is there, of an own lot of the device, and held
  pub there : (n : ℕ) → is_one_of (numbers_in x.range) n ≡ true → is_some (get s.at n) ≡ true
  pub lot : (n : ℕ) (lot : LotFields) (place : Place) → is_one_of (numbers_in x.range) n ≡ true → get s.at n ≡ Some (lot, place) → is_lot_of s.own x.device lot ≡ true
  pub held : (n : ℕ) (lot : LotFields) (place : Place) → is_one_of (numbers_in x.range) n ≡ true → get s.at n ≡ Some (lot, place) → is_held place ≡ true

some_declaration : (less : ℕ) (cs : List Correction) (o : Option Declare) → lowering_refusal less (left_of cs o) ≡ None → (y : Declare) × (o ≡ Some y) × (less ≤ net y - lowered_by cs y)
some_declaration less cs None none = none_some _ (sym none)
some_declaration less cs (Some y) none = (y, refl, ltb-false (net y - lowered_by cs y) less (passes _ _ none))

present : (at : Certificates) (ns : List ℕ) (n : ℕ) → least_absent (get at) ns ≡ None → is_one_of ns n ≡ true → is_some (get at n) ≡ true
present at ns n none one = by (get at n) (passed_over (λ m. is_absent (get at m)) ns n none one)
  where
    by : (o : Option (LotFields × Place)) → is_absent o ≡ false → is_some o ≡ true
    by None h = absurd (true≢false h)
    by (Some e) h = refl

pub checks_met : (s : State) (caller : List ℕ) (x : Correct) → correct_refusal s caller x ≡ None → Passes s caller x
unfolding correct_refusal correctable
checks_met s caller x none =
    let met = none_fail (correct_checks s caller x) none in
    let y = some_declaration x.less s.corrections (find (begins x.device x.first_day) s.declarations) met.1.1.0 in
    record {
      declaration = y.0;
      found = y.1;
      fits = y.2;
      count = eqb-true (count_in x.range) (excess s x) (holds _ _ met.1.1.1.0);
      there = λ n one. present s.at (numbers_in x.range) n (unfound _ _ met.1.1.1.1.0) one;
      lot = λ n lot place one is. all_pass (λ l p. is_lot_of s.own x.device l) OtherDevice s.at (numbers_in x.range) n lot place met.1.1.1.1.1.0 one is;
      held = λ n lot place one is. all_pass (λ l p. is_held p) NotHeld s.at (numbers_in x.range) n lot place met.1.1.1.1.1.1.0 one is;
    }

four : (a b c d : Option Refusal) → a ≡ None → b ≡ None → c ≡ None → d ≡ None → first_refusal (a ∷ b ∷ c ∷ d ∷ []) ≡ None
four a b c d p q r t = λ i. first_refusal (p i ∷ q i ∷ r i ∷ t i ∷ [])

-- what is taken out is withdrawn as any other
pub withdrawal_passes : (s : State) (caller : List ℕ) (x : Correct) (range : Numbers) → x.range ≡ Some range → correct_refusal s caller x ≡ None → withdraw_refusal s caller (record { range = range; reason = x.reason }) ≡ None
unfolding correct_refusal withdraw_refusal
withdrawal_passes s caller x range is none =
    let met = none_fail (correct_checks s caller x) none in
    four _ _ _ _ met.0
    (ap (λ r. naming UnknownNumber (least_absent (get s.at) (numbers_in r))) (sym is) ∙ met.1.1.1.1.0)
    (ap (λ r. naming NotHeld (least_failing (λ lot place. is_held place) (get s.at) (numbers_in r))) (sym is) ∙ met.1.1.1.1.1.1.0)
    (ap (λ r. when (is_some r && nat_lt last_act s.next_withdrawal) NumbersExhausted) (sym is) ∙ met.1.1.1.1.1.1.1.0)

-- ---- counting those that are moved

module _ (new : LotFields → Place → Place) (p : ℕ × (LotFields × Place) → Bool) (more : ℕ) where
  stays_elsewhere : (at : Certificates) (first n : ℕ) (o : Option (LotFields × Place)) → n ≢ first → get (place_one new first at o) n ≡ get at n
  stays_elsewhere at first n None apart = refl
  stays_elsewhere at first n (Some e) apart = get_other nat_cmp_total nat_cmp-IsAntisymmetric at first (e.0, new e.0 e.1) n apart

  count-one : (at : Certificates) (first : ℕ) (o : Option (LotFields × Place)) → get at first ≡ o → is_some o ≡ true
      → ((lot : LotFields) (place : Place) → get at first ≡ Some (lot, place) → one p (first, (lot, new lot place)) ≡ one p (first, (lot, place)) + more)
      → count_by p (entries (place_one new first at o)) ≡ count_by p (entries at) + more
  count-one at first None is there adds = absurd (true≢false (sym there))
  count-one at first (Some e) is there adds =
      let was : one_at p first (get at first) ≡ one p (first, e) = ap (one_at p first) is in
      omega (arith, count-insert p at first (e.0, new e.0 e.1), was, adds e.0 e.1 is)

  -- where each number counts for so much more once it is moved, so many times so much is added
  pub count-numbers : (count first : ℕ) (at : Certificates)
      → ((n : ℕ) → first ≤ n → n < first + count → is_some (get at n) ≡ true)
      → ((n : ℕ) (lot : LotFields) (place : Place) → first ≤ n → n < first + count → get at n ≡ Some (lot, place) → one p (n, (lot, new lot place)) ≡ one p (n, (lot, place)) + more)
      → count_by p (entries (place_each new (numbers_from first count) at)) ≡ count_by p (entries at) + count * more
  count-numbers zero first at there adds = omega arith
  count-numbers (suc count) first at there adds =
      let same : (n : ℕ) → first + 1 ≤ n → get (place_one new first at (get at first)) n ≡ get at n = λ n low. stays_elsewhere at first n (get at first) (λ (e : n ≡ first). absurd (omega (arith, e, low))) in
      let rest = count-numbers count (first + 1) (place_one new first at (get at first))
      (λ n low high. ap is_some (same n low) ∙ there n (omega (arith, low)) (omega (arith, high)))
      (λ n lot place low high is. adds n lot place (omega (arith, low)) (omega (arith, high)) (sym (same n low) ∙ is)) in
      let here = count-one at first (get at first) refl (there first (omega arith) (omega arith)) (λ lot place is. adds first lot place (omega arith) (omega arith) is) in
      omega (arith, rest, here)

-- ---- one more correction

-- the state with it
abbrev pub with_more : State → Correction → State
with_more t c = record t { corrections = t.corrections ++ c ∷ [] }

lowered_more : (t : State) (c : Correction) (d : List ℕ) → lowered (with_more t c) d ≡ lowered t d + less_of d c
unfolding lowered
lowered_more t c d = sum_by_push (less_of d) t.corrections c

some_found : (test : Declare → Bool) (ds : List Declare) (y : Declare) → find test ds ≡ Some y → list_any test ds ≡ true
some_found test [] y is = none_some y is
some_found test (x ∷ xs) y is = elim (test x) as (λ b. cond b (Some x) (find test xs) ≡ Some y → (b || list_any test xs) ≡ true) [ true ↦ λ _. refl | false ↦ λ later. some_found test xs y later ] is

module _ (s : State) (caller : List ℕ) (x : Correct) (met : Passes s caller x) (sound : IsSound s) where
  c : Correction
  c = correction_of s x

  -- the declaration can bear it, and no other is lowered
  lowered_net : list_all (λ y. nat_le (lowered_by (s.corrections ++ c ∷ []) y) (net y)) s.declarations ≡ true
  unfolding c
  lowered_net = only_one x.device x.first_day (λ y. nat_le (lowered_by s.corrections y) (net y)) (λ y. nat_le (lowered_by (s.corrections ++ c ∷ []) y) (net y))
      (λ y other fit. le-leb (lowered_by (s.corrections ++ c ∷ []) y) (net y)
      (let sum = sum_by_push (less_from y) s.corrections c in let none : less_from y c ≡ 0 = ap (λ b. cond b x.less 0) other in let l = leb-true (lowered_by s.corrections y) (net y) fit in omega (arith, sum, none, l)))
      None s.declarations met.declaration (sound.declarations.rising x.device) met.found
      (λ fit. le-leb (lowered_by (s.corrections ++ c ∷ []) met.declaration) (net met.declaration)
      (let sum = sum_by_push (less_from met.declaration) s.corrections c in
      let most = at_most_less (corrects met.declaration c) x.less in
      let l = leb-true (lowered_by s.corrections met.declaration) (net met.declaration) fit in let fits = met.fits in omega (arith, sum, most, l, fits)))
      sound.corrections.net
    where
      at_most_less : (b : Bool) (less : ℕ) → cond b less 0 ≤ less
      at_most_less true less = omega arith
      at_most_less false less = omega arith

  all_declared : list_all (λ k. list_any (λ y. corrects y k) s.declarations) (s.corrections ++ c ∷ []) ≡ true
  unfolding c
  all_declared = list_all-append (λ k. list_any (λ y. corrects y k) s.declarations) s.corrections (c ∷ [])
      ∙ and_from (list_all (λ k. list_any (λ y. corrects y k) s.declarations) s.corrections) _ sound.corrections.declared
      (and_from (list_any (λ y. corrects y c) s.declarations) true (some_found (begins x.device x.first_day) s.declarations met.declaration met.found) refl)

  -- what is left of the device's energy
  remaining_after : (t : State) → t.declarations ≡ s.declarations → t.corrections ≡ s.corrections → (d : List ℕ) → remaining (with_more t c) d ≡ remaining s d - less_of d c
  unfolding remaining total lowered c
  remaining_after t declarations corrections d =
      let sum = sum_by_push (less_of d) t.corrections c in
      let declared : sum_by (net_of d) t.declarations ≡ sum_by (net_of d) s.declarations = ap (sum_by (net_of d)) declarations in
      let less : sum_by (less_of d) t.corrections ≡ sum_by (less_of d) s.corrections = ap (sum_by (less_of d)) corrections in
      omega (arith, sum, declared, less)

  -- the certificates due to the device are fewer by those in excess, and those due to another stay
  due_after : (t : State) → t.declarations ≡ s.declarations → t.corrections ≡ s.corrections → (d : List ℕ) → due s d ≡ due (with_more t c) d + excess s x * cond (bytes_eq x.device d) 1 0
  unfolding due excess c
  due_after t declarations corrections d =
      let after = remaining_after t declarations corrections d in
      elim (bytes_eq x.device d) as (λ b. bytes_eq x.device d ≡ b → remaining s d / certificate ≡ remaining (with_more t c) d / certificate + (remaining s x.device / certificate - (remaining s x.device - x.less) / certificate) * cond b 1 0) [
        | true ↦ λ is.
            let same : x.device ≡ d = (bytes_eq-Decides x.device d).0 is in
            let less : less_of d c ≡ x.less = ap (λ b. cond b x.less 0) is in
            let there : remaining s x.device ≡ remaining s d = ap (remaining s) same in
            let left : remaining (with_more t c) d / certificate ≡ (remaining s x.device - x.less) / certificate = ap (λ (n : ℕ). n / certificate) (omega (arith, after, less, there)) in
            let whole : remaining s d / certificate ≡ remaining s x.device / certificate = ap (λ (n : ℕ). n / certificate) (sym there) in
            let order : (remaining s x.device - x.less) / certificate ≤ remaining s x.device / certificate =
            le-div ((remaining s x.device - x.less) / certificate) (remaining s x.device) certificate (omega arith) (omega (arith, div-mul-le_self (remaining s x.device - x.less) certificate)) in
            omega (arith, left, whole, order)
        | false ↦ λ is.
            let less : less_of d c ≡ 0 = ap (λ b. cond b x.less 0) is in
            let left : remaining (with_more t c) d / certificate ≡ remaining s d / certificate = ap (λ (n : ℕ). n / certificate) (omega (arith, after, less)) in
            omega (arith, left)
      ] refl

  -- ---- no range

  unchanged_back : x.range ≡ None → (d : List ℕ) (place : Place) → is_taken_back d (s.corrections ++ c ∷ []) place ≡ is_taken_back d s.corrections place
  unfolding c
  unchanged_back none d (Held a) = refl
  unchanged_back none d (Cancelled a k) = refl
  unchanged_back none d (Expired a) = refl
  unchanged_back none d (Exported a k) = refl
  unchanged_back none d (Withdrawn a k) =
      list_any-append (withdrew d k) s.corrections (c ∷ [])
      ∙ ap (λ o. list_any (withdrew d k) s.corrections || ((bytes_eq x.device d && is_number k (withdrawal_for s o)) || false)) none
      ∙ ap (λ b. list_any (withdrew d k) s.corrections || (b || false)) (and-false (bytes_eq x.device d))
      ∙ or-false (list_any (withdrew d k) s.corrections)

  sound_none : x.range ≡ None → IsSound (with_more s c)
  unfolding issued corrected c
  sound_none none = record {
    limits = sound.limits;
    known = sound.known;
    lots = sound.lots;
    places = sound.places;
    records = sound.records;
    holders = sound.holders;
    devices = sound.devices;
    declarations = sound.declarations;
    corrections = record {
      declared = all_declared;
      net = lowered_net;
      act = list_all-append (λ k. is_withdrawal_there s.withdrawals k.withdrawal) s.corrections (c ∷ [])
          ∙ and_from (list_all (λ k. is_withdrawal_there s.withdrawals k.withdrawal) s.corrections) _ sound.corrections.act
          (and_from (is_withdrawal_there s.withdrawals (withdrawal_for s x.range)) true (ap (λ o. is_withdrawal_there s.withdrawals (withdrawal_for s o)) none) refl);
    };
    times = sound.times;
    account_numbers = sound.account_numbers;
    cancellation_numbers = sound.cancellation_numbers;
    withdrawal_numbers = sound.withdrawal_numbers;
    notice_numbers = sound.notice_numbers;
    peers = sound.peers;
    issued_when_due = λ d.
        let zero_excess : excess s x ≡ 0 = sym met.count ∙ ap count_in none in
        let same : count_by (is_corrected s.own d (s.corrections ++ c ∷ [])) (entries s.at) ≡ count_by (is_corrected s.own d s.corrections) (entries s.at) =
        count-alike (is_corrected s.own d (s.corrections ++ c ∷ [])) (is_corrected s.own d s.corrections) s.at (λ n e _. ap (λ b. is_issued_to s.own d (n, e) && b) (unchanged_back none d e.1)) in
        let due = due_after s refl refl d in
        let product : excess s x * cond (bytes_eq x.device d) 1 0 ≡ 0 * cond (bytes_eq x.device d) 1 0 = ap (λ (k : ℕ). k * cond (bytes_eq x.device d) 1 0) zero_excess in
        omega (arith, sound.issued_when_due d, same, due, product);
  }

  -- ---- a range

  module _ (range : Numbers) (is : x.range ≡ Some range) where
    act : ℕ
    act = s.next_withdrawal

    new : LotFields → Place → Place
    new lot place = Withdrawn (account_of place) act

    -- what was there is as it was: none of it has the new withdrawal
    back_before : (d : List ℕ) (place : Place) → is_act_there s.cancellations s.withdrawals s.sent place ≡ true → is_taken_back d (s.corrections ++ c ∷ []) place ≡ is_taken_back d s.corrections place
    unfolding c
    back_before d (Held a) there = refl
    back_before d (Cancelled a k) there = refl
    back_before d (Expired a) there = refl
    back_before d (Exported a k) there = refl
    back_before d (Withdrawn a k) there =
        list_any-append (withdrew d k) s.corrections (c ∷ [])
        ∙ ap (λ o. list_any (withdrew d k) s.corrections || ((bytes_eq x.device d && is_number k (withdrawal_for s o)) || false)) is
        ∙ ap (λ b. list_any (withdrew d k) s.corrections || ((bytes_eq x.device d && b) || false)) (ne_eqb s.next_withdrawal k (λ (e : s.next_withdrawal ≡ k). let l = sound.withdrawal_numbers k there in absurd (omega (arith, e, l))))
        ∙ ap (λ b. list_any (withdrew d k) s.corrections || (b || false)) (and-false (bytes_eq x.device d))
        ∙ or-false (list_any (withdrew d k) s.corrections)

    -- the new withdrawal is the new correction's
    back_after : (d : List ℕ) (place : Place) → is_taken_back d (s.corrections ++ c ∷ []) (Withdrawn (account_of place) s.next_withdrawal) ≡ bytes_eq x.device d
    unfolding c
    back_after d place =
        list_any-append (withdrew d s.next_withdrawal) s.corrections (c ∷ [])
        ∙ ap (λ b. b || ((bytes_eq x.device d && is_number s.next_withdrawal (withdrawal_for s x.range)) || false)) (never_withdrew d s.withdrawals s.next_withdrawal s.corrections (next_is_free s.next_withdrawal s.withdrawals sound.withdrawal_numbers) sound.corrections.act)
        ∙ ap (λ o. (bytes_eq x.device d && is_number s.next_withdrawal (withdrawal_for s o)) || false) is
        ∙ ap (λ b. (bytes_eq x.device d && b) || false) (eq-eqb s.next_withdrawal s.next_withdrawal refl)
        ∙ or-false (bytes_eq x.device d && true)
        ∙ and-true (bytes_eq x.device d)

    numbered : (n : ℕ) → range.first ≤ n → n < range.first + count_of range → is_one_of (numbers_in x.range) n ≡ true
    numbered n low high = ap (λ o. is_one_of (numbers_in o) n) is ∙ one_of (count_of range) range.first n low high

    -- each number of the range counts for one more of the device's
    adds : (d : List ℕ) (n : ℕ) (lot : LotFields) (place : Place) → range.first ≤ n → n < range.first + count_of range → get s.at n ≡ Some (lot, place)
        → one (is_corrected s.own d (s.corrections ++ c ∷ [])) (n, (lot, new lot place)) ≡ one (is_corrected s.own d (s.corrections ++ c ∷ [])) (n, (lot, place)) + cond (bytes_eq x.device d) 1 0
    unfolding new act
    adds d n lot place low high at =
        let one_of_them = numbered n low high in
        let held = met.held n lot place one_of_them at in
        let own = and_parts (lot.origin == s.own) (bytes_eq lot.device x.device) (met.lot n lot place one_of_them at) in
        let code : (code_of n == s.own) ≡ true = ap (λ (k : ℕ). k == s.own) (sym (sound.known.code n lot place at)) ∙ own.0 in
        let device : lot.device ≡ x.device = (bytes_eq-Decides lot.device x.device).0 own.1 in
        let issued_to : is_issued_to s.own d (n, (lot, place)) ≡ bytes_eq x.device d = ap (λ b. b && bytes_eq lot.device d) code ∙ ap (λ v. bytes_eq v d) device in
        let was : one (is_corrected s.own d (s.corrections ++ c ∷ [])) (n, (lot, place)) ≡ 0 =
        ap (λ b. cond b 1 0) (ap (λ b. is_issued_to s.own d (n, (lot, place)) && b) (held_stays d (s.corrections ++ c ∷ []) place held) ∙ and-false (is_issued_to s.own d (n, (lot, place)))) in
        let now : one (is_corrected s.own d (s.corrections ++ c ∷ [])) (n, (lot, Withdrawn (account_of place) s.next_withdrawal)) ≡ cond (bytes_eq x.device d) 1 0 =
        ap (λ b. cond b 1 0) (ap (λ b. b && is_taken_back d (s.corrections ++ c ∷ []) (Withdrawn (account_of place) s.next_withdrawal)) issued_to ∙ ap (λ b. bytes_eq x.device d && b) (back_after d place) ∙ and_self (bytes_eq x.device d)) in
        omega (arith, was, now)

    corrected_moved : (d : List ℕ) → count_by (is_corrected s.own d (s.corrections ++ c ∷ [])) (entries (place_each new (each range) s.at)) ≡ corrected s d + count_of range * cond (bytes_eq x.device d) 1 0
    unfolding corrected
    corrected_moved d =
        let before : count_by (is_corrected s.own d (s.corrections ++ c ∷ [])) (entries s.at) ≡ count_by (is_corrected s.own d s.corrections) (entries s.at) =
        count-alike (is_corrected s.own d (s.corrections ++ c ∷ [])) (is_corrected s.own d s.corrections) s.at
        (λ n e at. ap (λ b. is_issued_to s.own d (n, e) && b) (back_before d e.1 (sound.places.act n e.0 e.1 at))) in
        let all = count-numbers new (is_corrected s.own d (s.corrections ++ c ∷ [])) (cond (bytes_eq x.device d) 1 0) (count_of range) range.first s.at
        (λ n low high. met.there n (numbered n low high)) (λ n lot place low high at. adds d n lot place low high at) in
        omega (arith, before, all)

    taken : Withdraw
    taken = record { range = range; reason = x.reason }

    sound_some : withdraw_refusal s caller taken ≡ None → IsSound (with_more (with_withdrawal s taken) c)
    unfolding with_withdrawal issued corrected c new act taken
    sound_some passes =
        let after : IsSound (with_withdrawal s taken) = sound_withdraw s caller taken passes sound in
        record {
          limits = after.limits;
          known = after.known;
          lots = after.lots;
          places = after.places;
          records = after.records;
          holders = after.holders;
          devices = after.devices;
          declarations = after.declarations;
          corrections = record {
            declared = all_declared;
            net = lowered_net;
            act = list_all-append (λ k. is_withdrawal_there (with_withdrawal s taken).withdrawals k.withdrawal) s.corrections (c ∷ [])
                ∙ and_from (list_all (λ k. is_withdrawal_there (with_withdrawal s taken).withdrawals k.withdrawal) s.corrections) _ after.corrections.act
                (and_from (is_withdrawal_there (with_withdrawal s taken).withdrawals (withdrawal_for s x.range)) true
                (ap (λ o. is_withdrawal_there (with_withdrawal s taken).withdrawals (withdrawal_for s o)) is ∙ contains_set nat_cmp_total s.withdrawals s.next_withdrawal (withdrawal_of s taken)) refl);
          };
          times = after.times;
          account_numbers = after.account_numbers;
          cancellation_numbers = after.cancellation_numbers;
          withdrawal_numbers = after.withdrawal_numbers;
          notice_numbers = after.notice_numbers;
          peers = after.peers;
          issued_when_due = λ d.
              let count : count_of range ≡ excess s x = sym (ap count_in is) ∙ met.count in
              let due = due_after (with_withdrawal s taken) refl refl d in
              let product : count_of range * cond (bytes_eq x.device d) 1 0 ≡ excess s x * cond (bytes_eq x.device d) 1 0 = ap (λ (k : ℕ). k * cond (bytes_eq x.device d) 1 0) count in
              let issued = issued_after s new (λ lot place. refl) (each range) sound d in
              omega (arith, sound.issued_when_due d, issued, corrected_moved d, due, product);
        }

correcting : (s : State) (caller : List ℕ) (x : Correct) (o : Option Numbers) → x.range ≡ o → correct_refusal s caller x ≡ None → IsSound s → IsSound (record (taken_out s x o) { corrections = s.corrections ++ correction_of s x ∷ [] })
unfolding with_withdrawal c taken
correcting s caller x None is none sound = sound_none s caller x (checks_met s caller x none) sound is
correcting s caller x (Some range) is none sound = sound_some s caller x (checks_met s caller x none) sound range is (withdrawal_passes s caller x range is none)

pub sound_correct : (s : State) (caller : List ℕ) (x : Correct) → correct_refusal s caller x ≡ None → IsSound s → IsSound (with_correction s x)
unfolding with_correction
sound_correct s caller x none sound = correcting s caller x x.range refl none sound
