-- Each certificate of a class is in the statement of one account.
use Rattle.std.proofs.Common.{◌≡◌, ℕ, zero, suc, ◌+◌, ◌==◌, ◌&&◌, ltb, Bool, true, false, cond, List, [], ◌∷◌, refl, sym, ap, ◌∙◌, arith}
use Rattle.std.specs.Prelude.{count_by}
use Rattle.std.specs.FinMap.{entries}
use Rattle.std.proofs.lemmas.Bool.{lt-ltb}
use Rattle.std.proofs.lemmas.Bool.Decides.{nat_tests}
use Rattle.std.proofs.lemmas.List.Sums.{sum_by-cons}
use Rattle.goo_types.specs.Place.{account_of}
use Rattle.goo_types.specs.declared.lot_fields.LotFields.{LotFields}
use Rattle.goo_types.specs.declared.place.Place.{Place}
use Rattle.goo_spec.specs.Sound.{IsSound}
use Rattle.goo_spec.specs.State.{State}
use Rattle.goo_spec.proofs.Counting.{one, count-alike}
use Rattle.goo_spec_laws.specs.Classes.{Class, is_of, those_in, stated_in, over_accounts}

abbrev Entry : Type 0
Entry = ℕ × (LotFields × Place)

-- an account below the next number is the last one, or below it
one_more : (b : Bool) (a k : ℕ) → cond (b && ltb a (suc k)) 1 0 ≡ cond (b && ltb a k) 1 0 + cond (b && (a == k)) 1 0
one_more true a k = grind (arith, nat_tests)
one_more false a k = refl

none_below : (b : Bool) (a : ℕ) → ◌≡◌ {A = ℕ} (cond (b && ltb a 0) 1 0) 0
none_below true a = grind (arith, nat_tests)
none_below false a = refl

both_same : (a b c : Bool) → ((a && b) && c) ≡ (a && (b && c))
both_same true b c = refl
both_same false b c = refl

true_too : (b c : Bool) → c ≡ true → b ≡ (b && c)
true_too true c is = sym is
true_too false c is = refl

module _ (p : Entry → Bool) where
  abbrev of_account : ℕ → Entry → Bool
  of_account k e = p e && (account_of e.1.1 == k)

  abbrev of_first : ℕ → Entry → Bool
  of_first k e = p e && ltb (account_of e.1.1) k

  none_first : (es : List Entry) → count_by (of_first 0) es ≡ 0
  none_first [] = refl
  none_first (e ∷ es) = let rest = none_first es in let here = none_below (p e) (account_of e.1.1) in omega (arith, rest, here, sum_by-cons (one (of_first 0)) e es)

  next_first : (k : ℕ) (es : List Entry) → count_by (of_first (suc k)) es ≡ count_by (of_first k) es + count_by (of_account k) es
  next_first k [] = refl
  next_first k (e ∷ es) =
      let rest = next_first k es in
      let here = one_more (p e) (account_of e.1.1) k in
      omega (arith, rest, here, sum_by-cons (one (of_first (suc k))) e es, sum_by-cons (one (of_first k)) e es, sum_by-cons (one (of_account k)) e es)

  all_first : (k : ℕ) (es : List Entry) → count_by (of_first k) es ≡ over_accounts k (λ account. count_by (of_account account) es)
  all_first zero es = none_first es
  all_first (suc k) es = next_first k es ∙ ap (λ n. n + count_by (of_account k) es) (all_first k es)

abbrev is_there : State → Class → (Place → Bool) → Entry → Bool
is_there s class there e = is_of s.own class e && there e.1.1

-- the account that a place names has a number that was given
pub by_account : (s : State) → IsSound s → (class : Class) (there : Place → Bool) → those_in there class s ≡ over_accounts s.next_account (λ account. stated_in account there class s)
by_account s sound class there =
    count-alike (is_there s class there) (of_first (is_there s class there) s.next_account) s.at (λ n known is.
    let below = sound.account_numbers (account_of known.1) (sound.places.account n known.0 known.1 is) in
    true_too (is_there s class there (n, known)) (ltb (account_of known.1) s.next_account) (lt-ltb (account_of known.1) s.next_account below))
    ∙ all_first (is_there s class there) s.next_account (entries s.at)
    ∙ (λ i. over_accounts s.next_account (λ account. count_by (λ e. both_same (is_of s.own class e) (there e.1.1) (account_of e.1.1 == account) i) (entries s.at)))
