-- What closing an account changes in the tables.
use Rattle.std.proofs.Common.{◌≡◌, ℕ, pos, ◌==◌, ◌&&◌, nat_le, List, [], ◌∷◌, Bool, true, false, cond, map, find, Option, Some, None, option_map, refl, ap, sym, ◌∙◌, true≢false}
use Rattle.std.specs.FinMap.{FinMap, get, from_entries, get-insert, same_map, nat_cmp-IsAntisymmetric}
use Rattle.std.specs.Cmp.{nat_cmp_total, unsigned_tied}
use Rattle.std.specs.Ordering.{int_eq, nat_cmp}
use Rattle.std.specs.List.{list_all}
use Rattle.std.proofs.lemmas.Bool.{eqb-true}
use Rattle.sqlite_keyed.specs.Lists.{update_where}
use Rattle.sqlite_keyed.proofs.KeyedLemmas.{key-get_by}
use Rattle.sqlite_keyed.proofs.RuleLemmas.{first_of_both, second_of_both}
use Rattle.goo_types.specs.declared.command.CloseAccount.{CloseAccount}
use Rattle.goo_spec.specs.CloseAccount.{shut, with_closed}
use Rattle.goo_spec.specs.State as registry
use Rattle.goo_ranges_rows.specs.Certificates.{beside}
use Rattle.goo_tables_rows.specs.Rows.{Tables, Account, account_key}
use Rattle.goo_tables_accounts.specs.Changes as change
use Rattle.goo_store_plans.specs.Acted.{IsActed}
use Rattle.goo_spec_tables.specs.Kept.{AreKept}
use Rattle.goo_spec_tables.specs.Readable.{is_account, is_act, reads}
use Rattle.goo_types.specs.Codes.{holder_reading}
use Rattle.goo_spec_tables.specs.States.{state_of, known_account, account_of}
use Rattle.goo_store_plans.proofs.CommandsActed.{quiet}
use Rattle.goo_spec_tables.proofs.Known.{get-known, number_test, number_is}
use Rattle.goo_spec_tables.proofs.ReadableLemmas.{with_accounts}

module _ (n : ℕ) where
  abbrev closes : Account → Bool
  closes a = int_eq (account_key a) (pos n)

  abbrev once_closed : Account → Account
  once_closed a = cond (closes a) (record a { closed = 1 }) a

  abbrev shut_account : registry.Account → registry.Account
  shut_account a = record a { closed = true }

  abbrev at_number : ℕ → Account → Bool
  at_number q a = int_eq (pos a.number) (pos q)

  number_stays : (a : Account) → (once_closed a).number ≡ a.number
  number_stays a = go (closes a)
    where
      go : (b : Bool) → (cond b (record a { closed = 1 }) a).number ≡ a.number
      go true = refl
      go false = refl

  find-closed : (q : ℕ) (xs : List Account) → find (at_number q) (update_where closes (λ a. record a { closed = 1 }) xs) ≡ option_map once_closed (find (at_number q) xs)
  find-closed q [] = refl
  find-closed q (a ∷ xs) = go (at_number q (once_closed a)) (at_number q a) (ap (λ k. int_eq (pos k) (pos q)) (number_stays a)) (find-closed q xs)
    where
      go : (b c : Bool) → b ≡ c → find (at_number q) (update_where closes (λ d. record d { closed = 1 }) xs) ≡ option_map once_closed (find (at_number q) xs)
          → cond b (Some (once_closed a)) (find (at_number q) (update_where closes (λ d. record d { closed = 1 }) xs)) ≡ option_map once_closed (cond c (Some a) (find (at_number q) xs))
      go true true same rest = refl
      go true false same rest = absurd (true≢false same)
      go false true same rest = absurd (true≢false (sym same))
      go false false same rest = rest

  -- the row that is found under a number, once the account is closed
  known_closed : (q : ℕ) (o : Option Account) → ((a : Account) → o ≡ Some a → a.number ≡ q) → option_map account_of (option_map once_closed o) ≡ cond (q == n) (option_map shut_account (option_map account_of o)) (option_map account_of o)
  known_closed q None same = go (q == n)
    where
      go : (b : Bool) → option_map account_of (option_map once_closed None) ≡ cond b (option_map shut_account (option_map account_of None)) (option_map account_of None)
      go true = refl
      go false = refl
  known_closed q (Some a) same = go (closes a) (q == n) (number_is a.number n ∙ ap (λ k. k == n) (same a refl))
    where
      go : (b c : Bool) → b ≡ c → option_map account_of (Some (cond b (record a { closed = 1 }) a)) ≡ cond c (option_map shut_account (Some (account_of a))) (Some (account_of a))
      go true true e = refl
      go true false e = absurd (true≢false e)
      go false true e = absurd (true≢false (sym e))
      go false false e = refl

  module _ (xs : List Account) where
    abbrev before : FinMap nat_cmp registry.Account
    before = from_entries (map known_account xs)

    abbrev after : FinMap nat_cmp registry.Account
    after = from_entries (map known_account (update_where closes (λ a. record a { closed = 1 }) xs))

    known-before : (q : ℕ) → get before q ≡ option_map account_of (find (at_number q) xs)
    known-before q = get-known nat_cmp_total known_account q (at_number q) (λ a. number_test a.number q) xs

    known-after : (q : ℕ) → get after q ≡ cond (q == n) (option_map shut_account (get before q)) (get before q)
    known-after q =
        get-known nat_cmp_total known_account q (at_number q) (λ a. number_test a.number q) (update_where closes (λ a. record a { closed = 1 }) xs)
        ∙ ap (option_map account_of) (find-closed q xs)
        ∙ known_closed q (find (at_number q) xs) (λ a is. pos_same a.number q (key-get_by account_key xs (pos q) a is))
        ∙ sym (λ i. cond (q == n) (option_map shut_account (known-before q i)) (known-before q i))
      where
        pos_same : (a b : ℕ) → pos a ≡ pos b → a ≡ b
        pos_same a b is = cc

    shut_so : (q : ℕ) (o : Option registry.Account) → get before n ≡ o → cond (q == n) (option_map shut_account (get before q)) (get before q) ≡ get (shut before n o) q
    shut_so q None is = go (q == n) refl
      where
        go : (b : Bool) → (q == n) ≡ b → cond b (option_map shut_account (get before q)) (get before q) ≡ get before q
        go true same = let none : get before q ≡ None = ap (get before) (eqb-true q n same) ∙ is in ap (option_map shut_account) none ∙ sym none
        go false same = refl
    shut_so q (Some a) is = go (q == n) refl ∙ sym (get-insert nat_cmp_total before n (shut_account a) q ∙ ap (λ b. cond b (Some (shut_account a)) (get before q)) (unsigned_tied q n))
      where
        go : (b : Bool) → (q == n) ≡ b → cond b (option_map shut_account (get before q)) (get before q) ≡ cond b (Some (shut_account a)) (get before q)
        go true same = ap (option_map shut_account) (ap (get before) (eqb-true q n same) ∙ is)
        go false same = refl

    closed_map : after ≡ shut before n (get before n)
    closed_map = same_map nat_cmp_total nat_cmp-IsAntisymmetric after (shut before n (get before n)) (λ q. known-after q ∙ shut_so q (get before n) refl)

    closed_read : list_all is_account xs ≡ true → list_all is_account (update_where closes (λ a. record a { closed = 1 }) xs) ≡ true
    closed_read all = go xs all
      where
        one : (a : Account) (b : Bool) → is_account a ≡ true → is_account (cond b (record a { closed = 1 }) a) ≡ true
        one a true read = λ i. first_of_both (is_act a.number) _ read i && (first_of_both (reads (holder_reading a.holder)) (nat_le a.closed 1) (second_of_both (is_act a.number) _ read) i && true)
        one a false read = read

        go : (ys : List Account) → list_all is_account ys ≡ true → list_all is_account (update_where closes (λ a. record a { closed = 1 }) ys) ≡ true
        go [] all = refl
        go (y ∷ ys) all = λ i. one y (closes y) (first_of_both (is_account y) _ all) i && go ys (second_of_both (is_account y) (list_all is_account ys) all) i

pub closing_acted : (t : Tables) → AreKept t → (x : CloseAccount) → IsActed t (change.with_closed t x.account) (with_closed (state_of t) x)
unfolding state_of with_closed
closing_acted t kept x =
    quiet t (change.with_closed t x.account) (with_closed (state_of t) x) kept refl refl refl refl refl refl refl refl (λ at i. record (beside at (state_of t)) { accounts = closed_map x.account t.accounts i })
    (with_accounts t kept.readable (update_where (closes x.account) (λ a. record a { closed = 1 }) t.accounts) (closed_read x.account t.accounts kept.readable.accounts))
