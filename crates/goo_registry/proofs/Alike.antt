-- States that agree on an account answer alike.
use Rattle.std.proofs.Common.{◌≡◌, ◌==◌, ℕ, Bool, true, false, cond, List, [], ◌∷◌, Option, Some, None, Result, Ok, Err, refl, sym, ap, ◌∙◌, subst}
use Rattle.std.specs.Prelude.{◌||◌, nat_le, Vec}
use Rattle.std.specs.FinMap.{get, contains_key}
use Rattle.std.specs.Global.{Global}
use Rattle.std.proofs.lemmas.Slice.Eq.{bytes_eq-Decides}
use Rattle.std.proofs.lemmas.Bool.{true≢false, eq-eqb}
use Rattle.goo_types.specs.Place.{account_of}
use Rattle.goo_types.specs.Piece.{Label}
use Rattle.goo_types.specs.declared.piece.Piece.{Piece}
use Rattle.goo_spec.specs.Checks.{is_issuer, is_holder}
use Rattle.goo_spec.specs.Runs.{AreRunsOf}
use Rattle.goo_spec.specs.Sound.{IsSound}
use Rattle.goo_spec.specs.State.{State, Account, Cancellation, Sent}
use Rattle.goo_spec.proofs.Mapping.{inside, none_some}
use Rattle.goo_spec.proofs.Unique.{one_list_of_runs}
use Rattle.goo_spec_laws.specs.Agree.{AgreeOn, its_certificate, its_cancellation, its_notice}
use Rattle.goo_spec_runs.specs.NextRun.{from_of, above, IsNextRun}
use Rattle.goo_core_reads.specs.Reads.{may_see, kept_if, kept_where, names}
use Rattle.goo_core_reads.specs.declared.denial.Denial.{Denial}
use Rattle.goo_core_reads.specs.declared.denial.Denial.TheVariants.{NotAllowed, Unknown}
use Rattle.goo_registry.specs.Reads.{place_shown, is_known_caller, shown_to, sent_shown, notice_shown, account_denial, holder_shown, is_cancelled_by, AreHoldings, IsCancellationDenied, IsCancellationShown}
use Rattle.goo_registry_reads.specs.AccountReads.{IsHeadingShown, IsNextRunShown}
use Rattle.goo_registry.specs.Alike.{SameRuns, SameCancellation, EqualReads}
use Rattle.goo_registry_reads.specs.declared.heading.Heading.{Heading}
use Rattle.goo_registry.specs.declared.cancellation_statement.CancellationStatement.{CancellationStatement}
use Rattle.goo_registry.proofs.Keeping.{kept-both}

-- ---- from what agrees to what is read

its_kept : (account : ℕ) (o : Option Label) → kept_if (names account) o ≡ its_certificate account o
its_kept account None = refl
its_kept account (Some known) = refl

-- where one state has a record of the account, so has the other
if_some : {X : Type 0} (b : Bool) (x y : X) → cond b (Some x) None ≡ Some y → Some x ≡ Some y
if_some true x y is = is
if_some false x y is = none_some y is

there_certificate : (account : ℕ) (o : Option Label) (known : Label) → its_certificate account o ≡ Some known → o ≡ Some known
there_certificate account None known is = none_some known is
there_certificate account (Some other) known is = if_some (account_of other.1 == account) other known is

there_cancellation : (account : ℕ) (o : Option Cancellation) (x : Cancellation) → its_cancellation account o ≡ Some x → o ≡ Some x
there_cancellation account None x is = none_some x is
there_cancellation account (Some y) x is = if_some (y.account == account) y x is

there_notice : (account : ℕ) (o : Option Sent) (x : Sent) → its_notice account o ≡ Some x → o ≡ Some x
there_notice account None x is = none_some x is
there_notice account (Some y) x is = if_some (y.account == account) y x is

mine : {X : Type 0} (a account : ℕ) (x : X) → a ≡ account → cond (a == account) (Some x) None ≡ Some x
mine a account x is = ap (λ b. cond b (Some x) None) (eq-eqb a account is)

module _ (account : ℕ) (s t : State) (agree : AgreeOn account s t) where
  pub agree_named : (n : ℕ) → kept_where (names account) (get s.at) n ≡ kept_where (names account) (get t.at) n
  agree_named n = its_kept account (get s.at n) ∙ sym (agree.certificates n) ∙ sym (its_kept account (get t.at n))

  pub agree_cancelled : (act n : ℕ) → kept_where (is_cancelled_by account act) (get s.at) n ≡ kept_where (is_cancelled_by account act) (get t.at) n
  agree_cancelled act n = sym (kept-both account act (get s.at n)) ∙ ap (kept_if (is_cancelled_by account act)) (agree_named n) ∙ kept-both account act (get t.at n)

  pub same_cancellation : (act : ℕ) (x : Cancellation) → get s.cancellations act ≡ Some x → x.account ≡ account → get t.cancellations act ≡ Some x
  same_cancellation act x is its =
      there_cancellation account (get t.cancellations act) x (agree.cancellations act ∙ ap (its_cancellation account) is ∙ mine x.account account x its)

  same_sent : (act : ℕ) (x : Sent) → get s.sent act ≡ Some x → x.account ≡ account → get t.sent act ≡ Some x
  same_sent act x is its = there_notice account (get t.sent act) x (agree.notices act ∙ ap (its_notice account) is ∙ mine x.account account x its)

  same_certificate : (n : ℕ) (known : Label) → get s.at n ≡ Some known → account_of known.1 ≡ account → get t.at n ≡ Some known
  same_certificate n known is its =
      there_certificate account (get t.at n) known (agree.certificates n ∙ ap (its_certificate account) is ∙ mine (account_of known.1) account known its)

-- ---- maximal runs

same_list : (f g : ℕ → Option Label) (ps qs : List Piece) → ((n : ℕ) → f n ≡ g n) → AreRunsOf f ps → AreRunsOf g qs → ps ≡ qs
same_list f g ps qs same one other = one_list_of_runs g ps qs (record { rising = one.rising; maximal = one.maximal; same = λ n. one.same n ∙ same n }) other

first_of_both : (p q : Piece) (ps qs : List Piece) → p ∷ ps ≡ q ∷ qs → p ≡ q
first_of_both p q ps qs is = cc

same_next : (f g : ℕ → Option Label) (from : ℕ) (a b : Option Piece) → ((n : ℕ) → f n ≡ g n) → IsNextRun f from a → IsNextRun g from b → a ≡ b
same_next f g from None None same one other = refl
same_next f g from None (Some q) same one other =
    let clash : [] ≡ q ∷ other.0 = same_list (above from f) (above from g) [] (q ∷ other.0) (λ n. ap (λ o. cond (nat_le from n) o None) (same n)) one other.1 in
    absurd (cc)
same_next f g from (Some p) None same one other =
    let clash : p ∷ one.0 ≡ [] = same_list (above from f) (above from g) (p ∷ one.0) [] (λ n. ap (λ o. cond (nat_le from n) o None) (same n)) one.1 other in
    absurd (cc)
same_next f g from (Some p) (Some q) same one other =
    ap Some (first_of_both p q one.0 other.0 (same_list (above from f) (above from g) (p ∷ one.0) (q ∷ other.0) (λ n. ap (λ o. cond (nat_le from n) o None) (same n)) one.1 other.1))

-- ---- who may see it

denied_alike : (caller : List ℕ) (a b : Option Account) (d e : Denial) → b ≡ a → account_denial caller a ≡ Some d → account_denial caller b ≡ Some e → d ≡ e
denied_alike caller a b d e row one other = inside d e (sym one ∙ ap (account_denial caller) (sym row) ∙ other)

never : {P : Type 0} (caller : List ℕ) (a b : Option Account) (d : Denial) → b ≡ a → account_denial caller a ≡ None → account_denial caller b ≡ Some d → P
never caller a b d row one other = none_some d (sym one ∙ ap (account_denial caller) (sym row) ∙ other)

holds_one : (caller : List ℕ) (s : State) (account : ℕ) (o : Option Account) → get s.accounts account ≡ o → IsSound s → is_holder caller o ≡ true → contains_key s.holders caller ≡ true
holds_one caller s account None is sound holder = absurd (true≢false (sym holder))
holds_one caller s account (Some row) is sound holder = ap (contains_key s.holders) (sym ((bytes_eq-Decides row.holder caller).0 holder)) ∙ sound.holders.holder account row is

either_known : (a b c : Bool) → (b ≡ true → c ≡ true) → (a || b) ≡ true → (a || c) ≡ true
either_known true b c so is = refl
either_known false b c so is = so is

known_caller : (caller : List ℕ) (s : State) (account : ℕ) → IsSound s → may_see caller (get s.accounts account) ≡ true → is_known_caller s caller ≡ true
known_caller caller s account sound sees =
    either_known (is_issuer caller) (is_holder caller (get s.accounts account)) (contains_key s.holders caller) (holds_one caller s account (get s.accounts account) refl sound) sees

-- whoever may see the account is shown its certificates
shown_its : (caller : List ℕ) (s : State) (account n : ℕ) (known : Label) → IsSound s → may_see caller (get s.accounts account) ≡ true → get s.at n ≡ Some known → account_of known.1 ≡ account → place_shown s caller n ≡ Ok known
unfolding place_shown
shown_its caller s account n known sound sees is its =
    ap (λ b. cond b (shown_to s caller (get s.at n)) (Err NotAllowed)) (known_caller caller s account sound sees)
    ∙ ap (shown_to s caller) is
    ∙ ap (λ a. cond (may_see caller (get s.accounts a)) (Ok known) (Err Unknown)) its
    ∙ ap (λ b. cond b (Ok known) (Err Unknown)) sees

-- ---- a cancellation

ok_of_both : {T E : Type 0} (a b : T) (r : Result T E) → r ≡ Ok a → r ≡ Ok b → a ≡ b
ok_of_both a b r one other = let both = sym one ∙ other in cc

err_of_both : {T E : Type 0} (d e : E) (r : Result T E) → r ≡ Err d → r ≡ Err e → d ≡ e
err_of_both d e r one other = let both = sym one ∙ other in cc

ok_or_err : {T E P : Type 0} (a : T) (e : E) (r : Result T E) → r ≡ Ok a → r ≡ Err e → P
ok_or_err a e r one other = let clash = sym one ∙ other in absurd (cc)

-- what is shown of the account's cancellation, by its record
abbrev IsShownOf : State → List ℕ → ℕ → Cancellation → Result CancellationStatement Denial → Type 0
IsShownOf s caller act x (Err denial) = holder_shown caller (get s.accounts x.account) ≡ Err denial
IsShownOf s caller act x (Ok shown) =
    (shown.record ≡ x) × (holder_shown caller (get s.accounts x.account) ≡ Ok shown.holder) × AreRunsOf (kept_where (is_cancelled_by x.account act) (get s.at)) shown.runs.items

shown_of : (s : State) (caller : List ℕ) (act : ℕ) (x : Cancellation) (answer : Result CancellationStatement Denial) → get s.cancellations act ≡ Some x → IsCancellationShown s caller act answer → IsShownOf s caller act x answer
shown_of s caller act x (Err denial) is shown = subst (λ (o : Option Cancellation). IsCancellationDenied s caller denial o) is shown
shown_of s caller act x (Ok answer) is shown =
    let same : answer.record ≡ x = inside answer.record x (sym shown.kept ∙ is) in (
      same,
      ap (λ (c : Cancellation). holder_shown caller (get s.accounts c.account)) (sym same) ∙ shown.holder,
      subst (λ (c : Cancellation). AreRunsOf (kept_where (is_cancelled_by c.account act) (get s.at)) answer.runs.items) same shown.runs,
    )

module _ (account : ℕ) (s t : State) (agree : AgreeOn account s t) where
  pub same_row : (x : Cancellation) → x.account ≡ account → get t.accounts x.account ≡ get s.accounts x.account
  same_row x its = ap (get t.accounts) its ∙ agree.row ∙ sym (ap (get s.accounts) its)

  shown_there : (caller : List ℕ) (x : Cancellation) → x.account ≡ account → (r : Result (List ℕ) Denial) → holder_shown caller (get t.accounts x.account) ≡ r → holder_shown caller (get s.accounts x.account) ≡ r
  shown_there caller x its r is = ap (holder_shown caller) (sym (same_row x its)) ∙ is

  pub took_alike : (act : ℕ) (x : Cancellation) → x.account ≡ account → (n : ℕ) → kept_where (is_cancelled_by x.account act) (get s.at) n ≡ kept_where (is_cancelled_by x.account act) (get t.at) n
  took_alike act x its n = subst (λ (a : ℕ). kept_where (is_cancelled_by a act) (get s.at) n ≡ kept_where (is_cancelled_by a act) (get t.at) n) (sym its) (agree_cancelled account s t agree act n)

  cancellation_by : (caller : List ℕ) (act : ℕ) (x : Cancellation) (one other : Result CancellationStatement Denial) → x.account ≡ account
      → IsShownOf s caller act x one → IsShownOf t caller act x other → SameCancellation one other
  cancellation_by caller act x (Ok a) (Ok b) its first second = (
    first.0 ∙ sym second.0,
    ok_of_both a.holder b.holder (holder_shown caller (get s.accounts x.account)) first.1 (shown_there caller x its (Ok b.holder) second.1),
    same_list _ _ a.runs.items b.runs.items (took_alike act x its) first.2 second.2,
  )
  cancellation_by caller act x (Ok a) (Err e) its first second = ok_or_err a.holder e (holder_shown caller (get s.accounts x.account)) first.1 (shown_there caller x its (Err e) second)
  cancellation_by caller act x (Err d) (Ok b) its first second = ok_or_err b.holder d (holder_shown caller (get s.accounts x.account)) (shown_there caller x its (Ok b.holder) second.1) first
  cancellation_by caller act x (Err d) (Err e) its first second = err_of_both d e (holder_shown caller (get s.accounts x.account)) first (shown_there caller x its (Err e) second)

  -- ---- the other reads

  heading_by : (caller : List ℕ) (one other : Result Heading Denial) → t.today ≡ s.today → IsHeadingShown s caller account one → IsHeadingShown t caller account other → one ≡ other
  heading_by caller (Ok a) (Ok b) day first second =
      let row = inside _ _ (sym first.1.row ∙ sym agree.row ∙ second.1.row) in
      λ i. Ok (record {
        code = (first.1.code ∙ sym agree.code ∙ sym second.1.code) i;
        today = (first.1.today ∙ sym day ∙ sym second.1.today) i;
        account = (first.1.number ∙ sym second.1.number) i;
        holder = (row i).holder;
        closed = (row i).closed;
      })
  heading_by caller (Ok a) (Err e) day first second = never caller (get s.accounts account) (get t.accounts account) e agree.row first.0 second
  heading_by caller (Err d) (Ok b) day first second = never caller (get t.accounts account) (get s.accounts account) d (sym agree.row) second.0 first
  heading_by caller (Err d) (Err e) day first second = ap Err (denied_alike caller (get s.accounts account) (get t.accounts account) d e agree.row first second)

  holdings_by : (caller : List ℕ) (one other : Result (Vec Piece Global) Denial) → AreHoldings s caller account one → AreHoldings t caller account other → SameRuns one other
  holdings_by caller (Ok a) (Ok b) first second = same_list (kept_where (names account) (get s.at)) (kept_where (names account) (get t.at)) a.items b.items (agree_named account s t agree) first.1 second.1
  holdings_by caller (Ok a) (Err e) first second = never caller (get s.accounts account) (get t.accounts account) e agree.row first.0 second
  holdings_by caller (Err d) (Ok b) first second = never caller (get t.accounts account) (get s.accounts account) d (sym agree.row) second.0 first
  holdings_by caller (Err d) (Err e) first second = denied_alike caller (get s.accounts account) (get t.accounts account) d e agree.row first second

  next_by : (caller : List ℕ) (after : Option ℕ) (one other : Result (Option Piece) Denial) → IsNextRunShown s caller account after one → IsNextRunShown t caller account after other → one ≡ other
  next_by caller after (Ok a) (Ok b) first second =
      ap Ok (same_next (kept_where (names account) (get s.at)) (kept_where (names account) (get t.at)) (from_of after) a b (agree_named account s t agree) first.1 second.1)
  next_by caller after (Ok a) (Err e) first second = never caller (get s.accounts account) (get t.accounts account) e agree.row first.0 second
  next_by caller after (Err d) (Ok b) first second = never caller (get t.accounts account) (get s.accounts account) d (sym agree.row) second.0 first
  next_by caller after (Err d) (Err e) first second = ap Err (denied_alike caller (get s.accounts account) (get t.accounts account) d e agree.row first second)

  notice_by : (caller : List ℕ) (act : ℕ) (x : Sent) → get s.sent act ≡ Some x → x.account ≡ account → notice_shown s caller act ≡ notice_shown t caller act
  unfolding notice_shown
  notice_by caller act x is its =
      ap (sent_shown s caller) is
      ∙ ap (λ o. cond (may_see caller o) (Ok x.notice) (Err NotAllowed)) (ap (get s.accounts) its ∙ sym agree.row ∙ sym (ap (get t.accounts) its))
      ∙ sym (ap (sent_shown t caller) (same_sent account s t agree act x is its))

pub equal_reads : EqualReads
equal_reads account s t sound sound_too agree = record {
  heading = λ caller one other day first second. heading_by account s t agree caller one other day first second;
  holdings = λ caller one other first second. holdings_by account s t agree caller one other first second;
  next_run = λ caller after one other first second. next_by account s t agree caller after one other first second;
  cancellation = λ caller act x one other is its first second.
      cancellation_by account s t agree caller act x one other its (shown_of s caller act x one is first) (shown_of t caller act x other (same_cancellation account s t agree act x is its) second);
  notice = λ caller act x is its. notice_by account s t agree caller act x is its;
  certificate = λ caller n known sees is its.
      shown_its caller s account n known sound sees is its
      ∙ sym (shown_its caller t account n known sound_too (ap (may_see caller) agree.row ∙ sees) (same_certificate account s t agree n known is its) its);
}
