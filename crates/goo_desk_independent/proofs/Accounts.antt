-- States that agree on an account answer alike of it.
use Rattle.std.proofs.Common.{◌≡◌, ◌∙◌, ◌==◌, ℕ, Bool, true, false, cond, List, Option, Some, None, Result, Ok, Err, refl, sym, ap}
use Rattle.std.specs.Prelude.{◌||◌}
use Rattle.std.specs.FinMap.{get, contains_key}
use Rattle.std.proofs.lemmas.Bool.{true≢false, eq-eqb}
use Rattle.std.proofs.lemmas.Slice.Eq.{bytes_eq-Decides}
use Rattle.goo_types.specs.Day.{CalendarDay}
use Rattle.goo_types.specs.Place.{account_of}
use Rattle.goo_types.specs.Piece.{Label}
use Rattle.goo_spec.specs.Advance.{with_day}
use Rattle.goo_spec.specs.Checks.{is_issuer, is_holder}
use Rattle.goo_spec.specs.Run.{final}
use Rattle.goo_spec.specs.Sound.{IsSound}
use Rattle.goo_spec.specs.State.{State, Account, Cancellation, Sent}
use Rattle.goo_spec.proofs.Mapping.{none_some}
use Rattle.goo_spec.proofs.Stepping.{sound_final}
use Rattle.goo_spec_laws.specs.Agree.{AgreeOn, its_certificate, its_cancellation, its_notice}
use Rattle.goo_spec_laws.specs.Independent.{on_day}
use Rattle.goo_spec_laws.proofs.AccountLists.{independent}
use Rattle.goo_core_reads.specs.Reads.{may_see}
use Rattle.goo_core_reads.specs.declared.denial.Denial.{Denial}
use Rattle.goo_core_reads.specs.declared.denial.Denial.TheVariants.{NotAllowed, Unknown}
use Rattle.goo_registry.specs.Reads.{is_known_caller, shown_to, place_shown, sent_shown, notice_shown, account_denial, holder_shown}
use Rattle.goo_registry.proofs.Alike.{same_cancellation, same_row}
use Rattle.goo_files.proofs.Agreeing.{equal_texts}
use Rattle.goo_files.specs.Texts.{IsStatement, IsDocument, cancellation_denial, denial_by, denial_in}
use Rattle.goo_desk_routes.specs.declared.task.Subject.TheVariants.{Statement, Certificate, Cancellation as Document, Notice}
use Rattle.goo_desk_backend.specs.Showing.{shown_by, certificate_as_text, notice_as_text}
use Rattle.goo_desk_independent.specs.Account.{RespondAlike, EqualResponses, OthersLeaveResponses}
use Rattle.goo_desk_independent.proofs.Responding.{answer_alike, text_alike}

-- ---- where one state has something of the account, so has the other

if_some : {X : Type 0} (b : Bool) (x y : X) → cond b (Some x) None ≡ Some y → Some x ≡ Some y
if_some true x y is = is
if_some false x y is = none_some y is

mine : {X : Type 0} (a account : ℕ) (x : X) → a ≡ account → cond (a == account) (Some x) None ≡ Some x
mine a account x is = ap (λ b. cond b (Some x) None) (eq-eqb a account is)

there_certificate : (account : ℕ) (o : Option Label) (known : Label) → its_certificate account o ≡ Some known → o ≡ Some known
there_certificate account None known is = none_some known is
there_certificate account (Some other) known is = if_some (account_of other.1 == account) other known is

there_cancellation : (account : ℕ) (o : Option Cancellation) (x : Cancellation) → its_cancellation account o ≡ Some x → o ≡ Some x
there_cancellation account None x is = none_some x is
there_cancellation account (Some y) x is = if_some (y.account == account) y x is

there_notice : (account : ℕ) (o : Option Sent) (x : Sent) → its_notice account o ≡ Some x → o ≡ Some x
there_notice account None x is = none_some x is
there_notice account (Some y) x is = if_some (y.account == account) y x is

module _ (account : ℕ) (s t : State) (agree : AgreeOn account s t) where
  pub same_certificate : (n : ℕ) (known : Label) → get s.at n ≡ Some known → account_of known.1 ≡ account → get t.at n ≡ Some known
  same_certificate n known is its = there_certificate account (get t.at n) known (agree.certificates n ∙ ap (its_certificate account) is ∙ mine (account_of known.1) account known its)

  pub certificate_back : (n : ℕ) (known : Label) → get t.at n ≡ Some known → account_of known.1 ≡ account → get s.at n ≡ Some known
  certificate_back n known is its = there_certificate account (get s.at n) known (sym (agree.certificates n) ∙ ap (its_certificate account) is ∙ mine (account_of known.1) account known its)

  pub same_sent : (act : ℕ) (x : Sent) → get s.sent act ≡ Some x → x.account ≡ account → get t.sent act ≡ Some x
  same_sent act x is its = there_notice account (get t.sent act) x (agree.notices act ∙ ap (its_notice account) is ∙ mine x.account account x its)

  pub sent_back : (act : ℕ) (x : Sent) → get t.sent act ≡ Some x → x.account ≡ account → get s.sent act ≡ Some x
  sent_back act x is its = there_notice account (get s.sent act) x (sym (agree.notices act) ∙ ap (its_notice account) is ∙ mine x.account account x its)

  pub cancellation_back : (act : ℕ) (x : Cancellation) → get t.cancellations act ≡ Some x → x.account ≡ account → get s.cancellations act ≡ Some x
  cancellation_back act x is its = there_cancellation account (get s.cancellations act) x (sym (agree.cancellations act) ∙ ap (its_cancellation account) is ∙ mine x.account account x its)

-- ---- who is known

holds_one : (caller : List ℕ) (s : State) (account : ℕ) (o : Option Account) → get s.accounts account ≡ o → IsSound s → is_holder caller o ≡ true → contains_key s.holders caller ≡ true
holds_one caller s account None is sound holder = absurd (true≢false (sym holder))
holds_one caller s account (Some row) is sound holder = ap (contains_key s.holders) (sym ((bytes_eq-Decides row.holder caller).0 holder)) ∙ sound.holders.holder account row is

either_known : (a b c : Bool) → (b ≡ true → c ≡ true) → (a || b) ≡ true → (a || c) ≡ true
either_known true b c so is = refl
either_known false b c so is = so is

-- whoever may see an account
pub known_caller : (caller : List ℕ) (s : State) (account : ℕ) → IsSound s → may_see caller (get s.accounts account) ≡ true → is_known_caller s caller ≡ true
known_caller caller s account sound sees =
    either_known (is_issuer caller) (is_holder caller (get s.accounts account)) (contains_key s.holders caller) (holds_one caller s account (get s.accounts account) refl sound) sees

-- a known caller who may see the account is shown its certificates
pub shown_its : (caller : List ℕ) (s : State) (account n : ℕ) (known : Label) → is_known_caller s caller ≡ true → may_see caller (get s.accounts account) ≡ true → get s.at n ≡ Some known → account_of known.1 ≡ account
    → place_shown s caller n ≡ Ok known
unfolding place_shown
shown_its caller s account n known is_known sees is its =
    ap (λ b. cond b (shown_to s caller (get s.at n)) (Err NotAllowed)) is_known
    ∙ ap (shown_to s caller) is
    ∙ ap (λ a. cond (may_see caller (get s.accounts a)) (Ok known) (Err Unknown)) its
    ∙ ap (λ b. cond b (Ok known) (Err Unknown)) sees

-- ---- what is shown of the account

module _ (account : ℕ) (s t : State) (agree : AgreeOn account s t) where
  pub statement_alike : (caller : List ℕ) → t.today ≡ s.today → (x y : Result (List ℕ) Denial) → shown_by s caller (Statement account) x → shown_by t caller (Statement account) y → x ≡ y
  statement_alike caller day x y p q =
      text_alike (account_denial caller (get s.accounts account)) (account_denial caller (get t.accounts account)) (IsStatement s account) (IsStatement t account)
      (ap (account_denial caller) (sym agree.row)) (λ shown one other. (equal_texts account s t agree).statement one other day) x y p q

  document_denial : (caller : List ℕ) (act : ℕ) (x : Cancellation) → get s.cancellations act ≡ Some x → x.account ≡ account → cancellation_denial s caller act ≡ cancellation_denial t caller act
  document_denial caller act x is its =
      ap (denial_by s caller) is
      ∙ ap (λ o. denial_in (holder_shown caller o)) (sym (same_row account s t agree x its))
      ∙ sym (ap (denial_by t caller) (same_cancellation account s t agree act x is its))

  pub document_alike : (caller : List ℕ) (act : ℕ) (c : Cancellation) → get s.cancellations act ≡ Some c → c.account ≡ account
      → (x y : Result (List ℕ) Denial) → shown_by s caller (Document act) x → shown_by t caller (Document act) y → x ≡ y
  document_alike caller act c is its x y p q =
      text_alike (cancellation_denial s caller act) (cancellation_denial t caller act) (IsDocument s act) (IsDocument t act)
      (document_denial caller act c is its) (λ shown one other. (equal_texts account s t agree).document act c one other is its) x y p q

  notice_shown_alike : (caller : List ℕ) (act : ℕ) (x : Sent) → get s.sent act ≡ Some x → x.account ≡ account → notice_shown s caller act ≡ notice_shown t caller act
  unfolding notice_shown
  notice_shown_alike caller act x is its =
      ap (sent_shown s caller) is
      ∙ ap (λ o. cond (may_see caller o) (Ok x.notice) (Err NotAllowed)) (ap (get s.accounts) its ∙ sym agree.row ∙ sym (ap (get t.accounts) its))
      ∙ sym (ap (sent_shown t caller) (same_sent account s t agree act x is its))

  pub notice_alike : (caller : List ℕ) (act : ℕ) (n : Sent) → get s.sent act ≡ Some n → n.account ≡ account
      → (x y : Result (List ℕ) Denial) → shown_by s caller (Notice act) x → shown_by t caller (Notice act) y → x ≡ y
  notice_alike caller act n is its x y p q = p ∙ ap notice_as_text (notice_shown_alike caller act n is its) ∙ sym q

  pub certificate_alike : (caller : List ℕ) (n : ℕ) (known : Label) → is_known_caller s caller ≡ true → is_known_caller t caller ≡ true → may_see caller (get s.accounts account) ≡ true
      → get s.at n ≡ Some known → account_of known.1 ≡ account → (x y : Result (List ℕ) Denial) → shown_by s caller (Certificate n) x → shown_by t caller (Certificate n) y → x ≡ y
  certificate_alike caller n known known_there known_too sees is its x y p q =
      let first = shown_its caller s account n known known_there sees is its in
      let second = shown_its caller t account n known known_too (ap (may_see caller) agree.row ∙ sees) (same_certificate account s t agree n known is its) its in
      p ∙ ap (certificate_as_text n) (first ∙ sym second) ∙ sym q

  -- whoever may see the account is known in both
  pub alike : ((caller : List ℕ) → may_see caller (get s.accounts account) ≡ true → is_known_caller s caller ≡ true) → ((caller : List ℕ) → may_see caller (get t.accounts account) ≡ true → is_known_caller t caller ≡ true)
      → AgreeOn account (record s { today = t.today }) t → RespondAlike account s t
  alike known_there known_too redated = record {
    statement = λ bytes caller asks day. answer_alike s t bytes caller (Statement account) asks (statement_alike caller day);
    redated = λ bytes caller asks. answer_alike (record s { today = t.today }) t bytes caller (Statement account) asks (λ x y p q.
        text_alike (account_denial caller (get s.accounts account)) (account_denial caller (get t.accounts account)) (IsStatement (record s { today = t.today }) account) (IsStatement t account)
        (ap (account_denial caller) (sym agree.row)) (λ shown one other. (equal_texts account (record s { today = t.today }) t redated).statement one other refl) x y p q);
    cancellation = λ bytes caller act c asks is its. answer_alike s t bytes caller (Document act) asks (document_alike caller act c is its);
    notice = λ bytes caller act n asks is its. answer_alike s t bytes caller (Notice act) asks (notice_alike caller act n is its);
    certificate = λ bytes caller n known asks sees is its.
        answer_alike s t bytes caller (Certificate n) asks
        (certificate_alike caller n known (known_there caller sees) (known_too caller (ap (may_see caller) agree.row ∙ sees)) sees is its);
  }

-- a state on another date agrees as well
on_date : (account : ℕ) (s t : State) → AgreeOn account s t → AgreeOn account (record s { today = t.today }) t
on_date account s t agree = record { code = agree.code; row = agree.row; certificates = agree.certificates; cancellations = agree.cancellations; notices = agree.notices }

pub equal_responses : EqualResponses
equal_responses account s t sound sound_too agree =
    alike account s t agree (λ caller sees. known_caller caller s account sound sees) (λ caller sees. known_caller caller t account sound_too sees) (on_date account s t agree)

-- moving the date leaves holders and accounts as they are
known_on_day : (caller : List ℕ) (s : State) (day : CalendarDay) (account : ℕ) → IsSound s → may_see caller (get (on_day s day).accounts account) ≡ true → is_known_caller (on_day s day) caller ≡ true
unfolding with_day
known_on_day caller s day account sound sees = known_caller caller s account sound sees

pub others_leave_responses : OthersLeaveResponses
others_leave_responses s qs account obey sound there others =
    let t = final s qs in
    let left = independent s qs obey sound in
    let sound_too = sound_final s qs obey sound in
    let dated = left.dated account there others in (
      alike account (on_day s t.today) t dated (λ caller sees. known_on_day caller s t.today account sound sees) (λ caller sees. known_caller caller t account sound_too sees) (on_date account (on_day s t.today) t dated),
      λ day. equal_responses account s t sound sound_too (left.same account there others day),
    )
