-- What a holder is answered depends on its accounts alone.
use Rattle.std.proofs.Common.{◌≡◌, ◌∙◌, ◌⊎◌, ℕ, Bool, true, false, cond, List, Option, Some, None, Result, Ok, Err, refl, sym, ap, inl, inr, ⊎_elim}
use Rattle.std.specs.Prelude.{◌||◌}
use Rattle.std.specs.FinMap.{get, contains_key}
use Rattle.std.proofs.lemmas.Bool.{true≢false}
use Rattle.goo_types.specs.Place.{account_of}
use Rattle.goo_types.specs.Piece.{Label}
use Rattle.goo_spec.specs.Checks.{is_issuer, is_holder}
use Rattle.goo_spec.specs.State.{State, Account, Cancellation, Sent}
use Rattle.goo_core_reads.specs.Reads.{may_see}
use Rattle.goo_core_reads.specs.declared.denial.Denial.{Denial}
use Rattle.goo_core_reads.specs.declared.denial.Denial.TheVariants.{NotAllowed, Unknown}
use Rattle.goo_registry.specs.Reads.{is_known_caller, shown_to, place_shown, sent_shown, notice_shown, account_denial, absent_denial, holder_shown}
use Rattle.goo_files.specs.Texts.{IsStatement, IsDocument, IsAuditText, audit_denial, cancellation_denial, denial_by, denial_in}
use Rattle.goo_desk_responses.specs.Responses.{response_text}
use Rattle.goo_desk_routes.specs.declared.task.Subject.{Subject}
use Rattle.goo_desk_routes.specs.declared.task.Subject.TheVariants.{Statement, Certificate, Cancellation as Document, Notice, Audit}
use Rattle.goo_desk_backend.specs.Showing.{shown_by, certificate_as_text, notice_as_text}
use Rattle.goo_desk_answers.specs.Responds.{show_response}
use Rattle.goo_desk_independent.specs.Holder.{AgreeOnHolder, HoldersSeeTheirOwn, OutsideIsUnknown, IsOutside}
use Rattle.goo_desk_independent.proofs.Responding.{answer_alike, denied_alike, shown_in}
use Rattle.goo_desk_independent.proofs.Accounts.{statement_alike, document_alike, certificate_back, cancellation_back, sent_back, same_certificate, same_sent}

-- ---- one who isn't the issuing body sees what it holds

module _ (holder : List ℕ) (other : is_issuer holder ≡ false) where
  sees_by : (o : Option Account) → may_see holder o ≡ is_holder holder o
  sees_by o = ap (λ b. b || is_holder holder o) other

  absent : absent_denial holder ≡ NotAllowed
  absent = ap (λ b. cond b Unknown NotAllowed) other

  -- another's account is denied, be it there or not
  account_denied : (o : Option Account) → is_holder holder o ≡ false → account_denial holder o ≡ Some NotAllowed
  account_denied None mine = ap Some absent
  account_denied (Some row) mine = ap (λ b. cond b None (Some NotAllowed)) (sees_by (Some row) ∙ mine)

  holder_denied : (o : Option Account) → is_holder holder o ≡ false → holder_shown holder o ≡ Err NotAllowed
  holder_denied None mine = ap Err absent
  holder_denied (Some row) mine = ap (λ b. cond b (Ok row.holder) (Err NotAllowed)) (sees_by (Some row) ∙ mine)

  -- its own, or another's
  whose : {P : Type 0} (b : Bool) → (b ≡ true → P) → (b ≡ false → P) → P
  whose true own others = own refl
  whose false own others = others refl

  -- ---- a certificate

  -- it has the certificate in an account of its own
  record Has (s : State) (n : ℕ) : Type 0 where
    known : Label
    is : get s.at n ≡ Some known
    own : is_holder holder (get s.accounts (account_of known.1)) ≡ true

  has_or : (s : State) (n : ℕ) (o : Option Label) → get s.at n ≡ o → Has s n ⊎ (shown_to s holder o ≡ Err Unknown)
  has_or s n None is = inr refl
  has_or s n (Some known) is =
      let o = get s.accounts (account_of known.1) in
      whose (is_holder holder o) (λ own. inl (record { known = known; is = is; own = own })) (λ mine. inr (ap (λ b. cond b (Ok known) (Err Unknown)) (sees_by o ∙ mine)))

  has : (s : State) (n : ℕ) → Has s n ⊎ (shown_to s holder (get s.at n) ≡ Err Unknown)
  has s n = has_or s n (get s.at n) refl

  its_shown : (s : State) (n : ℕ) (known : Label) → get s.at n ≡ Some known → is_holder holder (get s.accounts (account_of known.1)) ≡ true → shown_to s holder (get s.at n) ≡ Ok known
  its_shown s n known is own = ap (shown_to s holder) is ∙ ap (λ b. cond b (Ok known) (Err Unknown)) (sees_by (get s.accounts (account_of known.1)) ∙ own)

  module _ (s t : State) (agree : AgreeOnHolder holder s t) where
    from_first : (n : ℕ) → Has s n → shown_to s holder (get s.at n) ≡ shown_to t holder (get t.at n)
    from_first n h =
        let both = agree.accounts (account_of h.known.1) (inl h.own) in
        its_shown s n h.known h.is h.own
        ∙ sym (its_shown t n h.known (same_certificate (account_of h.known.1) s t both n h.known h.is refl) (ap (is_holder holder) both.row ∙ h.own))

    from_second : (n : ℕ) → Has t n → shown_to s holder (get s.at n) ≡ shown_to t holder (get t.at n)
    from_second n h =
        let both = agree.accounts (account_of h.known.1) (inr h.own) in
        its_shown s n h.known (certificate_back (account_of h.known.1) s t both n h.known h.is refl) (sym (ap (is_holder holder) both.row) ∙ h.own)
        ∙ sym (its_shown t n h.known h.is h.own)

    certificates : (n : ℕ) → shown_to s holder (get s.at n) ≡ shown_to t holder (get t.at n)
    certificates n = ⊎_elim (from_first n) (λ none. ⊎_elim (from_second n) (λ none_too. none ∙ sym none_too) (has t n)) (has s n)

    known_alike : is_known_caller s holder ≡ is_known_caller t holder
    known_alike = ap (λ b. is_issuer holder || b) (sym agree.known)

    places : (n : ℕ) → place_shown s holder n ≡ place_shown t holder n
    unfolding place_shown
    places n = λ i. cond (known_alike i) (certificates n i) (Err NotAllowed)

  -- ---- a notice

  record HasSent (s : State) (act : ℕ) : Type 0 where
    sent : Sent
    is : get s.sent act ≡ Some sent
    own : is_holder holder (get s.accounts sent.account) ≡ true

  sent_or : (s : State) (act : ℕ) (o : Option Sent) → get s.sent act ≡ o → HasSent s act ⊎ (sent_shown s holder o ≡ Err NotAllowed)
  sent_or s act None is = inr (ap Err absent)
  sent_or s act (Some sent) is =
      let o = get s.accounts sent.account in
      whose (is_holder holder o) (λ own. inl (record { sent = sent; is = is; own = own })) (λ mine. inr (ap (λ b. cond b (Ok sent.notice) (Err NotAllowed)) (sees_by o ∙ mine)))

  its_sent : (s : State) (act : ℕ) (sent : Sent) → get s.sent act ≡ Some sent → is_holder holder (get s.accounts sent.account) ≡ true → sent_shown s holder (get s.sent act) ≡ Ok sent.notice
  its_sent s act sent is own = ap (sent_shown s holder) is ∙ ap (λ b. cond b (Ok sent.notice) (Err NotAllowed)) (sees_by (get s.accounts sent.account) ∙ own)

  module _ (s t : State) (agree : AgreeOnHolder holder s t) where
    sent_first : (act : ℕ) → HasSent s act → sent_shown s holder (get s.sent act) ≡ sent_shown t holder (get t.sent act)
    sent_first act h =
        let both = agree.accounts h.sent.account (inl h.own) in
        its_sent s act h.sent h.is h.own ∙ sym (its_sent t act h.sent (same_sent h.sent.account s t both act h.sent h.is refl) (ap (is_holder holder) both.row ∙ h.own))

    sent_second : (act : ℕ) → HasSent t act → sent_shown s holder (get s.sent act) ≡ sent_shown t holder (get t.sent act)
    sent_second act h =
        let both = agree.accounts h.sent.account (inr h.own) in
        its_sent s act h.sent (sent_back h.sent.account s t both act h.sent h.is refl) (sym (ap (is_holder holder) both.row) ∙ h.own) ∙ sym (its_sent t act h.sent h.is h.own)

    notices : (act : ℕ) → notice_shown s holder act ≡ notice_shown t holder act
    unfolding notice_shown
    notices act = ⊎_elim (sent_first act) (λ none. ⊎_elim (sent_second act) (λ none_too. none ∙ sym none_too) (sent_or t act (get t.sent act) refl)) (sent_or s act (get s.sent act) refl)

  -- ---- a cancellation

  record HasCancelled (s : State) (act : ℕ) : Type 0 where
    cancellation : Cancellation
    is : get s.cancellations act ≡ Some cancellation
    own : is_holder holder (get s.accounts cancellation.account) ≡ true

  cancelled_or : (s : State) (act : ℕ) (o : Option Cancellation) → get s.cancellations act ≡ o → HasCancelled s act ⊎ (denial_by s holder o ≡ Some NotAllowed)
  cancelled_or s act None is = inr (ap Some absent)
  cancelled_or s act (Some x) is =
      let o = get s.accounts x.account in
      whose (is_holder holder o) (λ own. inl (record { cancellation = x; is = is; own = own })) (λ mine. inr (ap denial_in (holder_denied o mine)))

  -- ---- all that can be asked for

  module _ (s t : State) (day : t.today ≡ s.today) (agree : AgreeOnHolder holder s t) where
    statements : (account : ℕ) (x y : Result (List ℕ) Denial) → shown_by s holder (Statement account) x → shown_by t holder (Statement account) y → x ≡ y
    statements account x y p q =
        let one = get s.accounts account in
        let two = get t.accounts account in
        whose (is_holder holder one)
        (λ own. statement_alike account s t (agree.accounts account (inl own)) holder day x y p q)
        (λ mine. whose (is_holder holder two)
        (λ own. statement_alike account s t (agree.accounts account (inr own)) holder day x y p q)
        (λ mine_too. denied_alike NotAllowed (account_denial holder one) (account_denial holder two) (IsStatement s account) (IsStatement t account) (account_denied one mine) (account_denied two mine_too) x y p q))

    documents : (act : ℕ) (x y : Result (List ℕ) Denial) → shown_by s holder (Document act) x → shown_by t holder (Document act) y → x ≡ y
    documents act x y p q = ⊎_elim
        (λ (h : HasCancelled s act). document_alike h.cancellation.account s t (agree.accounts h.cancellation.account (inl h.own)) holder act h.cancellation h.is refl x y p q)
        (λ (none : denial_by s holder (get s.cancellations act) ≡ Some NotAllowed). ⊎_elim
        (λ (h : HasCancelled t act).
        let both = agree.accounts h.cancellation.account (inr h.own) in
        document_alike h.cancellation.account s t both holder act h.cancellation (cancellation_back h.cancellation.account s t both act h.cancellation h.is refl) refl x y p q)
        (λ (none_too : denial_by t holder (get t.cancellations act) ≡ Some NotAllowed).
        denied_alike NotAllowed (cancellation_denial s holder act) (cancellation_denial t holder act) (IsDocument s act) (IsDocument t act) none none_too x y p q)
        (cancelled_or t act (get t.cancellations act) refl))
        (cancelled_or s act (get s.cancellations act) refl)

    audit_denied : audit_denial holder ≡ Some NotAllowed
    audit_denied = ap (λ b. cond b None (Some NotAllowed)) other

    one_shown : (subject : Subject) (x y : Result (List ℕ) Denial) → shown_by s holder subject x → shown_by t holder subject y → x ≡ y
    one_shown (Statement account) x y p q = statements account x y p q
    one_shown (Certificate n) x y p q = p ∙ ap (certificate_as_text n) (places s t agree n) ∙ sym q
    one_shown (Document act) x y p q = documents act x y p q
    one_shown (Notice act) x y p q = p ∙ ap notice_as_text (notices s t agree act) ∙ sym q
    one_shown Audit x y p q = denied_alike NotAllowed (audit_denial holder) (audit_denial holder) (IsAuditText s) (IsAuditText t) audit_denied audit_denied x y p q

  -- ---- a certificate outside its accounts

  none_of_it : (s : State) (n : ℕ) → IsOutside holder s n → shown_to s holder (get s.at n) ≡ Err Unknown
  none_of_it s n outside = ⊎_elim (λ (h : Has s n). absurd (true≢false (sym h.own ∙ outside h.known h.is))) (λ (none : shown_to s holder (get s.at n) ≡ Err Unknown). none) (has s n)

  unknown_place : (s : State) (n : ℕ) → contains_key s.holders holder ≡ true → IsOutside holder s n → place_shown s holder n ≡ Err Unknown
  unfolding place_shown
  unknown_place s n known outside = ap (λ b. cond (b || contains_key s.holders holder) (shown_to s holder (get s.at n)) (Err NotAllowed)) other
      ∙ ap (λ b. cond b (shown_to s holder (get s.at n)) (Err NotAllowed)) known ∙ none_of_it s n outside

pub holders_see_their_own : HoldersSeeTheirOwn
holders_see_their_own holder s t other day agree bytes subject asks = answer_alike s t bytes holder subject asks (one_shown holder other s t day agree subject)

pub outside_is_unknown : OutsideIsUnknown
outside_is_unknown holder s n bytes status text other known outside asks answers =
    let (shown, is, given) = shown_in s bytes holder (Certificate n) status text asks answers in
    let same : shown ≡ Err Unknown = is ∙ ap (certificate_as_text n) (unknown_place holder other s n known outside) in (
      given.status ∙ ap (λ (r : Result (List ℕ) Denial). (show_response (Certificate n) r).status) same,
      given.text ∙ ap (λ (r : Result (List ℕ) Denial). response_text false (show_response (Certificate n) r)) same,
    )
