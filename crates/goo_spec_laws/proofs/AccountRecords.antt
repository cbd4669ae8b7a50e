-- What a request of others leaves of an account and of the records of its acts.
use Rattle.std.proofs.Common.{◌≡◌, ◌==◌, ℕ, Bool, true, false, cond, Option, Some, None, refl, sym, ap, ◌∙◌, arith}
use Rattle.std.specs.Prelude.{is_some}
use Rattle.std.specs.Ordering.{nat_cmp}
use Rattle.std.specs.Cmp.{nat_cmp_total}
use Rattle.std.specs.FinMap.{FinMap, get, insert, contains_key, nat_cmp-IsAntisymmetric}
use Rattle.std.proofs.lemmas.Bool.{true≢false, eqb-true, eq-eqb}
use Rattle.goo_types.specs.Range.{Numbers}
use Rattle.goo_types.specs.declared.command.Declare as declare
use Rattle.goo_types.specs.declared.command.Correct as correct
use Rattle.goo_types.specs.declared.command.Command.{Command}
use Rattle.goo_types.specs.declared.command.Command.TheVariants.{OpenHolder, OpenAccount, CloseAccount, RegisterDevice, Declare, Correct, Transfer, Cancel, Withdraw, Advance, AddPeer, Export, Import}
use Rattle.goo_types.specs.declared.request.Request.{Request}
use Rattle.goo_types.specs.declared.outcome.Outcome.{Outcome}
use Rattle.goo_types.specs.declared.outcome.Outcome.TheVariants.{Accepted, Repeated, Refused}
use Rattle.goo_spec.specs.State.{State, Account, Device}
use Rattle.goo_spec.specs.OpenHolder.{with_holder}
use Rattle.goo_spec.specs.OpenAccount.{with_account}
use Rattle.goo_spec.specs.CloseAccount.{shut, with_closed}
use Rattle.goo_spec.specs.RegisterDevice.{with_device}
use Rattle.goo_spec.specs.Declare.{with_declaration, issued_for, with_issue}
use Rattle.goo_spec.specs.Correct.{taken_out, with_correction}
use Rattle.goo_spec.specs.Transfer.{with_transfer}
use Rattle.goo_spec.specs.Cancel.{cancellation_of, with_cancellation}
use Rattle.goo_spec.specs.Withdraw.{with_withdrawal}
use Rattle.goo_spec.specs.Advance.{with_day}
use Rattle.goo_spec.specs.AddPeer.{with_peer}
use Rattle.goo_spec.specs.Export.{notice_of, with_export}
use Rattle.goo_spec.specs.Import.{with_import}
use Rattle.goo_spec.specs.Step.{changed, accept, outcome, after, next}
use Rattle.goo_spec.specs.Known.{is_accepted}
use Rattle.goo_spec.specs.Sound.{IsSound, AreBelow}
use Rattle.goo_spec.proofs.Mapping.{get_other, get_number}
use Rattle.goo_spec_laws.specs.Agree.{its_cancellation, its_notice}
use Rattle.goo_spec_laws.specs.Naming.{IsOfOthers}
use Rattle.goo_spec_laws.proofs.Certificates.{if_none}

-- the account's row, the records of its cancellations and its notices are what they were
pub record LeavesRecords (account : ℕ) (s t : State) : Type 0 where
  pub code : t.own ≡ s.own
  pub row : get t.accounts account ≡ get s.accounts account
  pub cancellations : (act : ℕ) → its_cancellation account (get t.cancellations act) ≡ its_cancellation account (get s.cancellations act)
  pub notices : (act : ℕ) → its_notice account (get t.sent act) ≡ its_notice account (get s.sent act)

pub left_so : (account : ℕ) (s : State) → LeavesRecords account s s
left_so account s = record { code = refl; row = refl; cancellations = λ act. refl; notices = λ act. refl }

pub left_on : (account : ℕ) (s t u : State) → LeavesRecords account s t → LeavesRecords account t u → LeavesRecords account s u
left_on account s t u first second = record {
  code = second.code ∙ first.code;
  row = second.row ∙ first.row;
  cancellations = λ act. second.cancellations act ∙ first.cancellations act;
  notices = λ act. second.notices act ∙ first.notices act;
}

-- ---- a record under the next number

absent : {X : Type 0} (next : ℕ) (m : FinMap nat_cmp X) → AreBelow next m → (k : ℕ) → k ≡ next → (o : Option X) → get m k ≡ o → o ≡ None
absent next m below k is None has = refl
absent next m below k is (Some x) has = let there = below k (ap is_some has) in absurd (omega (arith, there, is))

module _ {X : Type 0} (its : Option X → Option X) (next : ℕ) (m : FinMap nat_cmp X) (v : X) (below : AreBelow next m) (none : its None ≡ None) (other : its (Some v) ≡ None) where
  by_number : (k : ℕ) (b : Bool) → (k == next) ≡ b → its (cond b (Some v) (get m k)) ≡ its (get m k)
  by_number k true is = other ∙ sym none ∙ sym (ap its (absent next m below k (eqb-true k next is) (get m k) refl))
  by_number k false is = refl

  -- another's record leaves its records
  another : (k : ℕ) → its (get (insert m next v) k) ≡ its (get m k)
  another k = ap its (get_number m next v k nat_cmp_total) ∙ by_number k (k == next) refl

-- ---- one command

module _ (s : State) (account : ℕ) where
  quiet : (t : State) → t.own ≡ s.own → t.accounts ≡ s.accounts → t.cancellations ≡ s.cancellations → t.sent ≡ s.sent → LeavesRecords account s t
  quiet t own accounts cancellations sent = record {
    code = own;
    row = ap (λ m. get m account) accounts;
    cancellations = λ act. ap (λ m. its_cancellation account (get m act)) cancellations;
    notices = λ act. ap (λ m. its_notice account (get m act)) sent;
  }

  elsewhere : (t : State) → t.own ≡ s.own → get t.accounts account ≡ get s.accounts account → t.cancellations ≡ s.cancellations → t.sent ≡ s.sent → LeavesRecords account s t
  elsewhere t own row cancellations sent = record {
    code = own;
    row = row;
    cancellations = λ act. ap (λ m. its_cancellation account (get m act)) cancellations;
    notices = λ act. ap (λ m. its_notice account (get m act)) sent;
  }

  declared_quiet : (x : declare.Declare) (o : Option Device) → LeavesRecords account s (issued_for s x o)
  unfolding with_declaration
  declared_quiet x None = left_so account s
  declared_quiet x (Some device) = quiet (issued_for s x (Some device)) refl refl refl refl

  corrected_quiet : (x : correct.Correct) (o : Option Numbers) → LeavesRecords account s (taken_out s x o)
  unfolding with_withdrawal
  corrected_quiet x None = left_so account s
  corrected_quiet x (Some range) = quiet (taken_out s x (Some range)) refl refl refl refl

  not_next : contains_key s.accounts account ≡ true → IsSound s → account ≡ s.next_account → ⊥
  not_next there sound is = let below = sound.account_numbers account there in absurd (omega (arith, below, is))

  shut_other : (number : ℕ) (o : Option Account) → (number == account) ≡ false → get (shut s.accounts number o) account ≡ get s.accounts account
  shut_other number None other = refl
  shut_other number (Some row) other =
      get_other nat_cmp_total nat_cmp-IsAntisymmetric s.accounts number (record row { closed = true }) account
      (λ (e : account ≡ number). absurd (true≢false (sym (eq-eqb number account (sym e)) ∙ other)))

  leaves : (command : Command) → contains_key s.accounts account ≡ true → IsSound s → IsOfOthers account s command → LeavesRecords account s (changed s command)
  unfolding with_holder with_account with_closed with_device with_issue with_correction with_transfer with_cancellation with_withdrawal with_day with_peer with_export with_import
  leaves (OpenHolder x) there sound others = quiet (changed s (OpenHolder x)) refl refl refl refl
  leaves (OpenAccount x) there sound others =
      elsewhere (changed s (OpenAccount x)) refl
      (get_other nat_cmp_total nat_cmp-IsAntisymmetric s.accounts s.next_account (record { holder = x.holder; closed = false }) account (not_next there sound)) refl refl
  leaves (CloseAccount x) there sound others = elsewhere (changed s (CloseAccount x)) refl (shut_other x.account (get s.accounts x.account) others.itself) refl refl
  leaves (RegisterDevice x) there sound others = quiet (changed s (RegisterDevice x)) refl refl refl refl
  leaves (Declare x) there sound others = declared_quiet x (get s.devices x.device)
  leaves (Correct x) there sound others =
      let taken = corrected_quiet x x.range in
      record { code = taken.code; row = taken.row; cancellations = taken.cancellations; notices = taken.notices }
  leaves (Transfer x) there sound others = quiet (changed s (Transfer x)) refl refl refl refl
  leaves (Cancel x) there sound others = record {
    code = refl;
    row = refl;
    cancellations = another (its_cancellation account) s.next_cancellation s.cancellations (cancellation_of s x) sound.cancellation_numbers refl (if_none (x.account == account) (cancellation_of s x) others.itself);
    notices = λ act. refl;
  }
  leaves (Withdraw x) there sound others = quiet (changed s (Withdraw x)) refl refl refl refl
  leaves (Advance x) there sound others = quiet (changed s (Advance x)) refl refl refl refl
  leaves (AddPeer x) there sound others = quiet (changed s (AddPeer x)) refl refl refl refl
  leaves (Export x) there sound others = record {
    code = refl;
    row = refl;
    cancellations = λ act. refl;
    notices =
        another (its_notice account) s.next_notice s.sent (record { account = x.giver; notice = notice_of s x }) sound.notice_numbers refl
        (if_none (x.giver == account) (record { account = x.giver; notice = notice_of s x }) others.itself);
  }
  leaves (Import x) there sound others = quiet (changed s (Import x)) refl refl refl refl

-- ---- one request

module _ (account : ℕ) (s : State) (q : Request) where
  leaves_after : (o : Outcome) → contains_key s.accounts account ≡ true → IsSound s → (is_accepted o ≡ true → IsOfOthers account s q.command) → LeavesRecords account s (after s q o)
  unfolding accept
  leaves_after (Accepted r) there sound others =
      let left = leaves s account q.command there sound (others refl) in
      record { code = left.code; row = left.row; cancellations = left.cancellations; notices = left.notices }
  leaves_after (Repeated r) there sound others = left_so account s
  leaves_after (Refused r) there sound others = left_so account s

  pub leaves_next : contains_key s.accounts account ≡ true → IsSound s → (is_accepted (outcome s q) ≡ true → IsOfOthers account s q.command) → LeavesRecords account s (next s q)
  unfolding next
  leaves_next there sound others = leaves_after (outcome s q) there sound others
