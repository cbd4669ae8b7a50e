-- The document of a cancellation from two reads.
use Rattle.std.proofs.Common.{◌≡◌, ◌∙◌, ℕ, List, Option, Some, None, Result, Ok, Err, OnOk, OnErr, IfErr, refl, ap, sym, subst, inl, inr, true, false, cond}
use Rattle.std.specs.FinMap.{get}
use Rattle.std.specs.Io.KnownBytes.{Appends, Keeps}
use Rattle.goo_files_streams.specs.Streams.{AppendsPrefix}
use Rattle.goo_types.specs.declared.fault.Fault.TheVariants as fault
use Rattle.goo_spec.specs.State.{State, Account, Cancellation}
use Rattle.goo_core_shelf.specs.Shelf.{Moment, Looks}
use Rattle.goo_core_reads.specs.Reads.{may_see}
use Rattle.goo_core_reads.specs.declared.denial.Denial.{Denial}
use Rattle.goo_core_reads.specs.declared.denial.Denial.TheVariants as denial
use Rattle.goo_registry.specs.Reads.{account_denial, holder_shown, IsCancellationOf, IsCancellationDenied, IsCancellationShown}
use Rattle.goo_registry_reads.specs.AccountReads.{IsHeadingShown}
use Rattle.goo_registry.specs.Shown.{split_denial}
use Rattle.goo_registry.specs.declared.cancellation_statement.CancellationStatement.{CancellationStatement}
use Rattle.goo_registry_reads.specs.declared.heading.Heading.{Heading}
use Rattle.goo_registry.specs.declared.read_fault.ReadFault.{ReadFault}
use Rattle.goo_registry.specs.declared.read_fault.ReadFault.TheVariants.{NotAllowed, Unknown, Store, Memory}
use Rattle.goo_files_documents.specs.Cancellation.{cancellation_text}
use Rattle.goo_files_documents.specs.declared.cancellation.CancellationHead.{CancellationHead}
use Rattle.goo_files.specs.Faults.{of_read}
use Rattle.goo_files.specs.Texts.{IsDocument, denial_in, denial_by, cancellation_denial}
use Rattle.goo_files.specs.Writes.{Writes}
use Rattle.goo_files.specs.declared.text_fault.ShowFault.{ShowFault}
use Rattle.goo_files.specs.declared.text_fault.ShowFault.TheVariants as text
use Rattle.goo_files.proofs.Chaining.{chain_ok, chain_err, none_denied, unwritten}

-- who may see it

pub denied_is : (s : State) (caller : List ℕ) (why : Denial) (o : Option Cancellation) → IsCancellationDenied s caller why o → denial_by s caller o ≡ Some why
denied_is s caller why None is = ap Some (sym is)
denied_is s caller why (Some x) is = ap denial_in is

shown_is : (s : State) (caller : List ℕ) (act : ℕ) (found : CancellationStatement) → IsCancellationOf s caller act found → cancellation_denial s caller act ≡ None
shown_is s caller act found of = ap (denial_by s caller) of.kept ∙ ap denial_in of.holder

-- whoever sees the cancellation sees its account
account_seen : (caller : List ℕ) (o : Option Account) (holder : List ℕ) → holder_shown caller o ≡ Ok holder → account_denial caller o ≡ None
account_seen caller None holder is = cc
account_seen caller (Some row) holder is = elim (may_see caller (Some row)) as (λ b. cond b (Ok row.holder) (Err denial.NotAllowed) ≡ Ok holder → cond b None (Some denial.NotAllowed) ≡ None) [
  | true ↦ λ e. refl
  | false ↦ λ e. cc
] is

holder_is : (caller : List ℕ) (row : Account) (holder : List ℕ) → holder_shown caller (Some row) ≡ Ok holder → row.holder ≡ holder
holder_is caller row holder is = elim (may_see caller (Some row)) as (λ b. cond b (Ok row.holder) (Err denial.NotAllowed) ≡ Ok holder → row.holder ≡ holder) [
  | true ↦ λ e. let same : row.holder ≡ holder = cc in same
  | false ↦ λ e. absurd (cc)
] is

row_there : (caller : List ℕ) (o : Option Account) (holder : List ℕ) → holder_shown caller o ≡ Ok holder → (row : Account) × (o ≡ Some row) × (row.holder ≡ holder)
row_there caller None holder is = absurd (cc)
row_there caller (Some row) holder is = (row, refl, holder_is caller row holder is)

abbrev pub head_by : CancellationStatement → ℕ → ℕ → CancellationHead
head_by found act code = record {
  act = act;
  code = code;
  day = found.record.day;
  account = found.record.account;
  holder = found.holder;
  beneficiary = found.record.beneficiary;
  use_first = found.record.use_first;
  use_last = found.record.use_last;
}

document_by : (s : State) (caller : List ℕ) (act code : ℕ) (found : CancellationStatement) → code ≡ s.own → IsCancellationOf s caller act found → IsDocument s act (cancellation_text (head_by found act code) found.runs.items)
document_by s caller act code found own of =
    let there = row_there caller (get s.accounts found.record.account) found.holder of.holder in
    record {
      cancellation = found.record;
      kept = of.kept;
      row = there.0;
      known = there.1;
      runs = found.runs.items;
      are_runs = of.runs;
      is = λ i. cancellation_text (record {
        act = act;
        code = own i;
        day = found.record.day;
        account = found.record.account;
        holder = sym there.2 i;
        beneficiary = found.record.beneficiary;
        use_first = found.record.use_first;
        use_last = found.record.use_last;
      }) found.runs.items;
    }

module _ (old mid new : Moment) (before after : Option (List ℕ)) (caller : List ℕ) (act : ℕ) (found : CancellationStatement) (one : Looks old mid (Ok (Ok found)) (IsCancellationShown old.state caller act)) where
  -- the account of what was shown isn't denied
  seen_here : mid.defects ≡ 0 → account_denial caller (get mid.state.accounts found.record.account) ≡ None
  seen_here sure = subst (λ (s : State). account_denial caller (get s.accounts found.record.account) ≡ None) (sym (one.same sure)) (account_seen caller (get old.state.accounts found.record.account) found.holder (one.found sure).holder)

  clash_here : (why : Denial) → mid.defects ≡ 0 → account_denial caller (get mid.state.accounts found.record.account) ≡ Some why → ⊥
  clash_here why sure denied = let clash : None ≡ Some why = sym (seen_here sure) ∙ denied in cc

  kept_none : (a : Option (List ℕ)) → Keeps a a
  kept_none None = tt
  kept_none (Some a) = refl

  -- the own code wasn't read
  pub second_unread : (f : ReadFault) → Looks mid new (split_denial {T = Heading} (Err f)) (IsHeadingShown mid.state caller found.record.account)
      → Writes old new before before (Err (of_read f)) (cancellation_denial old.state caller act) (λ (u : Unit {0}) t. IsDocument old.state act t)
  second_unread NotAllowed look = record {
    looks = chain_ok old mid new (Ok found) (IsCancellationShown old.state caller act) one (Err denial.NotAllowed) (IsHeadingShown mid.state caller found.record.account) tt look;
    shown = λ none. tt;
    whole = λ none. tt;
    denied = λ none. absurd (clash_here denial.NotAllowed (look.defects_stay none) (look.found none));
    silent = λ none off. kept_none before;
    unseen = λ late. unwritten (cancellation_denial old.state caller act) before;
    begun = λ late none off. absurd off;
  }
  second_unread Unknown look = record {
    looks = chain_ok old mid new (Ok found) (IsCancellationShown old.state caller act) one (Err denial.Unknown) (IsHeadingShown mid.state caller found.record.account) tt look;
    shown = λ none. tt;
    whole = λ none. tt;
    denied = λ none. absurd (clash_here denial.Unknown (look.defects_stay none) (look.found none));
    silent = λ none off. kept_none before;
    unseen = λ late. unwritten (cancellation_denial old.state caller act) before;
    begun = λ late none off. absurd off;
  }
  second_unread Store look = record {
    looks = chain_err old mid new (Ok found) (IsCancellationShown old.state caller act) one fault.Store (IsHeadingShown mid.state caller found.record.account) look;
    shown = λ none. tt;
    whole = λ none. tt;
    denied = λ none. tt;
    silent = λ none off. absurd off;
    unseen = λ late. unwritten (cancellation_denial old.state caller act) before;
    begun = λ late none off. inl (kept_none before);
  }
  second_unread Memory look = record {
    looks = chain_err old mid new (Ok found) (IsCancellationShown old.state caller act) one fault.Memory (IsHeadingShown mid.state caller found.record.account) look;
    shown = λ none. tt;
    whole = λ none. tt;
    denied = λ none. tt;
    silent = λ none off. absurd off;
    unseen = λ late. unwritten (cancellation_denial old.state caller act) before;
    begun = λ late none off. inl (kept_none before);
  }

  module _ (own : Heading) (two : Looks mid new (Ok (Ok own)) (IsHeadingShown mid.state caller found.record.account)) where
    is_document : new.defects ≡ 0 → IsDocument old.state act (cancellation_text (head_by found act own.code) found.runs.items)
    is_document none =
        let sure = two.defects_stay none in
        document_by old.state caller act own.code found ((two.found none).1.code ∙ ap (λ (s : State). s.own) (one.same sure)) (one.found sure)

    pub document_written : (new.defects ≡ 0 → Appends before after (cancellation_text (head_by found act own.code) found.runs.items)) → Writes old new before after (Ok tt) (cancellation_denial old.state caller act) (λ (u : Unit {0}) t. IsDocument old.state act t)
    document_written wrote = record {
      looks = chain_ok old mid new (Ok found) (IsCancellationShown old.state caller act) one (Ok own) (IsHeadingShown mid.state caller found.record.account) tt two;
      shown = λ none. shown_is old.state caller act found (one.found (two.defects_stay none));
      whole = λ none. (cancellation_text (head_by found act own.code) found.runs.items, is_document none, wrote none);
      denied = λ none. tt;
      silent = λ none. tt;
      unseen = λ late. none_denied (cancellation_denial old.state caller act) _ _ (shown_is old.state caller act found (one.found (one.works (two.corruptions_stay late))));
      begun = λ late none. tt;
    }

    pub document_cut : (new.defects ≡ 0 → AppendsPrefix before after (cancellation_text (head_by found act own.code) found.runs.items)) → Writes old new before after (Err text.Write) (cancellation_denial old.state caller act) (λ (u : Unit {0}) t. IsDocument old.state act t)
    document_cut part = record {
      looks = chain_ok old mid new (Ok found) (IsCancellationShown old.state caller act) one (Ok own) (IsHeadingShown mid.state caller found.record.account) tt two;
      shown = λ none. tt;
      whole = λ none. tt;
      denied = λ none. shown_is old.state caller act found (one.found (two.defects_stay none));
      silent = λ none off. absurd off;
      unseen = λ late. none_denied (cancellation_denial old.state caller act) _ _ (shown_is old.state caller act found (one.found (one.works (two.corruptions_stay late))));
      begun = λ late none off. let sure = two.works late in inr (cancellation_text (head_by found act own.code) found.runs.items, (tt, is_document sure), part sure);
    }

    -- by how the writing ended
    pub document_done : (r : Result (Unit {0}) ShowFault) → (new.defects ≡ 0 → OnOk r (Appends before after (cancellation_text (head_by found act own.code) found.runs.items)))
        → (new.defects ≡ 0 → OnErr r (AppendsPrefix before after (cancellation_text (head_by found act own.code) found.runs.items))) → IfErr r (λ f. f ≡ text.Write)
        → Writes old new before after r (cancellation_denial old.state caller act) (λ (u : Unit {0}) t. IsDocument old.state act t)
    document_done (Ok u) wrote part kind = document_written wrote
    document_done (Err f) wrote part kind = subst (λ e. Writes old new before after (Err e) (cancellation_denial old.state caller act) (λ (u : Unit {0}) t. IsDocument old.state act t)) (sym kind) (document_cut part)
