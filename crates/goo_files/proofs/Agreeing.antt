-- States that agree on an account give one text of each kind of it.
use Rattle.std.proofs.Common.{◌≡◌, ◌∙◌, ℕ, List, Some, ap, sym, subst}
use Rattle.std.specs.FinMap.{get}
use Rattle.goo_types.specs.declared.piece.Piece.{Piece}
use Rattle.goo_spec.specs.Runs.{AreRunsOf}
use Rattle.goo_spec.specs.Run.{final}
use Rattle.goo_spec.specs.State.{State, Cancellation}
use Rattle.goo_spec.proofs.Unique.{one_list_of_runs}
use Rattle.goo_spec_laws.specs.Independent.{on_day}
use Rattle.goo_spec_laws.proofs.AccountLists.{independent}
use Rattle.goo_core_reads.specs.Reads.{kept_where, names}
use Rattle.goo_files_csv.specs.Holdings.{holdings_text}
use Rattle.goo_registry.specs.Reads.{is_cancelled_by}
use Rattle.goo_registry.proofs.Alike.{agree_named, same_cancellation, same_row, took_alike}
use Rattle.goo_files_documents.specs.Cancellation.{cancellation_text}
use Rattle.goo_files_documents.specs.Statement.{statement_text}
use Rattle.goo_files.specs.Laws.{AgreeOnNamed, OneStatement, OneHoldingsCsv, OneDocument, EqualTexts, OthersLeaveTexts}
use Rattle.goo_files.specs.Texts.{IsDocument, AreRunsNaming, held_runs}

same_runs : (s t : State) (account : ℕ) (ps qs : List Piece) → AgreeOnNamed s t account → AreRunsNaming s account ps → AreRunsNaming t account qs → ps ≡ qs
same_runs s t account ps qs agree one other =
    one_list_of_runs (kept_where (names account) (get t.at)) ps qs (record { rising = one.rising; maximal = one.maximal; same = λ n. one.same n ∙ agree n }) other

pub one_statement : OneStatement
one_statement s t account one other own today row agree a b =
    let runs = same_runs s t account a.runs b.runs agree a.are_runs b.are_runs in
    let rows : Some a.row ≡ Some b.row = sym a.known ∙ row ∙ b.known in
    let same : a.row ≡ b.row = cc in
    a.is ∙ (λ i. statement_text (own i) (today i) account (same i).holder (same i).closed (runs i)) ∙ sym b.is

pub one_holdings_csv : OneHoldingsCsv
one_holdings_csv s t account one other agree a b =
    let runs = same_runs s t account a.runs b.runs agree a.are_runs b.are_runs in
    a.is ∙ ap (λ l. holdings_text (held_runs l)) runs ∙ sym b.is

module _ (s : State) (act : ℕ) (x : Cancellation) (text : List ℕ) (a : IsDocument s act text) (kept : get s.cancellations act ≡ Some x) where
  cancellation_is : a.cancellation ≡ x
  cancellation_is = let both : Some a.cancellation ≡ Some x = sym a.kept ∙ kept in cc

  row_is : get s.accounts x.account ≡ Some a.row
  row_is = ap (λ (c : Cancellation). get s.accounts c.account) (sym cancellation_is) ∙ a.known

  runs_are : AreRunsOf (kept_where (is_cancelled_by x.account act) (get s.at)) a.runs
  runs_are = subst (λ (c : Cancellation). AreRunsOf (kept_where (is_cancelled_by c.account act) (get s.at)) a.runs) cancellation_is a.are_runs

pub one_document : OneDocument
one_document s t act x one other own kept kept_too row agree a b =
    let taken = runs_are s act x one a kept in
    let runs : a.runs ≡ b.runs =
    one_list_of_runs (kept_where (is_cancelled_by x.account act) (get t.at)) a.runs b.runs (record { rising = taken.rising; maximal = taken.maximal; same = λ n. taken.same n ∙ agree n }) (runs_are t act x other b kept_too) in
    let rows : Some a.row ≡ Some b.row = sym (row_is s act x one a kept) ∙ row ∙ row_is t act x other b kept_too in
    let same : a.row ≡ b.row = cc in
    let both : a.cancellation ≡ b.cancellation = cancellation_is s act x one a kept ∙ sym (cancellation_is t act x other b kept_too) in
    a.is ∙ (λ i. cancellation_text (record {
      act = act;
      code = own i;
      day = (both i).day;
      account = (both i).account;
      holder = (same i).holder;
      beneficiary = (both i).beneficiary;
      use_first = (both i).use_first;
      use_last = (both i).use_last;
    }) (runs i)) ∙ sym b.is

pub equal_texts : EqualTexts
equal_texts account s t agree = record {
  statement = λ one other day a b. one_statement s t account one other (sym agree.code) (sym day) (sym agree.row) (agree_named account s t agree) a b;
  holdings = λ one other a b. one_holdings_csv s t account one other (agree_named account s t agree) a b;
  document = λ act x one other is its a b.
      one_document s t act x one other (sym agree.code) is (same_cancellation account s t agree act x is its) (sym (same_row account s t agree x its)) (took_alike account s t agree act x its) a b;
}

pub others_leave_texts : OthersLeaveTexts
others_leave_texts s qs account obey sound there others =
    let left = independent s qs obey sound in (
      equal_texts account (on_day s (final s qs).today) (final s qs) (left.dated account there others),
      λ day. equal_texts account s (final s qs) (left.same account there others day),
    )
