-- The texts that a registry gives out.
use Rattle.std.specs.Prelude.{◌≡◌, ℕ, List, flat_map, Option, Some, None, Result, Ok, Err, if◌then◌else◌}
use Rattle.std.specs.FinMap.{get}
use Rattle.std.specs.List.{filter}
use Rattle.goo_types.specs.declared.piece.Piece.{Piece}
use Rattle.goo_spec.specs.Checks.{is_issuer}
use Rattle.goo_spec.specs.Lots.{is_held}
use Rattle.goo_spec.specs.Runs.{AreRunsOf}
use Rattle.goo_spec.specs.State.{State, Account, Cancellation}
use Rattle.goo_core_shelf.specs.Shelf.{totals_of}
use Rattle.goo_core_reads.specs.Reads.{kept_where, names}
use Rattle.goo_core_reads.specs.declared.denial.Denial.{Denial}
use Rattle.goo_core_reads.specs.declared.denial.Denial.TheVariants.{NotAllowed}
use Rattle.goo_files_csv.specs.Holdings.{holdings_text}
use Rattle.goo_files_documents.specs.Audit.{audit_line}
use Rattle.goo_files_documents.specs.Cancellation.{cancellation_text}
use Rattle.goo_files_documents.specs.Statement.{statement_text}
use Rattle.goo_files_documents.specs.declared.cancellation.CancellationHead.{CancellationHead}
use Rattle.goo_registry.specs.Reads.{is_cancelled_by, absent_denial, holder_shown}

-- the maximal runs of the certificates whose place names an account
abbrev pub AreRunsNaming : State → ℕ → List Piece → Type 0
AreRunsNaming s account runs = AreRunsOf (kept_where (names account) (get s.at)) runs

-- the statement of an account: from the own code, the date, the account's row and its runs
pub record IsStatement (s : State) (account : ℕ) (text : List ℕ) : Type 0 where
  pub row : Account
  pub known : get s.accounts account ≡ Some row
  pub runs : List Piece
  pub are_runs : AreRunsNaming s account runs
  pub is : text ≡ statement_text s.own s.today account row.holder row.closed runs

-- the holdings of an account as CSV: those of its runs that are held
abbrev pub held_runs : List Piece → List Piece
held_runs runs = filter (λ p. is_held p.place) runs

pub record IsHoldingsCsv (s : State) (account : ℕ) (text : List ℕ) : Type 0 where
  pub runs : List Piece
  pub are_runs : AreRunsNaming s account runs
  pub is : text ≡ holdings_text (held_runs runs)

-- the document of a cancellation: from its record, the account's holder, and the runs of the certificates that it took
abbrev pub head_of : State → ℕ → Cancellation → List ℕ → CancellationHead
head_of s act x holder = record {
  act = act;
  code = s.own;
  day = x.day;
  account = x.account;
  holder = holder;
  beneficiary = x.beneficiary;
  use_first = x.use_first;
  use_last = x.use_last;
}

pub record IsDocument (s : State) (act : ℕ) (text : List ℕ) : Type 0 where
  pub cancellation : Cancellation
  pub kept : get s.cancellations act ≡ Some cancellation
  pub row : Account
  pub known : get s.accounts cancellation.account ≡ Some row
  pub runs : List Piece
  pub are_runs : AreRunsOf (kept_where (is_cancelled_by cancellation.account act) (get s.at)) runs
  pub is : text ≡ cancellation_text (head_of s act cancellation row.holder) runs

-- the audit: a line a device
abbrev pub IsAuditText : State → List ℕ → Type 0
IsAuditText s text = text ≡ flat_map audit_line (totals_of s)

-- why the audit isn't shown; None where it is
abbrev pub audit_denial : List ℕ → Option Denial
audit_denial caller = if is_issuer caller then None else Some NotAllowed

-- why the document of a cancellation isn't shown; None where it is
abbrev pub denial_in : Result (List ℕ) Denial → Option Denial
denial_in (Ok holder) = None
denial_in (Err denial) = Some denial

abbrev pub denial_by : State → List ℕ → Option Cancellation → Option Denial
denial_by s caller None = Some (absent_denial caller)
denial_by s caller (Some x) = denial_in (holder_shown caller (get s.accounts x.account))

abbrev pub cancellation_denial : State → List ℕ → ℕ → Option Denial
cancellation_denial s caller act = denial_by s caller (get s.cancellations act)
