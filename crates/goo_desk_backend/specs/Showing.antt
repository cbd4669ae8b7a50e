-- What a registry shows, as texts, and what an import of declarations comes to.
use Rattle.std.specs.Prelude.{◌≡◌, ◌⊎◌, ℕ, List, Option, Some, None, Result, Ok, Err}
use Rattle.std.specs.FinMap.{get}
use Rattle.goo_types.specs.Notice.{NoticeContents}
use Rattle.goo_types.specs.Piece.{Label}
use Rattle.goo_spec.specs.State.{State}
use Rattle.goo_notice_text.specs.Notice.{notice_text}
use Rattle.goo_core_reads.specs.declared.denial.Denial.{Denial}
use Rattle.goo_registry.specs.Reads.{place_shown, notice_shown, account_denial}
use Rattle.goo_files.specs.Texts.{IsStatement, IsDocument, IsAuditText, audit_denial, cancellation_denial}
use Rattle.goo_files_import.specs.Import.{importing}
use Rattle.goo_files_import.specs.Report.{report_text}
use Rattle.goo_files_import.specs.Runs.{IsImported}
use Rattle.goo_files_import.specs.Table.{LacksHeader, AreRows, AreFirstRows}
use Rattle.goo_files_import.specs.declared.row_result.RowResult.{RowResult}
use Rattle.goo_desk_routes.specs.declared.task.Subject.{Subject}
use Rattle.goo_desk_routes.specs.declared.task.Subject.TheVariants.{Statement, Certificate, Cancellation, Notice, Audit}
use Rattle.goo_desk_backend.specs.Certificates.{certificate_text}

abbrev pub certificate_as_text : ℕ → Result Label Denial → Result (List ℕ) Denial
certificate_as_text n (Ok known) = Ok (certificate_text n known.0 known.1)
certificate_as_text n (Err why) = Err why

abbrev pub notice_as_text : Result NoticeContents Denial → Result (List ℕ) Denial
notice_as_text (Ok notice) = Ok (notice_text notice)
notice_as_text (Err why) = Err why

-- a right text, or why there is none
abbrev pub IsTextUnless : Option Denial → (List ℕ → Type 0) → Result (List ℕ) Denial → Type 0
IsTextUnless denial right (Ok text) = (denial ≡ None) × right text
IsTextUnless denial right (Err why) = denial ≡ Some why

-- what a caller is shown of a subject
abbrev pub shown_by : State → List ℕ → Subject → Result (List ℕ) Denial → Type 0
shown_by s caller (Statement a) shown = IsTextUnless (account_denial caller (get s.accounts a)) (IsStatement s a) shown
shown_by s caller (Certificate n) shown = shown ≡ certificate_as_text n (place_shown s caller n)
shown_by s caller (Cancellation k) shown = IsTextUnless (cancellation_denial s caller k) (IsDocument s k) shown
shown_by s caller (Notice k) shown = shown ≡ notice_as_text (notice_shown s caller k)
shown_by s caller Audit shown = IsTextUnless (audit_denial caller) (IsAuditText s) shown

-- what a caller's declarations in CSV come to: the report, none where the header is missing, and the state after it
abbrev pub imported_by : State → List ℕ → List ℕ → Option (List ℕ) → State → Type 0
imported_by s caller input None after = LacksHeader input × (after ≡ s)
imported_by s caller input (Some report) after = (lines : List RowResult) × IsImported caller input s after lines × (report ≡ report_text lines)

-- the first rows stand, or all of them, and nothing else
abbrev pub begun_by : State → List ℕ → List ℕ → State → Type 0
begun_by s caller input after = (rows : List (List (List ℕ))) × (AreFirstRows input rows ⊎ AreRows input rows) × (after ≡ (importing s caller rows).state)
