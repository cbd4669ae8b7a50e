-- A subject is shown in one way, and an import comes to one report and one state.
use Rattle.std.proofs.Common.{◌≡◌, ◌∙◌, ℕ, List, ◌∷◌, Option, Some, None, Result, Ok, Err, sym, ap, refl}
use Rattle.std.specs.FinMap.{get}
use Rattle.goo_spec.proofs.Mapping.{none_some}
use Rattle.goo_spec.specs.State.{State}
use Rattle.goo_core_reads.specs.declared.denial.Denial.{Denial}
use Rattle.goo_registry.specs.Reads.{account_denial}
use Rattle.goo_files.proofs.Agreeing.{one_statement, one_document}
use Rattle.goo_files.specs.Texts.{IsStatement, IsDocument, IsAuditText, audit_denial, cancellation_denial}
use Rattle.goo_files_csv.specs.Rows.{header}
use Rattle.goo_files_import.proofs.OneTable.{one_table, header_or_rows}
use Rattle.goo_files_import.specs.Import.{importing}
use Rattle.goo_files_import.specs.Report.{report_text}
use Rattle.goo_desk_routes.specs.declared.task.Subject.TheVariants.{Statement, Certificate, Cancellation, Notice, Audit}
use Rattle.goo_desk_backend.specs.Backends.{ShowsOne, ImportsOne}
use Rattle.goo_desk_backend.specs.Showing.{shown_by, imported_by, IsTextUnless}

text-one : (denial : Option Denial) (right : List ℕ → Type 0) → ((t u : List ℕ) → right t → right u → t ≡ u) → (x y : Result (List ℕ) Denial) → IsTextUnless denial right x → IsTextUnless denial right y → x ≡ y
text-one denial right one (Ok t) (Ok u) p q = ap Ok (one t u p.1 q.1)
text-one denial right one (Ok t) (Err why) p q = none_some why (sym p.0 ∙ q)
text-one denial right one (Err why) (Ok u) p q = none_some why (sym q.0 ∙ p)
text-one denial right one (Err why) (Err reason) p q = let same : Some why ≡ Some reason = sym p ∙ q in cc

statement-one : (s : State) (account : ℕ) (t u : List ℕ) → IsStatement s account t → IsStatement s account u → t ≡ u
statement-one s account t u p q = one_statement s s account t u refl refl refl (λ n. refl) p q

document-one : (s : State) (act : ℕ) (t u : List ℕ) → IsDocument s act t → IsDocument s act u → t ≡ u
document-one s act t u p q = one_document s s act p.cancellation t u refl p.kept p.kept refl (λ n. refl) p q

audit-one : (s : State) (t u : List ℕ) → IsAuditText s t → IsAuditText s u → t ≡ u
audit-one s t u p q = p ∙ sym q

pub shown-one : ShowsOne shown_by
shown-one s caller (Statement a) x y p q = text-one (account_denial caller (get s.accounts a)) (IsStatement s a) (statement-one s a) x y p q
shown-one s caller (Certificate n) x y p q = p ∙ sym q
shown-one s caller (Cancellation k) x y p q = text-one (cancellation_denial s caller k) (IsDocument s k) (document-one s k) x y p q
shown-one s caller (Notice k) x y p q = p ∙ sym q
shown-one s caller Audit x y p q = text-one (audit_denial caller) (IsAuditText s) (audit-one s) x y p q

pub imported-one : ImportsOne imported_by
imported-one s caller input None None after next (lacks, p) (missing, q) = (refl, p ∙ sym q)
imported-one s caller input None (Some report) after next (lacks, p) (lines, is, q) = absurd (header_or_rows input is.rows lacks is.are_rows)
imported-one s caller input (Some report) None after next (lines, is, p) (lacks, q) = absurd (header_or_rows input is.rows lacks is.are_rows)
imported-one s caller input (Some report) (Some other) after next (lines, is, p) (others, was, q) =
    let same : header ∷ is.rows ≡ header ∷ was.rows = one_table input _ _ is.are_rows was.are_rows in
    let rows : is.rows ≡ was.rows = cc in
    let told : lines ≡ others = is.lines_are ∙ (ap (λ r. (importing s caller r).lines) rows ∙ sym was.lines_are) in
    (ap Some (p ∙ (ap report_text told ∙ sym q)), is.state ∙ (ap (λ r. (importing s caller r).state) rows ∙ sym was.state))
