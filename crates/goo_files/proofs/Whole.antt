-- Statements and holdings, framed.
use Rattle.std.proofs.Common.{◌∙◌, ℕ, List, [], ◌++◌, flat_map, Option, None, Result, Ok, Err, ap, sym}
use Rattle.std.proofs.lemmas.List.{append-nil}
use Rattle.std.specs.FinMap.{get}
use Rattle.std.specs.Io.KnownBytes.{Appends}
use Rattle.goo_files_streams.proofs.AppendsFacts.{appends-none}
use Rattle.goo_types.specs.declared.piece.Piece.{Piece}
use Rattle.goo_spec.specs.State.{State}
use Rattle.goo_core_shelf.specs.Shelf.{Moment, Looks}
use Rattle.goo_registry.specs.Reads.{account_denial}
use Rattle.goo_registry_reads.specs.AccountReads.{IsHeadingShown, IsHeadingOf}
use Rattle.goo_registry_reads.specs.declared.heading.Heading.{Heading}
use Rattle.goo_files_csv.specs.Holdings.{header_row}
use Rattle.goo_files_documents.specs.Counts.{counts_of}
use Rattle.goo_files_documents.specs.Runs.{statement_line}
use Rattle.goo_files_documents.specs.Statement.{statement_head, statement_foot}
use Rattle.goo_files.specs.Lines.{held_row, no_sum, AreHeldRows}
use Rattle.goo_files.specs.Texts.{IsStatement, IsHoldingsCsv, AreRunsNaming}
use Rattle.goo_files.specs.Writes.{Writes}
use Rattle.goo_files.specs.declared.text_fault.ShowFault.{ShowFault}
use Rattle.goo_files.proofs.Framing.{lines_cut, foot_ends}
use Rattle.goo_files.proofs.LineFacts.{held-rows}
use Rattle.goo_files.proofs.Lining.{IsWell}

abbrev pub head_of : Heading → List ℕ
head_of h = statement_head h.code h.today h.account h.holder h.closed

-- the statement with some runs, as its heading begins it
pub statement_by : (s : State) (account : ℕ) (h : Heading) → IsHeadingOf s account h → (runs : List Piece) → AreRunsNaming s account runs → IsStatement s account (head_of h ++ (flat_map statement_line runs ++ statement_foot (counts_of runs)))
statement_by s account h of runs are = record {
  row = record { holder = h.holder; closed = h.closed };
  known = of.row;
  runs = runs;
  are_runs = are;
  is = λ i. statement_head (of.code i) (of.today i) (of.number i) h.holder h.closed ++ (flat_map statement_line runs ++ statement_foot (counts_of runs));
}

abbrev pub no_foot : Unit {0} → List ℕ
no_foot u = []

-- the holdings with some runs
pub holdings_by : (s : State) (account : ℕ) (runs : List Piece) → AreRunsNaming s account runs → IsHoldingsCsv s account (header_row ++ (flat_map held_row runs ++ []))
holdings_by s account runs are = record { runs = runs; are_runs = are; is = ap (λ t. header_row ++ t) (append-nil (flat_map held_row runs) ∙ sym (held-rows runs)) }

-- the header was written, and then the rows
pub rows_done : (old first : Moment) (before mid : Option (List ℕ)) (caller : List ℕ) (account : ℕ) (h : Heading) → Looks old first (Ok (Ok h)) (IsHeadingShown old.state caller account) → IsWell old → (new : Moment) (at : Option (List ℕ)) → Appends before mid header_row
    → (r : Result (Unit {0}) ShowFault) → Writes {T = Unit {0}} first new mid at r None (AreHeldRows first.state account)
    → Writes old new before at r (account_denial caller (get old.state.accounts account)) (λ (u : Unit {0}) t. IsHoldingsCsv old.state account t)
rows_done old first before mid caller account h look well new at wrote (Ok u) w =
    foot_ends held_row no_sum no_foot (IsHoldingsCsv old.state account) old first before mid caller account h look well header_row (λ sure. holdings_by old.state account) new at wrote at tt w (appends-none at)
rows_done old first before mid caller account h look well new at wrote (Err f) w =
    lines_cut held_row no_sum no_foot (IsHoldingsCsv old.state account) old first before mid caller account h look well header_row (λ sure. holdings_by old.state account) new at wrote f w
