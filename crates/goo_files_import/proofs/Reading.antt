-- A CSV read record by record.
use Rattle.std.proofs.Common.{Bor, ◌≡◌, ◌∙◌, ◌<◌, ℕ, List, [], ◌∷◌, ◌++◌, Option, Some, None, refl, true, false, inl, inr, sym}
use Rattle.csv.specs.Reading.{Reached, Ready, ReadRecord, default_config, source_of, strip_bom}
use Rattle.csv.specs.Records.{Row, fields_of}
use Rattle.csv.specs.declared.parser.State.TheVariants as st
use Rattle.csv.specs.declared.reader.Reader.{Reader}
use Rattle.csv.specs.declared.reader.Trim.TheVariants as trim
use Rattle.csv.proofs.ReadFacts.{rows-end, rows-more}
use Rattle.goo_files_import.specs.Table.{IsTable, BeginsTable}

abbrev pub known : Bor (List ℕ) → Option (List ℕ)
known s = Some s.now

-- the reader has given these records of an input, and gives the next ones
pub record IsAt (rdr : Reader (Bor (List ℕ))) (left : ℕ) (input : List ℕ) (rows : List (List (List ℕ))) : Type 0 where
  pub trim : rdr.trim ≡ trim.None
  pub ready : Ready rdr
  pub turns : 0 < left
  pub config : rdr.config ≡ default_config
  pub rest : List ℕ
  pub source : source_of known rdr ≡ Some rest
  pub reached : Reached default_config st.StartRecord (strip_bom input) rows rdr.state rest

pub at_start : (r : Reader (Bor (List ℕ))) (left : ℕ) (input : List ℕ) → r.trim ≡ trim.None → r.has_headers ≡ false → r.headers ≡ None → 0 < left → r.config ≡ default_config → source_of known r ≡ Some (strip_bom input) → r.state ≡ st.StartRecord
    → IsAt r left input []
unfolding Reached
at_start r left input trim plain none turns config source state =
    record { trim = trim; ready = inr (inr (plain, none)); turns = turns; config = config; rest = strip_bom input; source = source; reached = (sym state, refl) }

pub at_more : (a b : Reader (Bor (List ℕ))) (before left : ℕ) (input : List ℕ) (rows : List (List (List ℕ))) (row : Row) → IsAt a before input rows → ReadRecord known a b true (fields_of row) × (b.first ≡ true) × (0 < left)
    → IsAt b left input (rows ++ fields_of row ∷ [])
at_more a b before left input rows row at step =
    let m = rows-more known a b (fields_of row) default_config st.StartRecord (strip_bom input) at.rest rows at.config at.source at.reached step.0 in
    record { trim = step.0.3 ∙ at.trim; ready = inl step.1; turns = step.2; config = step.0.2 ∙ at.config; rest = m.0; source = m.1; reached = m.2 }

pub at_end : (a b : Reader (Bor (List ℕ))) (before : ℕ) (input : List ℕ) (rows : List (List (List ℕ))) → IsAt a before input rows → ReadRecord known a b false [] → IsTable input rows
at_end a b before input rows at step = (a.state, at.rest, at.reached, rows-end known a b [] default_config at.rest at.config at.source step)

pub at_begins : (a : Reader (Bor (List ℕ))) (left : ℕ) (input : List ℕ) (rows : List (List (List ℕ))) → IsAt a left input rows → BeginsTable input rows
at_begins a left input rows at = (a.state, at.rest, at.reached)
