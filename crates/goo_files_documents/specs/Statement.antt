-- The statement of an account.
use Rattle.std.specs.Prelude.{ℕ, List, ◌++◌, flat_map, Bool, cond, codes, decimal}
use Rattle.goo_types.specs.Day.{CalendarDay}
use Rattle.goo_types.specs.Texts.{day_text}
use Rattle.goo_types.specs.declared.piece.Piece.{Piece}
use Rattle.goo_files_documents.specs.Words.{code_text}
use Rattle.goo_files_documents.specs.Runs.{statement_line}
use Rattle.goo_files_documents.specs.Counts.{counts_of}
use Rattle.goo_files_documents.specs.declared.counts.Counts.{Counts}

-- whose account it is, and of which day
unfoldable pub statement_head : ℕ → CalendarDay → ℕ → List ℕ → Bool → List ℕ
statement_head code today account holder closed =
    codes "STATEMENT\nregistry " ++ code_text code ++ codes "\ndate " ++ day_text today
    ++ codes "\naccount " ++ decimal account ++ codes "\nholder " ++ holder
    ++ codes "\nstatus " ++ cond closed (codes "closed") (codes "open") ++ codes "\n"

-- how many certificates are where
unfoldable pub statement_foot : Counts → List ℕ
statement_foot c =
    codes "held " ++ decimal c.held ++ codes "\ncancelled " ++ decimal c.cancelled ++ codes "\nexpired " ++ decimal c.expired
    ++ codes "\nwithdrawn " ++ decimal c.withdrawn ++ codes "\nexported " ++ decimal c.exported ++ codes "\nEND\n"

-- the statement of an account with these runs, a line each
abbrev pub statement_text : ℕ → CalendarDay → ℕ → List ℕ → Bool → List Piece → List ℕ
statement_text code today account holder closed runs =
    statement_head code today account holder closed ++ (flat_map statement_line runs ++ statement_foot (counts_of runs))
