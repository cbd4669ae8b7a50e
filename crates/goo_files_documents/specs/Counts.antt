-- Certificates counted by where they are.
use Rattle.std.specs.Prelude.{ℕ, ◌+◌, List, [], ◌∷◌}
use Rattle.goo_types.specs.declared.piece.Piece.{Piece}
use Rattle.goo_types.specs.declared.place.Place.{Place}
use Rattle.goo_types.specs.declared.place.Place.TheVariants.{Held, Cancelled, Expired, Withdrawn, Exported}
use Rattle.goo_files_documents.specs.declared.counts.Counts.{Counts}
use Rattle.goo_files_documents.specs.Runs.{count_of}

abbrev pub no_counts : Counts
no_counts = record { held = 0; cancelled = 0; expired = 0; withdrawn = 0; exported = 0 }

abbrev pub with_count : Counts → Place → ℕ → Counts
with_count c (Held account) n = record c { held = c.held + n }
with_count c (Cancelled account act) n = record c { cancelled = c.cancelled + n }
with_count c (Expired account) n = record c { expired = c.expired + n }
with_count c (Withdrawn account act) n = record c { withdrawn = c.withdrawn + n }
with_count c (Exported account act) n = record c { exported = c.exported + n }

-- with those of one more run
abbrev pub with_run : Counts → Piece → Counts
with_run c p = with_count c p.place (count_of p)

abbrev pub with_runs : Counts → List Piece → Counts
with_runs c [] = c
with_runs c (p ∷ ps) = with_runs (with_run c p) ps

-- the certificates of some runs
abbrev pub counts_of : List Piece → Counts
counts_of ps = with_runs no_counts ps

abbrev pub all_of : Counts → ℕ
all_of c = c.held + c.cancelled + c.expired + c.withdrawn + c.exported
