use Rattle.std.proofs.Common.{List, ℕ}
use Rattle.std.specs.Io.KnownBytes.{Consumes}
use Rattle.goo_log_journal.specs.Read.{place_of}
use Rattle.goo_log_verify.specs.Verdicts.{Stands}
use Rattle.goo_log_verify.proofs.verifier.verify.Given as goal

abbrev pub invariant-loop : goal.invariant-loop
invariant-loop g l =
    (seen : List ℕ) × Consumes (g.R.Read.remaining l.initial.journal) (g.R.Read.remaining l.journal) seen × Stands l.key (place_of l.fn.from) seen l.verifier
