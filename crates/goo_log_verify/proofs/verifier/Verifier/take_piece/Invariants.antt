use Rattle.std.proofs.Common.{◌++◌, List, ℕ, take}
use Rattle.goo_log_journal.specs.Place.{Place}
use Rattle.goo_log_verify.specs.Verdicts.{Stands}
use Rattle.goo_log_verify.proofs.verifier.Verifier.take_piece.Given as goal

abbrev pub invariant-loop-index : goal.invariant-loop-index
invariant-loop-index l =
    (from : Place) (bytes : List ℕ) → Stands l.key from bytes l.initial.self → Stands l.key from (bytes ++ take l.index l.piece) l.self
