use Rattle.std.proofs.Common.{rules, ◌≡◌, ◌++◌, ◌∷◌, [], List, ℕ, take, get_or, Err}
use Rattle.goo_log_journal.specs.Place.{Place}
use Rattle.goo_log_verify.specs.Stops.{IsStop}
use Rattle.goo_log_verify.specs.Verdicts.{Stands}
use Rattle.goo_log_verify.proofs.Steps.{piece_more, stop_in_piece}
use Rattle.goo_log_verify.proofs.verifier.Verifier.take_piece.Goals as goal

pub returns-in_err-take_byte-clause-err : goal.returns-in_err-take_byte-clause-err
returns-in_err-take_byte-clause-err c =
    let is : c.from_residual.result ≡ Err c.in_err-take_byte.field-0.0 = search rules in
    let stops : (from : Place) (bytes : List ℕ) → Stands c.args.key.now from bytes c.loop-index.self
    → IsStop c.args.key.now from (bytes ++ get_or c.args.piece.now c.loop-index.index 0 ∷ []) c.in_err-take_byte.field-0.0 = search rules in
    rw is (λ from bytes stands.
    stop_in_piece c.args.key.now from bytes c.args.piece.now c.loop-index.index c.in_err-take_byte.field-0.0 c.loop-index-test.true
    (stops from (bytes ++ take c.loop-index.index c.args.piece.now) (c.loop-index.invariant from bytes stands)))

pub loop-index-preserved : goal.loop-index-preserved
loop-index-preserved c = search (rules, piece_more)
