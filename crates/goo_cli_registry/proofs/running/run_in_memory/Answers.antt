use Rattle.std.proofs.Common.{arith, inr, refl}
use Rattle.std.proofs.KnownBytes.{Keeps-refl}
use Rattle.sqlite.specs.Files.{file_state}
use Rattle.sqlite_pool.specs.Pool.{state}
use Rattle.goo_spec.proofs.Creating.{created_is_sound}
use Rattle.goo_cli_registry.proofs.Files.{honest, lines_of_fault, opening_of_fault}
use Rattle.goo_cli_registry.proofs.running.run_in_memory.Goals as goal

-- a file in memory corrupts nothing
pub returns-clause-runs : goal.returns-clause-runs
unfolding state
returns-clause-runs g c = c.answer_by_tables-ending.ensures.runs (honest (file_state c.answer_by_tables-ending.result.1).is_clean refl)

pub returns-clause-sound : goal.returns-clause-sound
returns-clause-sound g c =
    let serial = c.get-serial.ensures.limit in
    created_is_sound c.args.opening.code c.args.opening.today c.args.opening.next_serial c.get-code.ensures.limit (omega (arith, serial)) (omega (arith, serial))

pub returns-in-Err-clause-runs : goal.returns-in-Err-clause-runs
returns-in-Err-clause-runs g c = inr (record { unopened = record { word = opening_of_fault c.in-Err.failure c.in-Err.ensures.word; silent = Keeps-refl _ }; unread = Keeps-refl _ })

pub returns-in-Err-clause-sound : goal.returns-in-Err-clause-sound
returns-in-Err-clause-sound g c =
    let serial = c.get-serial.ensures.limit in
    created_is_sound c.args.opening.code c.args.opening.today c.args.opening.next_serial c.get-code.ensures.limit (omega (arith, serial)) (omega (arith, serial))

pub returns-in-Err-clause-words : goal.returns-in-Err-clause-words
returns-in-Err-clause-words g c = lines_of_fault c.in-Err.failure c.in-Err.ensures.word
