use Rattle.std.proofs.Common.{arith}
use Rattle.std.proofs.lemmas.Result.{IfErr-weaker}
use Rattle.sqlite.specs.Held.{state as view}
use Rattle.goo_store_opening.specs.Creating.{IsFirst}
use Rattle.goo_cli_registry.proofs.Files.{begun_or}
use Rattle.goo_cli_registry.proofs.opening.begin.Goals as goal

pub returns-clause-clean : goal.returns-clause-clean
returns-clause-clean g c = IfErr-weaker c.create.result _ _ (λ e survives late. omega (arith, survives.clean, late)) c.create.ensures.crash

pub returns-clause-crash : goal.returns-clause-crash
returns-clause-crash g c =
    let first : IsFirst c.args.opening.code c.args.opening.today c.args.opening.next_serial = record { code = c.get-code.ensures.limit; today = c.text-day.ensures.limit; serial = c.get-serial.ensures.limit } in
    IfErr-weaker c.create.result _ _ (λ e survives. begun_or c.args.opening.code c.args.opening.today c.args.opening.next_serial first (view g.S.Store c.args.conn) (view g.S.Store e.0) survives) c.create.ensures.crash
