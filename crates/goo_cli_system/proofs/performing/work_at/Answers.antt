use Rattle.std.proofs.Common.{inr, subst, List}
use Rattle.goo_cli_system.specs.Deeds.{Deed, LetsGo}
use Rattle.goo_cli_system.proofs.performing.work_at.Goals as goal

-- what was opened is what the command worked with, and what it left is what was let go
pub returns-in-Ok : goal.returns-in-Ok
returns-in-Ok g c =
    let it = c.work_in_files-ending.ensures in
    inr (record {
      files = c.in-Ok.opened.files;
      here = c.in-Ok.ensures.at.here;
      rest = c.work_in_files-ending.result.1;
      comes = record { worked = it.worked; turned_away = it.turned_away };
      last = c.settle-settled.result.files;
      stays = c.settle-settled.ensures.stays;
      is_spare = c.settle-settled.result.is_log_spare;
      spare = c.settle-settled.ensures.spare;
      did = subst (λ (old : List Deed). LetsGo c.args.path.now c.settle-settled.result.is_log_spare old (g.Y.System.did c.let_go.new.self)) c.in-Ok.ensures.did.0 c.let_go.ensures.did;
    })
