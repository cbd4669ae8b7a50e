use Rattle.std.proofs.Common.{inr, subst, List}
use Rattle.goo_cli_system.specs.Deeds.{Deed, LetsGo}
use Rattle.goo_cli_system.proofs.performing.make_at.Goals as goal

-- what was opened is what the command worked with, and what it left is what was let go
pub returns-in-Ok : goal.returns-in-Ok
returns-in-Ok g c =
    let it = c.init_in_files-ending.ensures in
    inr (record {
      files = c.in-Ok.opened.files;
      here = c.in-Ok.ensures.at.here;
      rest = c.init_in_files-ending.result.1;
      comes = record { words = it.words; made = it.made; said = it.said; unready = it.unready; there = λ one. (it.there one).1; tells = it.tells; left = it.left };
      last = c.settle.result.files;
      stays = c.settle.ensures.stays;
      is_spare = c.settle.result.is_log_spare;
      spare = c.settle.ensures.spare;
      did = subst (λ (old : List Deed). LetsGo c.args.path.now c.settle.result.is_log_spare old (g.Y.System.did c.let_go.new.self)) c.in-Ok.ensures.did.0 c.let_go.ensures.did;
    })
