use Rattle.goo_log_line.proofs.Cut.{entry_refused}
use Rattle.goo_log_line.proofs.line.entry_framed.Goals as goal

pub returns-in-Err-clause-err : goal.returns-in-Err-clause-err
returns-in-Err-clause-err c =
    λ memory l is same. entry_refused c.args.line.now c.args.key.now c.args.text.now c.requires (c.in-Err.ensures.err memory) l is same
