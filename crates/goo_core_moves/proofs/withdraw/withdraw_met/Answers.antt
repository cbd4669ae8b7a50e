use Rattle.std.proofs.Common.{sym, subst}
use Rattle.goo_ranges.specs.Accounts.{AreAccountRuns}
use Rattle.goo_core_moves.proofs.Withdrawing.{withdrawn_edits_if, few_edits_if}
use Rattle.goo_core_moves.proofs.withdraw.withdraw_met.Goals as goal

pub returns-clause-edits : goal.returns-clause-edits
returns-clause-edits c =
    let are = subst (AreAccountRuns c.args.book) (sym c.deref.ensures.value) c.in_ok-runs.ensures.runs in
    withdrawn_edits_if c.args.range c.args.act c.deref.result.now c.args.book c.withdraw_runs.new.book c.withdraw_runs.result c.first-first.ensures.limit.rising are c.withdraw_runs.ensures.made

pub returns-clause-few : goal.returns-clause-few
returns-clause-few c =
    let are = subst (AreAccountRuns c.args.book) (sym c.deref.ensures.value) c.in_ok-runs.ensures.runs in
    few_edits_if c.args.range c.deref.result.now c.args.book c.withdraw_runs.result c.first-first.ensures.limit.rising are c.withdraw_runs.ensures.one_each
