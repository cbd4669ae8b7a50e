use Rattle.std.proofs.Common.{rules}
use Rattle.goo_store_changes.proofs.committing.commit_changes.Goals as goal

pub returns-clause-crash : goal.returns-clause-crash
returns-clause-crash g c = search rules

pub returns-clause-clean : goal.returns-clause-clean
returns-clause-clean g c = c.commit_together.ensures.clean

pub returns-clause-outside : goal.returns-clause-outside
returns-clause-outside g c = c.commit_together.ensures.outside

pub returns-clause-works : goal.returns-clause-works
returns-clause-works g c = c.commit_together.ensures.works

pub returns-clause-was_open : goal.returns-clause-was_open
returns-clause-was_open g c = c.commit_together.ensures.was_open

pub returns-clause-done : goal.returns-clause-done
returns-clause-done g c = c.commit_together.ensures.done

pub returns-clause-refused : goal.returns-clause-refused
returns-clause-refused g c = c.commit_together.ensures.refused

pub returns-clause-live : goal.returns-clause-live
returns-clause-live g c = c.commit_together.ensures.live

pub returns-clause-kept : goal.returns-clause-kept
returns-clause-kept g c = c.commit_together.ensures.kept
