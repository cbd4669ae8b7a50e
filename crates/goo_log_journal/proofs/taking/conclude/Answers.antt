use Rattle.goo_log_entry.specs.Contents.{outcome_contents}
use Rattle.goo_log_journal.proofs.Taken.{waits}
use Rattle.goo_log_journal.proofs.taking.conclude.Goals as goal

pub add_outcome-requires : goal.add_outcome-requires
add_outcome-requires c = waits (outcome_contents c.args.outcome) c.args.reading.now.chain.items c.args.reading.now.waiting.items c.requires
