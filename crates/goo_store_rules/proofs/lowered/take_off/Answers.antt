use Rattle.std.proofs.Common.{rules, ◌+◌}
use Rattle.goo_store_rules.proofs.CorrectingLemmas.{taken_more}
use Rattle.goo_store_rules.proofs.lowered.take_off.Goals as goal

pub returns : goal.returns
returns c = λ d first. taken_more c.args.sums.now c.args.device c.args.first_day (c.taken_off.result + c.args.more) c.args.more (search rules) d first c.insert.new.self (c.in_ok-insert.ensures.updates.0 (d, first))
