use Rattle.std.proofs.Common.{arith, rules}
use Rattle.goo_ranges.specs.Change.{moved}
use Rattle.goo_core_rules.proofs.Changing.{one_edit, one-small, moved-outside}
use Rattle.goo_core_rules.proofs.moved_rows.move_met.Goals as goal

pub returns-clause-edits : goal.returns-clause-edits
returns-clause-edits c =
    let range = c.args.range in
    let made = c.in_ok-edit.ensures in (
      c.first-first.ensures.limit.rising,
      one_edit range c.args.book c.reassign.new.self c.in_ok-edit.edit _ (moved range.first range.last c.args.place) c.in_ok-single.ensures
          made.exact c.requires made.disjoint made.maximal (one-small range c.args.book c.in_ok-edit.edit _ c.in_ok-single.ensures made.few made.spares) (moved-outside range c.args.place) made.map,
      rw c.in_ok-single.ensures (omega arith),
    )

pub returns-clause-small : goal.returns-clause-small
returns-clause-small c = search (rules, one-small)
