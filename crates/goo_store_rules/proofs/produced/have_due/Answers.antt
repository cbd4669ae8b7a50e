use Rattle.std.proofs.Common.{rules, ◌≡◌, true, false, sym, ◌∙◌, true≢false}
use Rattle.std.specs.BTreeMap.{keys}
use Rattle.goo_store_rules.proofs.ProducedLemmas.{left_is}
use Rattle.goo_store_rules.proofs.IssueLemmas.{all_due, due_so}
use Rattle.goo_store_rules.proofs.produced.have_due.Goals as goal

pub returns-then-are_due : goal.returns-then-are_due
returns-then-are_due c = λ own lots xs cs rows counted sums.
    let left = left_is xs cs c.args.energy.now sums in
    let yes : c.are_due.result ≡ true = search rules in (
      λ issued. all_due own lots xs cs rows c.args.counts.now c.args.energy.now counted left (sym c.are_due.ensures ∙ yes) (sym c.are_due-then-are_due.ensures ∙ issued),
      λ when. c.are_due-then-are_due.ensures ∙ due_so own lots xs cs rows c.args.counts.now c.args.energy.now counted left when (keys c.args.counts.now),
    )

pub returns-else-are_due : goal.returns-else-are_due
returns-else-are_due c = λ own lots xs cs rows counted sums.
    let left = left_is xs cs c.args.energy.now sums in
    let no : c.are_due.result ≡ false = search rules in (
      λ yes. absurd (true≢false (sym yes ∙ no)),
      λ when. c.are_due.ensures ∙ due_so own lots xs cs rows c.args.counts.now c.args.energy.now counted left when (keys c.args.energy.now.declared),
    )
