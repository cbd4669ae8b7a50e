use Rattle.std.proofs.Common.{rules}
use Rattle.goo_desk_lines.proofs.SplitFacts.{split-at, split-none}
use Rattle.goo_desk_lines.proofs.lines.split_line.Goals as goal

pub returns-in-Some : goal.returns-in-Some
returns-in-Some c = split-at c.args.text.now c.in-Some.place (search rules)

pub returns-in-None : goal.returns-in-None
returns-in-None c = split-none c.args.text.now (search rules)
