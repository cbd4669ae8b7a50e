use Rattle.std.proofs.Common.{◌≡◌, true, false, get_or, rules}
use Rattle.goo_ranges.proofs.Sparing.{first-left, first-differs, first-of_none, first-into_none, first-into_short}
use Rattle.goo_ranges.proofs.page.Page.trim_first.Goals as goal
use Rattle.goo_ranges.proofs.page.Page.trim_first.Goals.{else-from-to-via-then-from-to+then-not-is_empty+else-is_same, else-from-to-via-then-from-to+else-not-is_empty, else-from-to-via-else-from-to}

pub returns-then-is_same-clause-left : goal.returns-then-is_same-clause-left
returns-then-is_same-clause-left c = search (rules, first-left)

pub returns-clause-left : goal.returns-clause-left
returns-clause-left c = elim c.else-from-to.branch [
  | else-from-to-via-then-from-to+then-not-is_empty+else-is_same w ↦
      let other : ¬ (w.index.result.now ≡ w.index-then-not-is_empty.result.now) = λ e. let same : w.is_same.result ≡ true = w.is_same.ensures.1 e in let not_same : w.is_same.result ≡ false = w.if-is_same.false in absurd (cc) in
      let x = w.index.result.now in
      let y = w.index-then-not-is_empty.result.now in
      let there : y ≡ get_or c.args.self.now c.args.from y = search (rules, w.index-then-not-is_empty.ensures, c.self.view_is) in
      first-differs c.args.self.now c.args.from c.args.to c.args.insert.now.items x y w.if-from-to.true c.requires.bound w.index.ensures there other
  | else-from-to-via-then-from-to+else-not-is_empty w ↦ search (rules, first-into_none, first-into_short, w.is_empty.ensures, w.if-not-is_empty.ensures)
  | else-from-to-via-else-from-to w ↦ first-of_none c.args.self.now c.args.from c.args.to c.args.insert.now.items w.if-from-to.false
]
