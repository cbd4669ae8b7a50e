use Rattle.std.proofs.Common.{rules, ◌≡◌, nat_le, true}
use Rattle.goo_core_shelf.specs.Sought.{is_sought}
use Rattle.goo_core_list.proofs.NextLemmas.{first_hit}
use Rattle.goo_core_list.proofs.rows.first_sought.Goals as goal

pub returns-then-from-get : goal.returns-then-from-get
returns-then-from-get c =
    let p = c.row-item.result in
    let sought : is_sought c.args.sought.now p ≡ true = search rules in
    let ends : nat_le c.args.from p.last ≡ true = search rules in
    first_hit (is_sought c.args.sought.now) c.args.from c.args.rows.now c.loop-row.row-index p c.loop-row-test.true c.row-item.is sought ends c.loop-row.invariant
