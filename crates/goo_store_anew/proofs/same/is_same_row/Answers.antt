use Rattle.std.proofs.Common.{◌≡◌, inl, inr, arith, rules, subst, sym}
use Rattle.sqlite.specs.Order.{column}
use Rattle.goo_store_anew.proofs.Rows.{below, same_row}
use Rattle.goo_store_anew.proofs.same.is_same_row.Goals as goal

pub loop-at-preserved : goal.loop-at-preserved
loop-at-preserved c i low = elim (below i c.loop-at.at low) [ inl less ↦ c.loop-at.invariant i less | inr is ↦ subst (λ n. column c.args.one.now n ≡ column c.args.other.now n) (sym is) (search rules) ]

pub loop-at-init : goal.loop-at-init
loop-at-init c i low = absurd (omega (arith, low))

pub returns : goal.returns
returns c it = same_row c.args.one.now c.args.other.now (search rules) (λ i low. c.loop-at.invariant i (omega (arith, low, c.loop-at-test.false)))
