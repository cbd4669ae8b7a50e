use Rattle.std.proofs.Common.{◌≡◌, ◌∙◌, inl, inr, refl, arith, rules, subst, sym}
use Rattle.sqlite.specs.Held.{state}
use Rattle.sqlite.specs.State.{HasCleanDisk}
use Rattle.sqlite.specs.Effect.{Database}
use Rattle.goo_store_anew.specs.Answered.{Shows, rows_at}
use Rattle.goo_store_anew.proofs.Rows.{below, rows_here}
use Rattle.goo_store_anew.proofs.Quieting.{quiet_itself, quiet_then}
use Rattle.goo_store_anew.proofs.asking.have_rows.Goals as goal

pub loop-at-init : goal.loop-at-init
loop-at-init g c = record { name = refl; quiet = quiet_itself (state g.S.Store c.args.tx.now.conn.now); told = λ clean i low. absurd (omega (arith, low)) }

pub loop-at-preserved : goal.loop-at-preserved
loop-at-preserved g c =
    let mid = state g.S.Store c.loop-at.tx.conn.now in
    let new = state g.S.Store c.has_rows.new.tx.conn.now in
    let at = c.loop-at.at in
    let answers = c.args.answers.now in
    let lent : c.index-answers-at.result.rows.items ≡ c.deref.result.now = search rules in
    record {
      name = c.has_rows.ensures.same_reference ∙ c.loop-at.invariant.name;
      quiet = quiet_then (state g.S.Store c.args.tx.now.conn.now) mid new c.loop-at.invariant.quiet c.has_rows.ensures.quiet;
      told = λ clean i low.
          let early : HasCleanDisk mid = omega (arith, clean, c.has_rows.ensures.quiet.survives.clean) in
          let still : new.now ≡ mid.now = c.in_ok-has_rows.ensures.stays clean in
          subst (λ (d : Database). Shows d i (rows_at answers i)) (sym still)
          (elim (below i at low) [
            | inl less ↦ c.loop-at.invariant.told early i less
            | inr is ↦ subst (λ n. Shows mid.now n (rows_at answers n)) (sym is)
                (subst (Shows mid.now at) (sym (rows_here answers at c.index-answers-at.result (omega (arith, c.loop-at-test.true)) (sym c.index-answers-at.is) ∙ lent)) (c.in_ok-has_rows.ensures.same clean (search rules)))
          ]);
    }

pub returns-in_err-has_rows-clause-quiet : goal.returns-in_err-has_rows-clause-quiet
returns-in_err-has_rows-clause-quiet g c = quiet_then (state g.S.Store c.args.tx.now.conn.now) (state g.S.Store c.loop-at.tx.conn.now) (state g.S.Store c.has_rows.new.tx.conn.now) c.loop-at.invariant.quiet c.has_rows.ensures.quiet

pub returns-clause-same : goal.returns-clause-same
returns-clause-same g c = λ clean it. (refl, λ i low. c.loop-at.invariant.told clean i (omega (arith, low, c.loop-at-test.false)))
