use Rattle.std.proofs.Common.{◌≡◌, ◌∙◌, ◌<◌, ◌+◌, arith, rules, get_or, [], Err, IfErr, refl, subst, sym}
use Rattle.sqlite.specs.Held.{state}
use Rattle.goo_tables_rows.specs.Columns.{no_schema}
use Rattle.goo_tables_rows.specs.Refused.{IsFault}
use Rattle.goo_tables.specs.Created.{create_texts, stages}
use Rattle.goo_tables.proofs.Adding.{grows_nothing, grows_next, grows_no_more, extends}
use Rattle.goo_tables.proofs.CreatingFails.{fails_added}
use Rattle.goo_tables.proofs.create.add_tables.Goals as goal

pub loop-at-init : goal.loop-at-init
loop-at-init g c = (refl, grows_nothing (state g.S.Store c.args.tx.now.conn.now))

pub loop-at-preserved : goal.loop-at-preserved
loop-at-preserved g c =
    let i = c.loop-at.at in
    let low : i < 3 = omega (arith, c.loop-at-test.true) in (
      c.put.ensures.same_reference ∙ c.loop-at.invariant.0,
      grows_next (get_or stages (15 + i) no_schema) (get_or stages (15 + (i + 1)) no_schema) (get_or create_texts (15 + i) []) (state g.S.Store c.args.tx.now.conn.now) (state g.S.Store c.loop-at.tx.conn.now) (state g.S.Store c.put.new.tx.conn.now)
          c.loop-at.invariant.1 c.put.ensures.uncommitted c.put.ensures.survives c.in_ok-put.field-0 (extends i low) (rw (c.statement.ensures) at c.in_ok-put.ensures.runs),
    )

pub returns-in_err-put-clause-refused : goal.returns-in_err-put-clause-refused
returns-in_err-put-clause-refused g c = λ clean inside has.
    let i = c.loop-at.at in
    let low : i < 3 = omega (arith, c.loop-at-test.true) in
    let same : c.from_residual.result ≡ Err c.in_err-put.field-0.0 = search rules in
    subst (λ r. IfErr r (IsFault (state g.S.Store c.args.tx.now.conn.now) (state g.S.Store c.put.new.tx.conn.now))) (sym same)
    (grows_no_more (get_or stages (15 + i) no_schema) (get_or stages (15 + (i + 1)) no_schema) (get_or create_texts (15 + i) []) (state g.S.Store c.args.tx.now.conn.now) (state g.S.Store c.loop-at.tx.conn.now) (state g.S.Store c.put.new.tx.conn.now)
    c.loop-at.invariant.1 c.put.ensures.uncommitted c.put.ensures.survives c.in_err-put.field-0.0 (fails_added i low) (rw (c.statement.ensures) at c.in_err-put.ensures.runs) clean inside has)
