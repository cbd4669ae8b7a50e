use Rattle.std.proofs.Common.{◌≡◌, ◌∙◌, ◌<◌, ◌+◌, arith, rules, get_or, [], Err, IfErr, refl, subst, sym}
use Rattle.goo_tables_rows.specs.Refused.{IsFault}
use Rattle.sqlite.specs.Held.{state}
use Rattle.goo_tables_rows.specs.Columns.{no_schema}
use Rattle.goo_tables.specs.Created.{create_texts, stages}
use Rattle.goo_tables.proofs.Creating.{makes_nothing, makes_next, makes_no_more, leads}
use Rattle.goo_tables.proofs.CreatingFails.{fails}
use Rattle.goo_tables.proofs.create.create_tables.Goals as goal

pub loop-at-init : goal.loop-at-init
loop-at-init g c = (refl, makes_nothing (state g.S.Store c.args.tx.now.conn.now))

pub loop-at-preserved : goal.loop-at-preserved
loop-at-preserved g c =
    let i = c.loop-at.at in
    let low : i < 18 = omega (arith, c.loop-at-test.true) in (
      c.put.ensures.same_reference ∙ c.loop-at.invariant.0,
      makes_next (get_or stages i no_schema) (get_or stages (i + 1) no_schema) (get_or create_texts i []) (state g.S.Store c.args.tx.now.conn.now) (state g.S.Store c.loop-at.tx.conn.now) (state g.S.Store c.put.new.tx.conn.now)
          c.loop-at.invariant.1 c.put.ensures.uncommitted c.put.ensures.survives c.in_ok-put.field-0 (leads i low) (rw (c.statement.ensures) at c.in_ok-put.ensures.runs),
    )

pub returns-in_err-put-clause-refused : goal.returns-in_err-put-clause-refused
returns-in_err-put-clause-refused g c = λ clean inside none.
    let i = c.loop-at.at in
    let low : i < 18 = omega (arith, c.loop-at-test.true) in
    let same : c.from_residual.result ≡ Err c.in_err-put.field-0.0 = search rules in
    subst (λ r. IfErr r (IsFault (state g.S.Store c.args.tx.now.conn.now) (state g.S.Store c.put.new.tx.conn.now))) (sym same)
    (makes_no_more (get_or stages i no_schema) (get_or stages (i + 1) no_schema) (get_or create_texts i []) (state g.S.Store c.args.tx.now.conn.now) (state g.S.Store c.loop-at.tx.conn.now) (state g.S.Store c.put.new.tx.conn.now)
    c.loop-at.invariant.1 c.put.ensures.uncommitted c.put.ensures.survives c.in_err-put.field-0.0 (fails i low) (rw (c.statement.ensures) at c.in_err-put.ensures.runs) clean inside none)
