use Rattle.std.proofs.Common.{◌≡◌, Err, ap, sym, ◌∙◌, rules}
use Rattle.sqlite.specs.Held.{state}
use Rattle.goo_tables_rows.proofs.Results.{if_ok}
use Rattle.goo_store_plans.proofs.Gathered.{gathers_then, gathers_made}
use Rattle.goo_spec_tables.specs.Readable.{is_meta}
use Rattle.goo_store_plans.proofs.Refusing.{blames_err, blames_made, blames_so, blames_then}
use Rattle.goo_store_plans.proofs.plan_changes.by_own_row.Goals as goal

pub returns-in-Declare-clause-gathers : goal.returns-in-Declare-clause-gathers
returns-in-Declare-clause-gathers g c =
    gathers_then (state g.S.Store c.args.conn.now) (state g.S.Store c.known_row.new.conn) (state g.S.Store c.declaration.new.conn) c.in_ok-meta.meta c.declaration.result _ _ c.in_ok-meta.ensures.gathers c.declaration.ensures.looks _
    (λ t gathered same says known device kept order fits. says c.args.plan.now.request c.in-Declare.is (same known) device (record { kept = kept; accepted = fits.accepted }))

pub returns-in-Correct-clause-gathers : goal.returns-in-Correct-clause-gathers
returns-in-Correct-clause-gathers g c =
    gathers_then (state g.S.Store c.args.conn.now) (state g.S.Store c.known_row.new.conn) (state g.S.Store c.correction.new.conn) c.in_ok-meta.meta c.correction.result _ _ c.in_ok-meta.ensures.gathers c.correction.ensures.looks _
    (λ t gathered same says known device kept order fits. says c.args.plan.now.request c.in-Correct.is (same known) device order (record { kept = kept; accepted = fits.accepted }))

pub returns-clause-gathers : goal.returns-clause-gathers
returns-clause-gathers g c =
    gathers_made (state g.S.Store c.args.conn.now) (state g.S.Store c.known_row.new.conn) c.in_ok-meta.meta c.numbered.result _ _ c.in_ok-meta.ensures.gathers
    (λ t same. if_ok c.numbered.result c.numbered.ensures.does (λ gathered does known device kept order fits. does t (same known) kept order fits))

pub returns-in_err-meta-clause-blames : goal.returns-in_err-meta-clause-blames
returns-in_err-meta-clause-blames g c =
    let s0 = state g.S.Store c.args.conn.now in
    let s1 = state g.S.Store c.known_row.new.conn in
    let same : c.from_residual.result ≡ Err c.in_err-meta.field-0.0 = search rules in
    blames_err s0 s1 c.in_err-meta.field-0.0 c.from_residual.result _ same (blames_so s0 s1 (Err c.in_err-meta.field-0.0) _ _ c.in_err-meta.ensures.blames (λ t stands kept needs. tt))

pub returns-in-Declare-clause-blames : goal.returns-in-Declare-clause-blames
returns-in-Declare-clause-blames g c =
    blames_then (state g.S.Store c.args.conn.now) (state g.S.Store c.known_row.new.conn) (state g.S.Store c.declaration.new.conn) c.in_ok-meta.meta _ c.in_ok-meta.ensures.gathers _ c.in_ok-meta.ensures.blames
    c.declaration.result _ c.declaration.ensures.looks _ c.declaration.ensures.blames _
    (λ t stands kept needs same. needs.declares c.in_ok-meta.meta _ (same needs.own_is) c.in-Declare.is)

pub returns-in-Correct-clause-blames : goal.returns-in-Correct-clause-blames
returns-in-Correct-clause-blames g c =
    blames_then (state g.S.Store c.args.conn.now) (state g.S.Store c.known_row.new.conn) (state g.S.Store c.correction.new.conn) c.in_ok-meta.meta _ c.in_ok-meta.ensures.gathers _ c.in_ok-meta.ensures.blames
    c.correction.result _ c.correction.ensures.looks _ c.correction.ensures.blames _
    (λ t stands kept needs same. needs.corrects c.in_ok-meta.meta _ (same needs.own_is) c.in-Correct.is)

pub returns-clause-blames : goal.returns-clause-blames
returns-clause-blames g c =
    blames_made (state g.S.Store c.args.conn.now) (state g.S.Store c.known_row.new.conn) c.in_ok-meta.meta _ c.in_ok-meta.ensures.gathers _ c.in_ok-meta.ensures.blames c.numbered.result _
    (λ t stands kept needs same. c.numbered.ensures.memory (ap is_meta (sym (same needs.own_is)) ∙ kept.readable.meta) (needs.takes c.in_ok-meta.meta (same needs.own_is) (search rules) (search rules)))
