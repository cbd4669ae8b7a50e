use Rattle.std.proofs.Common.{◌≡◌, ◌∙◌, map, rules, subst, Err}
use Rattle.sqlite.specs.Held.{state as view}
use Rattle.goo_tables_rows.proofs.Results.{if_ok}
use Rattle.goo_store_judge.specs.Moments.{tables_in}
use Rattle.goo_store_audit.specs.Counting.{IsTallyOf}
use Rattle.goo_store_audit.specs.Summing.{summed_for}
use Rattle.goo_store_judge.proofs.Looking.{failed_then, looked_both}
use Rattle.goo_store.proofs.WholeLemmas.{state_totals, told_each}
use Rattle.goo_spec_tables.specs.Places.{rows_of}
use Rattle.goo_spec_tables.specs.States.{state_of}
use Rattle.goo_store_judge.proofs.Blaming.{blamed_then, blamed_both, blamed_err}
use Rattle.goo_store.proofs.sql_shelf.SqlShelf.totals_beside.Goals as goal

pub returns-in_err-tally-clause-looks : goal.returns-in_err-tally-clause-looks
returns-in_err-tally-clause-looks g c =
    let mid = c.net_energy.new.self in
    let new = c.count_pages.new.self in
    let same : c.from_residual-in_err-tally.result ≡ Err c.in_err-tally.field-0.0 = search rules in
    failed_then (view g.S.Store c.args.self.now.conn) (view g.S.Store mid.conn) (view g.S.Store new.conn) c.args.self.now.refused mid.refused new.refused new.refused
    c.in_ok-declared.declared _ c.in_ok-declared.ensures.looks _ _ c.in_err-tally.field-0.0 c.from_residual-in_err-tally.result same c.in_err-tally.ensures.looks

pub returns-clause-looks : goal.returns-clause-looks
returns-clause-looks g c =
    let old = view g.S.Store c.args.self.now.conn in
    let mid = c.net_energy.new.self in
    let new = c.count_pages.new.self in
    let t = tables_in old in
    let s = state_of t in
    let taken = c.args.taken.now in
    looked_both old (view g.S.Store mid.conn) (view g.S.Store new.conn) c.args.self.now.refused mid.refused new.refused c.note_fault.new.refused
    c.in_ok-declared.declared _ c.in_ok-declared.ensures.looks c.in_ok-tally.tally _ _ c.totals_over-totals.result c.note_fault.result c.in_ok-tally.ensures.looks c.note_fault.ensures
    (λ fine same declared counted.
    if_ok c.totals_over-totals.result c.totals_over-totals.ensures.value (λ totals is own devices took.
    let counts = subst (λ rows. IsTallyOf c.args.own s.corrections rows c.in_ok-tally.tally) same (counted s.corrections took.withdrawals) in
    is ∙ told_each c.args.own s.declarations s.corrections (rows_of t) c.in_ok-declared.declared taken c.in_ok-tally.tally declared took counts c.args.devices.now
    ∙ (λ i. map (summed_for (own i) s.declarations s.corrections (rows_of t)) (devices i))
    ∙ state_totals t (c.args.self.now.well.kept fine).rising))

pub returns-in_err-tally-clause-store : goal.returns-in_err-tally-clause-store
returns-in_err-tally-clause-store g c =
    let old = view g.S.Store c.args.self.now.conn in
    let mid = c.net_energy.new.self in
    let new = c.count_pages.new.self in
    let same : c.from_residual-in_err-tally.result ≡ Err c.in_err-tally.field-0.0 = search rules in
    blamed_err old (view g.S.Store new.conn) c.args.self.now.refused c.in_err-tally.field-0.0 c.from_residual-in_err-tally.result same
    (blamed_then old (view g.S.Store mid.conn) (view g.S.Store new.conn) c.args.self.now.refused mid.refused new.refused c.in_ok-declared.declared _ c.in_ok-declared.ensures.looks c.in_ok-declared.ensures.store
    (Err c.in_err-tally.field-0.0) _ c.in_err-tally.ensures.looks c.in_err-tally.ensures.store)

pub returns-clause-store : goal.returns-clause-store
returns-clause-store g c =
    let old = view g.S.Store c.args.self.now.conn in
    let mid = c.net_energy.new.self in
    let new = c.count_pages.new.self in
    blamed_both old (view g.S.Store mid.conn) (view g.S.Store new.conn) c.args.self.now.refused mid.refused new.refused
    c.in_ok-declared.declared _ c.in_ok-declared.ensures.looks c.in_ok-declared.ensures.store c.in_ok-tally.tally _ c.note_fault.new.refused c.totals_over-totals.result c.note_fault.result
    c.in_ok-tally.ensures.looks c.in_ok-tally.ensures.store c.note_fault.ensures
    (λ fine same declared counted. c.totals_over-totals.ensures.memory)
