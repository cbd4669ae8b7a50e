use Rattle.std.proofs.Common.{◌∙◌, ◌≤◌, List, length, arith, subst}
use Rattle.std.proofs.lemmas.List.{take_all}
use Rattle.sqlite.specs.State.{HasCleanDisk}
use Rattle.sqlite.specs.Held.{state}
use Rattle.goo_tables_rows.specs.Stands.{Sees}
use Rattle.goo_store_changes.specs.Changes.{made_all}
use Rattle.goo_store_changes.specs.declared.table_change.TableChange.{TableChange}
use Rattle.goo_tables_rows.proofs.Inside.{keeps_then, survives_both}
use Rattle.goo_store_changes.proofs.table_change.make_all.Goals as goal

pub loop-done-preserved : goal.loop-done-preserved
loop-done-preserved g c =
    let start = state g.S.Store c.args.tx.now.conn.now in
    let mid = state g.S.Store c.loop-done.tx.conn.now in
    let new = state g.S.Store c.make_at.new.tx.conn.now in
    record {
      within = c.in_ok-done.ensures.step.1;
      name = c.make_at.ensures.same_reference ∙ c.loop-done.invariant.name;
      changed = λ clean t it for. c.in_ok-done.ensures.changed clean t (c.loop-done.invariant.changed (omega (arith, clean, c.make_at.ensures.survives.clean)) t it for) for;
      live = λ clean live t it for.
          let early : HasCleanDisk mid = omega (arith, clean, c.make_at.ensures.survives.clean) in
          let alive = c.in_ok-done.ensures.live clean (c.loop-done.invariant.live early live t it for).1 _ (c.loop-done.invariant.changed early t it for) in
          ((λ _. alive.0), alive.1);
      uncommitted = λ clean. keeps_then start mid new (c.loop-done.invariant.uncommitted (omega (arith, clean, c.make_at.ensures.survives.clean))) (c.make_at.ensures.uncommitted clean);
      survives = survives_both start mid new c.loop-done.invariant.survives c.make_at.ensures.survives;
    }

pub returns-clause-changed : goal.returns-clause-changed
returns-clause-changed g c = λ clean t it for.
    let all : length c.args.changes.now ≤ c.loop-done.done = omega (arith, c.loop-done-test.false) in
    subst (λ (xs : List TableChange). Sees (state g.S.Store c.loop-done.tx.conn.now) (made_all t xs)) (take_all c.loop-done.done c.args.changes.now all) (c.loop-done.invariant.changed clean t it for)
