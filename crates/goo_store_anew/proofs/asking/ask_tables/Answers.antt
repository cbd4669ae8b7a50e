use Rattle.std.proofs.Common.{◌≡◌, ◌∙◌, ◌+◌, ◌++◌, ◌∷◌, [], length, List, inl, inr, arith, rules, subst, sym}
use Rattle.sqlite.specs.Held.{state}
use Rattle.sqlite.specs.State.{HasCleanDisk}
use Rattle.sqlite.specs.Effect.{Database}
use Rattle.goo_tables_rows.proofs.Inside.{stays, survives_both}
use Rattle.goo_store_anew.specs.declared.answers.Answer.{Answer}
use Rattle.goo_store_anew.specs.Answered.{Shows, rows_at}
use Rattle.goo_store_anew.proofs.Rows.{below, rows_before, rows_last}
use Rattle.goo_store_anew.proofs.Resting.{rests_itself, rests_then, settled_still}
use Rattle.goo_store_anew.proofs.asking.ask_tables.Goals as goal

pub loop-at-init : goal.loop-at-init
loop-at-init g c =
    let a = state g.S.Store c.args.conn.now in
    record { within = omega arith; long = search rules; outside = λ it. it; survives = stays a; rests = λ _ _. rests_itself a; works = λ _ low. absurd (omega (arith, low)); told = λ clean settled i low. absurd (omega (arith, low)) }

pub loop-at-preserved : goal.loop-at-preserved
loop-at-preserved g c =
    let a = state g.S.Store c.args.conn.now in
    let b = state g.S.Store c.loop-at.conn in
    let d = state g.S.Store c.ask.new.conn in
    let at = c.loop-at.at in
    let had = c.loop-at.answers.items in
    let x : Answer = record { rows = c.in_ok-rows.rows } in
    let items = c.in_ok-push.ensures.items in
    record {
      within = omega (arith, c.loop-at-test.true);
      long = search rules;
      outside = λ it. c.ask.ensures.outside (c.loop-at.invariant.outside it);
      survives = survives_both a b d c.loop-at.invariant.survives c.ask.ensures.survives;
      rests = λ clean settled.
          let early : HasCleanDisk b = omega (arith, clean, c.ask.ensures.survives.clean) in
          let one = c.loop-at.invariant.rests early settled in
          rests_then a b d one (c.ask.ensures.rests clean (settled_still a b settled one));
      works = λ clean _. c.in_ok-rows.ensures.works clean;
      told = λ clean settled i low.
          let early : HasCleanDisk b = omega (arith, clean, c.ask.ensures.survives.clean) in
          let one = c.loop-at.invariant.rests early settled in
          let two = c.ask.ensures.rests clean (settled_still a b settled one) in
          let still : b.now ≡ a.now = one.now (two.was_open (c.in_ok-rows.ensures.works clean)) in
          let last : Shows a.now at x.rows.items = subst (λ (e : Database). Shows e at x.rows.items) still (c.in_ok-rows.ensures.told clean) in
          subst (λ (xs : List Answer). Shows a.now i (rows_at xs i)) (sym items)
          (elim (below i at low) [
            | inl less ↦ subst (Shows a.now i) (sym (rows_before had x i (omega (arith, less, c.loop-at.invariant.long)))) (c.loop-at.invariant.told early settled i less)
            | inr is ↦ subst (λ n. Shows a.now n (rows_at (had ++ x ∷ []) n)) (c.loop-at.invariant.long ∙ sym is)
                (subst (Shows a.now (length had)) (sym (rows_last had x)) (subst (λ n. Shows a.now n x.rows.items) (sym c.loop-at.invariant.long) last))
          ]);
    }

pub returns-in_err-rows-clause-rests : goal.returns-in_err-rows-clause-rests
returns-in_err-rows-clause-rests g c = λ clean settled.
    let a = state g.S.Store c.args.conn.now in
    let b = state g.S.Store c.loop-at.conn in
    let early : HasCleanDisk b = omega (arith, clean, c.ask.ensures.survives.clean) in
    let one = c.loop-at.invariant.rests early settled in
    rests_then a b (state g.S.Store c.ask.new.conn) one (c.ask.ensures.rests clean (settled_still a b settled one))

pub returns-in_err-push-clause-rests : goal.returns-in_err-push-clause-rests
returns-in_err-push-clause-rests g c = λ clean settled.
    let a = state g.S.Store c.args.conn.now in
    let b = state g.S.Store c.loop-at.conn in
    let early : HasCleanDisk b = omega (arith, clean, c.ask.ensures.survives.clean) in
    let one = c.loop-at.invariant.rests early settled in
    rests_then a b (state g.S.Store c.ask.new.conn) one (c.ask.ensures.rests clean (settled_still a b settled one))

pub returns-in_err-rows-clause-survives : goal.returns-in_err-rows-clause-survives
returns-in_err-rows-clause-survives g c = survives_both (state g.S.Store c.args.conn.now) (state g.S.Store c.loop-at.conn) (state g.S.Store c.ask.new.conn) c.loop-at.invariant.survives c.ask.ensures.survives

pub returns-in_err-push-clause-survives : goal.returns-in_err-push-clause-survives
returns-in_err-push-clause-survives g c = survives_both (state g.S.Store c.args.conn.now) (state g.S.Store c.loop-at.conn) (state g.S.Store c.ask.new.conn) c.loop-at.invariant.survives c.ask.ensures.survives

pub returns-clause-told : goal.returns-clause-told
returns-clause-told g c = λ clean settled. (
  omega (arith, c.loop-at.invariant.long, c.loop-at.invariant.within, c.loop-at-test.false),
  λ i low. c.loop-at.invariant.told clean settled i (omega (arith, low, c.loop-at-test.false)),
)

pub returns-clause-works : goal.returns-clause-works
returns-clause-works g c = λ clean low. c.loop-at.invariant.works clean (omega (arith, low, c.loop-at-test.false))
