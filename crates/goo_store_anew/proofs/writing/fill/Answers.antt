use Rattle.std.proofs.Common.{◌∙◌, refl}
use Rattle.sqlite.specs.Held.{state}
use Rattle.goo_store_anew.proofs.Quieting.{quiet_itself, quiet_then}
use Rattle.goo_store_anew.proofs.writing.fill.Goals as goal

pub loop-at-init : goal.loop-at-init
loop-at-init g c = record { name = refl; quiet = quiet_itself (state g.S.Store c.args.tx.now.conn.now) }

pub loop-at-preserved : goal.loop-at-preserved
loop-at-preserved g c = record {
  name = c.insert_all.ensures.same_reference ∙ c.loop-at.invariant.name;
  quiet = quiet_then (state g.S.Store c.args.tx.now.conn.now) (state g.S.Store c.loop-at.tx.conn.now) (state g.S.Store c.insert_all.new.tx.conn.now) c.loop-at.invariant.quiet c.insert_all.ensures.quiet;
}

pub returns-in_err-insert_all-clause-quiet : goal.returns-in_err-insert_all-clause-quiet
returns-in_err-insert_all-clause-quiet g c = quiet_then (state g.S.Store c.args.tx.now.conn.now) (state g.S.Store c.loop-at.tx.conn.now) (state g.S.Store c.insert_all.new.tx.conn.now) c.loop-at.invariant.quiet c.insert_all.ensures.quiet
