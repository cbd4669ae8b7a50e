use Rattle.std.proofs.Common.{◌∙◌, refl}
use Rattle.sqlite.specs.Held.{state}
use Rattle.goo_store_anew.proofs.Quieting.{quiet_itself, quiet_then}
use Rattle.goo_store_anew.proofs.writing.insert_all.Goals as goal

pub loop-index-init : goal.loop-index-init
loop-index-init g c = record { name = refl; quiet = quiet_itself (state g.S.Store c.args.tx.now.conn.now) }

pub loop-index-preserved : goal.loop-index-preserved
loop-index-preserved g c = record {
  name = c.insert.ensures.same_reference ∙ c.loop-index.invariant.name;
  quiet = quiet_then (state g.S.Store c.args.tx.now.conn.now) (state g.S.Store c.loop-index.tx.conn.now) (state g.S.Store c.insert.new.tx.conn.now) c.loop-index.invariant.quiet c.insert.ensures.quiet;
}

pub returns-in_err-insert-clause-quiet : goal.returns-in_err-insert-clause-quiet
returns-in_err-insert-clause-quiet g c = quiet_then (state g.S.Store c.args.tx.now.conn.now) (state g.S.Store c.loop-index.tx.conn.now) (state g.S.Store c.insert.new.tx.conn.now) c.loop-index.invariant.quiet c.insert.ensures.quiet
