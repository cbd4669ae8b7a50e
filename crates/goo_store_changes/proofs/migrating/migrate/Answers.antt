use Rattle.std.proofs.Common.{arith}
use Rattle.sqlite.specs.State.{HasCleanDisk, IsLive}
use Rattle.sqlite.specs.Held.{state}
use Rattle.goo_tables_rows.specs.Stands.{Sees}
use Rattle.goo_store_changes.specs.Changes.{made_all}
use Rattle.goo_store_changes.proofs.migrating.migrate.Goals as goal

pub returns-clause-migrated : goal.returns-clause-migrated
returns-clause-migrated g c = λ clean t it for.
    let made : HasCleanDisk (state g.S.Store c.make_all.new.tx.conn.now) = omega (arith, clean, c.set_version.ensures.survives.clean) in
    let grown : HasCleanDisk (state g.S.Store c.add_tables.new.tx.conn.now) = omega (arith, made, c.make_all.ensures.survives.clean) in
    let first = c.in_ok-add_tables.ensures.added grown it.inside t it.first in
    c.in_ok-set_version.ensures.changed clean (made_all t c.args.changes.now) (c.in_ok-make_all.ensures.changed made t first for)

pub returns-clause-live : goal.returns-clause-live
returns-clause-live g c = λ clean live t it for.
    let made : HasCleanDisk (state g.S.Store c.make_all.new.tx.conn.now) = omega (arith, clean, c.set_version.ensures.survives.clean) in
    let grown : HasCleanDisk (state g.S.Store c.add_tables.new.tx.conn.now) = omega (arith, made, c.make_all.ensures.survives.clean) in
    let first : Sees (state g.S.Store c.add_tables.new.tx.conn.now) t = c.in_ok-add_tables.ensures.added grown it.inside t it.first in
    let then : Sees (state g.S.Store c.make_all.new.tx.conn.now) (made_all t c.args.changes.now) = c.in_ok-make_all.ensures.changed made t first for in
    let early : IsLive (state g.S.Store c.add_tables.new.tx.conn.now) = c.in_ok-add_tables.ensures.live grown live it.inside it.first.0 in
    c.in_ok-set_version.ensures.live clean (c.in_ok-make_all.ensures.live made early t first for).1 then.inside then.stands.schema
