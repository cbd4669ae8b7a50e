use Rattle.sqlite.specs.Held.{state}
use Rattle.goo_tables_rows.proofs.Inside.{survives_both}
use Rattle.goo_store_adoption.proofs.Adopted.{rests_both}
use Rattle.goo_store_adoption.proofs.adopting.examine.Goals as goal

pub returns-clause-rests : goal.returns-clause-rests
returns-clause-rests g c clean settled =
    rests_both (state g.S.Store c.args.conn.now) (state g.S.Store c.find_layout.new.conn) (state g.S.Store c.keep_tables.new.conn) settled c.find_layout.ensures.survives c.find_layout.ensures.rests c.keep_tables.ensures.survives c.keep_tables.ensures.rests clean

pub returns-clause-survives : goal.returns-clause-survives
returns-clause-survives g c =
    survives_both (state g.S.Store c.args.conn.now) (state g.S.Store c.find_layout.new.conn) (state g.S.Store c.keep_tables.new.conn) c.find_layout.ensures.survives c.keep_tables.ensures.survives
