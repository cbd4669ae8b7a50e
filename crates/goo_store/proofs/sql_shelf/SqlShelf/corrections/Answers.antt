use Rattle.std.proofs.Common.{◌∙◌, ap, map, sym, map-id}
use Rattle.goo_spec_tables.specs.Records.{correction_of}
use Rattle.sqlite.specs.Held.{state as view}
use Rattle.goo_spec_tables.specs.States.{state_of}
use Rattle.goo_store_judge.proofs.Looking.{looked, refused_look, well}
use Rattle.goo_store_pieces.proofs.Found.{known}
use Rattle.goo_store_judge.proofs.Blaming.{blames, refused_blames}
use Rattle.goo_store_pieces.proofs.RowsRead.{listed}
use Rattle.goo_spec_tables.specs.Readable.{is_correction}
use Rattle.goo_tables_rows.specs.Rows.{correction_in}
use Rattle.goo_store_judge.specs.Moments.{tables_in}
use Rattle.goo_store_pieces.proofs.Caching.{lasts_on}
use Rattle.goo_store.proofs.sql_shelf.SqlShelf.corrections.Goals as goal

pub returns-then-self-clause-looks : goal.returns-then-self-clause-looks
returns-then-self-clause-looks g c = refused_look (view g.S.Store c.args.self.now.conn) c.args.self.now.well c.args.self.now.refused c.if-self.true (λ live db may. g.met.S.Store.settled c.args.self.now.conn.store db live may) _

pub invariant_of-self : goal.invariant_of-self
invariant_of-self g c = record {
  outside = c.all_corrections-found.ensures.outside c.args.self.now.outside;
  well = well (view g.S.Store c.args.self.now.conn) (view g.S.Store c.all_corrections-found.new.conn) c.args.self.now.well _ _ c.all_corrections-found.ensures.looks;
  known = known (view g.S.Store c.args.self.now.conn) (view g.S.Store c.all_corrections-found.new.conn) c.args.self.now.well _ _ c.all_corrections-found.ensures.looks c.args.self.now.known_rows c.args.self.now.known;
  cached = lasts_on (view g.S.Store c.args.self.now.conn) (view g.S.Store c.all_corrections-found.new.conn) c.args.self.now.well _ _ c.all_corrections-found.ensures.looks c.args.self.now.cache c.is_ok-self.result c.is_ok-self.ensures.value c.args.self.now.cached;
}

pub returns-clause-looks : goal.returns-clause-looks
unfolding state_of
returns-clause-looks g c =
    looked (view g.S.Store c.args.self.now.conn) (view g.S.Store c.all_corrections-found.new.conn) c.args.self.now.well _ _ c.all_corrections-found.ensures.looks _ _ c.read_all.result
    c.args.self.now.refused c.note_fault.new.refused c.note_fault.result (λ live db may. g.met.S.Store.settled c.args.self.now.conn.store db live may) c.if-self.false c.read_all.ensures.value c.note_fault.ensures
    (λ kept rows corrections found read. read ∙ ap (map correction_of) found)

pub returns-then-self-clause-store : goal.returns-then-self-clause-store
returns-then-self-clause-store g c = refused_blames (view g.S.Store c.args.self.now.conn) c.args.self.now.refused _ c.if-self.true

pub returns-clause-store : goal.returns-clause-store
returns-clause-store g c =
    blames (view g.S.Store c.args.self.now.conn) (view g.S.Store c.all_corrections-found.new.conn) c.args.self.now.well _ _ c.all_corrections-found.ensures.looks _ _ c.read_all.result c.args.self.now.refused c.note_fault.new.refused c.note_fault.result
    c.all_corrections-found.ensures.readable c.read_all.ensures.accepts c.note_fault.ensures (λ can. can.corrections)
    (λ stands kept rows found. listed is_correction (λ d. d) correction_in (tables_in (view g.S.Store c.args.self.now.conn)).corrections rows.items (found ∙ sym (map-id (tables_in (view g.S.Store c.args.self.now.conn)).corrections)) kept.readable.corrections)
