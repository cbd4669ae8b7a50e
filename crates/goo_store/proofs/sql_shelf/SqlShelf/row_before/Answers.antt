use Rattle.std.proofs.Common.{refl, []}
use Rattle.std.specs.List.{cons_option}
use Rattle.sqlite.specs.Held.{state as view}
use Rattle.std.proofs.Common.{nat_lt}
use Rattle.goo_tables_rows.specs.Beside.{pieces_beside}
use Rattle.goo_store_judge.specs.Moments.{tables_in}
use Rattle.goo_spec_tables.specs.Places.{rows_of}
use Rattle.goo_spec_tables.proofs.RowsFound.{last_found}
use Rattle.goo_store_judge.proofs.Looking.{looked, refused_look, well}
use Rattle.goo_store_pieces.proofs.Found.{lots_known, last_beside}
use Rattle.goo_store_judge.proofs.Blaming.{blames, refused_blames}
use Rattle.goo_store_pieces.proofs.RowsRead.{last_piece, pieces_read}
use Rattle.goo_store_pieces.proofs.Caching.{lasts_on}
use Rattle.goo_store.proofs.sql_shelf.SqlShelf.row_before.Goals as goal

pub returns-then-self-clause-looks : goal.returns-then-self-clause-looks
returns-then-self-clause-looks g c = refused_look (view g.S.Store c.args.self.now.conn) c.args.self.now.well c.args.self.now.refused c.if-self.true (λ live db may. g.met.S.Store.settled c.args.self.now.conn.store db live may) _

pub invariant_of-self : goal.invariant_of-self
invariant_of-self g c = record {
  outside = c.piece_before-found.ensures.outside c.args.self.now.outside;
  well = well (view g.S.Store c.args.self.now.conn) (view g.S.Store c.piece_before-found.new.conn) c.args.self.now.well _ _ c.piece_before-found.ensures.looks;
  known =
      lots_known (view g.S.Store c.args.self.now.conn) (view g.S.Store c.piece_before-found.new.conn) c.args.self.now.well _ _ c.piece_before-found.ensures.looks (λ row. cons_option row [])
      (λ row is. last_beside (tables_in (view g.S.Store c.args.self.now.conn)) _ row is)
      c.args.self.now.known_rows (record { own = c.args.self.now.known_rows.own; basis = c.args.self.now.known_rows.basis; lots = record { found = c.read_maybe-row.new.lots; missing = c.args.self.now.known_rows.lots.missing }; edges = c.args.self.now.known_rows.edges }) refl refl refl (λ none is. is) c.args.self.now.known c.read_maybe-row.ensures.kept;
  cached = lasts_on (view g.S.Store c.args.self.now.conn) (view g.S.Store c.piece_before-found.new.conn) c.args.self.now.well _ _ c.piece_before-found.ensures.looks c.args.self.now.cache c.is_ok-self.result c.is_ok-self.ensures.value c.args.self.now.cached;
}

pub returns-clause-looks : goal.returns-clause-looks
unfolding rows_of
returns-clause-looks g c =
    looked (view g.S.Store c.args.self.now.conn) (view g.S.Store c.piece_before-found.new.conn) c.args.self.now.well _ _ c.piece_before-found.ensures.looks _ _ c.read_maybe-row.result
    c.args.self.now.refused c.note_fault.new.refused c.note_fault.result (λ live db may. g.met.S.Store.settled c.args.self.now.conn.store db live may) c.if-self.false c.read_maybe-row.ensures.value c.note_fault.ensures
    (λ kept row piece found read.
    last_found (λ a. nat_lt a.0.first c.args.low) (λ p. nat_lt p.first c.args.low) (λ a. refl) (pieces_beside (tables_in (view g.S.Store c.args.self.now.conn))) _ piece found read)

pub returns-then-self-clause-store : goal.returns-then-self-clause-store
returns-then-self-clause-store g c = refused_blames (view g.S.Store c.args.self.now.conn) c.args.self.now.refused _ c.if-self.true

pub returns-clause-store : goal.returns-clause-store
returns-clause-store g c =
    blames (view g.S.Store c.args.self.now.conn) (view g.S.Store c.piece_before-found.new.conn) c.args.self.now.well _ _ c.piece_before-found.ensures.looks _ _ c.read_maybe-row.result c.args.self.now.refused c.note_fault.new.refused c.note_fault.result
    c.piece_before-found.ensures.readable c.read_maybe-row.ensures.accepts c.note_fault.ensures (pieces_read (tables_in (view g.S.Store c.args.self.now.conn)))
    (λ stands kept row found. last_piece (view g.S.Store c.args.self.now.conn).now (tables_in (view g.S.Store c.args.self.now.conn)) stands kept _ row found)
