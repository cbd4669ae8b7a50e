use Rattle.std.proofs.Common.{◌∙◌, refl, ap, sym, pos}
use Rattle.sqlite.specs.Held.{state as view}
use Rattle.std.proofs.Common.{◌==◌}
use Rattle.std.specs.Ordering.{int_eq}
use Rattle.goo_types.specs.Place.{account_of}
use Rattle.goo_tables_rows.specs.Beside.{pieces_beside}
use Rattle.goo_store_judge.specs.Moments.{tables_in}
use Rattle.goo_spec_tables.specs.Places.{rows_of}
use Rattle.goo_spec_tables.proofs.Known.{number_is}
use Rattle.goo_spec_tables.proofs.RowsFound.{filtered, place_account}
use Rattle.goo_store_judge.proofs.Looking.{looked, refused_look, well}
use Rattle.goo_store_pieces.proofs.Found.{lots_known, some_beside}
use Rattle.goo_store_judge.proofs.Blaming.{blames, refused_blames}
use Rattle.goo_store_pieces.proofs.RowsRead.{pieces_found, pieces_read}
use Rattle.goo_store_pieces.proofs.Caching.{lasts_on}
use Rattle.goo_store.proofs.shelf.SqlShelfShelf.pieces_of.Goals as goal

pub returns-then-self-clause-looks : goal.returns-then-self-clause-looks
returns-then-self-clause-looks g c = refused_look (view g.S.Store c.args.self.now.conn) c.args.self.now.well c.args.self.now.refused c.if-self.true (λ live db may. g.met.S.Store.settled c.args.self.now.conn.store db live may) _

pub invariant_of-self : goal.invariant_of-self
invariant_of-self g c = record {
  outside = c.pieces_of_account-found.ensures.outside c.args.self.now.outside;
  well = well (view g.S.Store c.args.self.now.conn) (view g.S.Store c.pieces_of_account-found.new.conn) c.args.self.now.well _ _ c.pieces_of_account-found.ensures.looks;
  known =
      lots_known (view g.S.Store c.args.self.now.conn) (view g.S.Store c.pieces_of_account-found.new.conn) c.args.self.now.well _ _ c.pieces_of_account-found.ensures.looks (λ rows. rows.items)
      (λ rows is. some_beside (tables_in (view g.S.Store c.args.self.now.conn)) _ rows.items is)
      c.args.self.now.known_rows (record { own = c.args.self.now.known_rows.own; basis = c.args.self.now.known_rows.basis; lots = record { found = c.read_rising-rows.new.lots; missing = c.args.self.now.known_rows.lots.missing }; edges = c.args.self.now.known_rows.edges }) refl refl refl (λ none is. is) c.args.self.now.known c.read_rising-rows.ensures.kept;
  cached = lasts_on (view g.S.Store c.args.self.now.conn) (view g.S.Store c.pieces_of_account-found.new.conn) c.args.self.now.well _ _ c.pieces_of_account-found.ensures.looks c.args.self.now.cache c.is_ok-self.result c.is_ok-self.ensures.value c.args.self.now.cached;
}

pub returns-clause-looks : goal.returns-clause-looks
unfolding rows_of
returns-clause-looks g c =
    looked (view g.S.Store c.args.self.now.conn) (view g.S.Store c.pieces_of_account-found.new.conn) c.args.self.now.well _ _ c.pieces_of_account-found.ensures.looks _ _ c.read_rising-rows.result
    c.args.self.now.refused c.note_fault.new.refused c.note_fault.result (λ live db may. g.met.S.Store.settled c.args.self.now.conn.store db live may) c.if-self.false c.read_rising-rows.ensures.value c.note_fault.ensures
    (λ kept rows pieces found read.
    filtered _ (λ p. account_of p.place == c.args.account)
    (λ a. ap (λ n. int_eq (pos a.0.account) (pos n)) c.get.ensures.value ∙ number_is a.0.account c.args.account ∙ sym (ap (λ n. n == c.args.account) (place_account a.0.kind a.0.account a.0.act)))
    (pieces_beside (tables_in (view g.S.Store c.args.self.now.conn))) _ _ found read)

pub returns-then-self-clause-store : goal.returns-then-self-clause-store
returns-then-self-clause-store g c = refused_blames (view g.S.Store c.args.self.now.conn) c.args.self.now.refused _ c.if-self.true

pub returns-clause-store : goal.returns-clause-store
returns-clause-store g c =
    blames (view g.S.Store c.args.self.now.conn) (view g.S.Store c.pieces_of_account-found.new.conn) c.args.self.now.well _ _ c.pieces_of_account-found.ensures.looks _ _ c.read_rising-rows.result c.args.self.now.refused c.note_fault.new.refused c.note_fault.result
    c.pieces_of_account-found.ensures.readable c.read_rising-rows.ensures.accepts c.note_fault.ensures (pieces_read (tables_in (view g.S.Store c.args.self.now.conn)))
    (λ stands kept rows found. pieces_found (view g.S.Store c.args.self.now.conn).now (tables_in (view g.S.Store c.args.self.now.conn)) stands kept _ rows.items found)
