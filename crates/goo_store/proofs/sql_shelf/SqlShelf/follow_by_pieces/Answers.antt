use Rattle.std.proofs.Common.{refl}
use Rattle.sqlite.specs.Held.{state as view}
use Rattle.goo_store_judge.specs.Moments.{tables_in}
use Rattle.goo_store_judge.proofs.Looking.{looked, refused_look, well}
use Rattle.goo_store_judge.proofs.Blaming.{blames, refused_blames}
use Rattle.goo_store_pieces.proofs.Found.{lots_known}
use Rattle.goo_store_pieces.proofs.RowsRead.{pieces_read}
use Rattle.goo_store_pieces.proofs.Pages.{lasts_with_pieces, page_beside, page_readable}
use Rattle.goo_store.proofs.sql_shelf.SqlShelf.follow_by_pieces.Goals as goal

pub returns-then-self-clause-looks : goal.returns-then-self-clause-looks
returns-then-self-clause-looks g c = refused_look (view g.S.Store c.args.self.now.conn) c.args.self.now.well c.args.self.now.refused c.if-self.true (λ live db may. g.met.S.Store.settled c.args.self.now.conn.store db live may) _

pub returns-then-self-clause-store : goal.returns-then-self-clause-store
returns-then-self-clause-store g c = refused_blames (view g.S.Store c.args.self.now.conn) c.args.self.now.refused _ c.if-self.true

pub invariant_of-self : goal.invariant_of-self
invariant_of-self g c = record {
  outside = c.ask_pieces-found.ensures.outside c.args.self.now.outside;
  well = well (view g.S.Store c.args.self.now.conn) (view g.S.Store c.ask_pieces-found.new.conn) c.args.self.now.well _ _ c.ask_pieces-found.ensures.looks;
  known =
      lots_known (view g.S.Store c.args.self.now.conn) (view g.S.Store c.ask_pieces-found.new.conn) c.args.self.now.well _ _ c.ask_pieces-found.ensures.looks (λ rows. rows.items)
      (λ rows is. page_beside _ _ (tables_in (view g.S.Store c.args.self.now.conn)) rows.items is)
      c.args.self.now.known_rows (record { own = c.args.self.now.known_rows.own; basis = c.args.self.now.known_rows.basis; lots = record { found = c.read_pieces-shown.new.lots; missing = c.args.self.now.known_rows.lots.missing }; edges = c.args.self.now.known_rows.edges }) refl refl refl (λ none is. is) c.args.self.now.known c.read_pieces-shown.ensures.kept;
  cached =
      lasts_with_pieces c.args.account c.args.row.last (view g.S.Store c.args.self.now.conn) (view g.S.Store c.ask_pieces-found.new.conn) c.args.self.now.well _ c.ask_pieces-found.ensures.looks c.requires
      c.args.self.now.cache (record { answered = c.is_ok-self.result; accounts = c.args.self.now.cache.accounts; ahead = c.read_pieces-shown.new.ahead }) c.is_ok-self.ensures.value refl c.read_pieces-shown.ensures.ahead c.args.self.now.cached;
}

pub returns-clause-looks : goal.returns-clause-looks
returns-clause-looks g c =
    looked (view g.S.Store c.args.self.now.conn) (view g.S.Store c.ask_pieces-found.new.conn) c.args.self.now.well _ _ c.ask_pieces-found.ensures.looks _ _ c.read_pieces-shown.result
    c.args.self.now.refused c.note_fault.new.refused c.note_fault.result (λ live db may. g.met.S.Store.settled c.args.self.now.conn.store db live may) c.if-self.false c.read_pieces-shown.ensures.value c.note_fault.ensures
    (λ kept rows shown found read. read)

pub returns-clause-store : goal.returns-clause-store
returns-clause-store g c =
    blames (view g.S.Store c.args.self.now.conn) (view g.S.Store c.ask_pieces-found.new.conn) c.args.self.now.well _ _ c.ask_pieces-found.ensures.looks _ _ c.read_pieces-shown.result c.args.self.now.refused c.note_fault.new.refused c.note_fault.result
    c.ask_pieces-found.ensures.readable c.read_pieces-shown.ensures.accepts c.note_fault.ensures (pieces_read (tables_in (view g.S.Store c.args.self.now.conn)))
    (λ stands kept rows found. page_readable _ _ (view g.S.Store c.args.self.now.conn).now (tables_in (view g.S.Store c.args.self.now.conn)) stands kept rows.items found)
