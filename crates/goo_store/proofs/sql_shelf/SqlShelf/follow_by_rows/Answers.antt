use Rattle.std.proofs.Common.{refl}
use Rattle.sqlite.specs.Held.{state as view}
use Rattle.goo_store_judge.proofs.Looking.{looked, refused_look, well}
use Rattle.goo_store_judge.proofs.Blaming.{blames, refused_blames}
use Rattle.goo_store_pieces.proofs.Found.{known}
use Rattle.goo_store_pieces.proofs.Pages.{lasts_with_page}
use Rattle.goo_store.proofs.sql_shelf.SqlShelf.follow_by_rows.Goals as goal

pub returns-then-self-clause-looks : goal.returns-then-self-clause-looks
returns-then-self-clause-looks g c = refused_look (view g.S.Store c.args.self.now.conn) c.args.self.now.well c.args.self.now.refused c.if-self.true (λ live db may. g.met.S.Store.settled c.args.self.now.conn.store db live may) _

pub returns-then-self-clause-store : goal.returns-then-self-clause-store
returns-then-self-clause-store g c = refused_blames (view g.S.Store c.args.self.now.conn) c.args.self.now.refused _ c.if-self.true

pub invariant_of-self : goal.invariant_of-self
invariant_of-self g c = record {
  outside = c.ask_rows-found.ensures.outside c.args.self.now.outside;
  well = well (view g.S.Store c.args.self.now.conn) (view g.S.Store c.ask_rows-found.new.conn) c.args.self.now.well _ _ c.ask_rows-found.ensures.looks;
  known = known (view g.S.Store c.args.self.now.conn) (view g.S.Store c.ask_rows-found.new.conn) c.args.self.now.well _ _ c.ask_rows-found.ensures.looks c.args.self.now.known_rows c.args.self.now.known;
  cached =
      lasts_with_page c.args.account c.args.row.last (view g.S.Store c.args.self.now.conn) (view g.S.Store c.ask_rows-found.new.conn) c.args.self.now.well _ c.ask_rows-found.ensures.looks c.requires
      c.args.self.now.cache (record { answered = c.is_ok-self.result; accounts = c.args.self.now.cache.accounts; ahead = c.read_rows-shown.new.ahead }) c.is_ok-self.ensures.value refl c.read_rows-shown.ensures.ahead c.args.self.now.cached;
}

pub returns-clause-looks : goal.returns-clause-looks
returns-clause-looks g c =
    looked (view g.S.Store c.args.self.now.conn) (view g.S.Store c.ask_rows-found.new.conn) c.args.self.now.well _ _ c.ask_rows-found.ensures.looks _ _ c.read_rows-shown.result
    c.args.self.now.refused c.note_fault.new.refused c.note_fault.result (λ live db may. g.met.S.Store.settled c.args.self.now.conn.store db live may) c.if-self.false c.read_rows-shown.ensures.value c.note_fault.ensures
    (λ kept rows shown found read. read)

pub returns-clause-store : goal.returns-clause-store
returns-clause-store g c =
    blames (view g.S.Store c.args.self.now.conn) (view g.S.Store c.ask_rows-found.new.conn) c.args.self.now.well _ _ c.ask_rows-found.ensures.looks _ _ c.read_rows-shown.result c.args.self.now.refused c.note_fault.new.refused c.note_fault.result
    c.ask_rows-found.ensures.readable c.read_rows-shown.ensures.accepts c.note_fault.ensures (λ can. can.pieces) (λ stands kept rows found. tt)
