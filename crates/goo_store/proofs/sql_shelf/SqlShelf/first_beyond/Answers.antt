use Rattle.std.proofs.Common.{inl, inr, refl, sym, subst, []}
use Rattle.std.specs.List.{cons_option}
use Rattle.sqlite.specs.Held.{state as view}
use Rattle.goo_store_judge.specs.Moments.{tables_in}
use Rattle.goo_spec_tables.specs.Places.{rows_of}
use Rattle.goo_store_judge.proofs.Looking.{looked, refused_look, well}
use Rattle.goo_store_plans.specs.Found.{IsEdge}
use Rattle.goo_store_pieces.proofs.Found.{lots_known, first_beside}
use Rattle.goo_store_judge.proofs.Blaming.{blames, refused_blames}
use Rattle.goo_store_pieces.proofs.RowsRead.{pieces_read}
use Rattle.goo_store.proofs.NextRow.{beyond_found, beyond_read, edge_after}
use Rattle.goo_store_pieces.proofs.Caching.{lasts_on}
use Rattle.goo_store.proofs.sql_shelf.SqlShelf.first_beyond.Goals as goal

pub returns-then-self-clause-looks : goal.returns-then-self-clause-looks
returns-then-self-clause-looks g c = refused_look (view g.S.Store c.args.self.now.conn) c.args.self.now.well c.args.self.now.refused c.if-self.true (λ live db may. g.met.S.Store.settled c.args.self.now.conn.store db live may) _

pub invariant_of-self : goal.invariant_of-self
invariant_of-self g c = record {
  outside = c.ask_next-found.ensures.outside c.args.self.now.outside;
  well = well (view g.S.Store c.args.self.now.conn) (view g.S.Store c.ask_next-found.new.conn) c.args.self.now.well _ _ c.ask_next-found.ensures.looks;
  known =
      lots_known (view g.S.Store c.args.self.now.conn) (view g.S.Store c.ask_next-found.new.conn) c.args.self.now.well _ _ c.ask_next-found.ensures.looks (λ row. cons_option row [])
      (λ row is. first_beside (tables_in (view g.S.Store c.args.self.now.conn)) _ row is)
      c.args.self.now.known_rows (record { own = c.args.self.now.known_rows.own; basis = c.args.self.now.known_rows.basis; lots = record { found = c.read_beyond-row.new.lots; missing = c.args.self.now.known_rows.lots.missing }; edges = c.edges_after-self.result }) refl refl refl
      (λ none were. record {
        last = edge_after (view g.S.Store c.args.self.now.conn) (view g.S.Store c.ask_next-found.new.conn) c.args.self.now.well c.args.sought.now c.ask_next-found.ensures.dated c.args.after _ c.ask_next-found.ensures.looks
            c.read_beyond-row.result c.read_beyond-row.ensures.value c.edges_after-self.result.last c.edges_after-self.ensures.last none;
        asked =
            elim c.edges_after-self.ensures.asked [
              | inl is ↦ subst (λ o. IsEdge o (rows_of (tables_in (view g.S.Store c.ask_next-found.new.conn)))) (sym is) were.last
              | inr is ↦ subst (λ o. IsEdge o (rows_of (tables_in (view g.S.Store c.ask_next-found.new.conn)))) (sym is) were.asked
            ];
      })
      c.args.self.now.known c.read_beyond-row.ensures.kept;
  cached = lasts_on (view g.S.Store c.args.self.now.conn) (view g.S.Store c.ask_next-found.new.conn) c.args.self.now.well _ _ c.ask_next-found.ensures.looks c.args.self.now.cache c.is_ok-self.result c.is_ok-self.ensures.value c.args.self.now.cached;
}

pub returns-clause-looks : goal.returns-clause-looks
unfolding rows_of
returns-clause-looks g c =
    looked (view g.S.Store c.args.self.now.conn) (view g.S.Store c.ask_next-found.new.conn) c.args.self.now.well _ _ c.ask_next-found.ensures.looks _ _ c.read_beyond-row.result
    c.args.self.now.refused c.note_fault.new.refused c.note_fault.result (λ live db may. g.met.S.Store.settled c.args.self.now.conn.store db live may) c.if-self.false c.read_beyond-row.ensures.value c.note_fault.ensures
    (λ kept row piece found read. beyond_found (tables_in (view g.S.Store c.args.self.now.conn)) kept c.args.sought.now c.ask_next-found.ensures.dated c.args.after _ piece found read)

pub returns-then-self-clause-store : goal.returns-then-self-clause-store
returns-then-self-clause-store g c = refused_blames (view g.S.Store c.args.self.now.conn) c.args.self.now.refused _ c.if-self.true

pub returns-clause-store : goal.returns-clause-store
returns-clause-store g c =
    blames (view g.S.Store c.args.self.now.conn) (view g.S.Store c.ask_next-found.new.conn) c.args.self.now.well _ _ c.ask_next-found.ensures.looks _ _ c.read_beyond-row.result c.args.self.now.refused c.note_fault.new.refused c.note_fault.result
    c.ask_next-found.ensures.readable c.read_beyond-row.ensures.accepts c.note_fault.ensures (pieces_read (tables_in (view g.S.Store c.args.self.now.conn)))
    (λ stands kept row found. beyond_read (tables_in (view g.S.Store c.args.self.now.conn)) kept (view g.S.Store c.args.self.now.conn).now stands c.args.sought.now c.ask_next-found.ensures.dated c.args.after row found)
