use Rattle.std.proofs.Common.{◌∙◌, ap, is_some, None, pos, refl, sym}
use Rattle.sqlite.specs.Held.{state as view}
use Rattle.std.proofs.Common.{◌&&◌}
use Rattle.std.specs.Cmp.Lexicographic.{nat_list_cmp_total}
use Rattle.std.specs.Ordering.{int_eq}
use Rattle.sqlite_typed.specs.Tests.{bytes_eq}
use Rattle.goo_spec.specs.Lots.{key_of, lot_key}
use Rattle.goo_spec_tables.specs.Places.{lot_of}
use Rattle.goo_spec_tables.proofs.Known.{known_row, lot_test}
use Rattle.goo_spec_tables.specs.States.{state_of}
use Rattle.goo_store_judge.proofs.Looking.{looked, refused_look, well}
use Rattle.goo_store_pieces.proofs.Found.{lot_known}
use Rattle.goo_store_judge.proofs.Blaming.{blames, refused_blames}
use Rattle.goo_store_values.proofs.RowsRead.{found_row, lots_kept}
use Rattle.goo_tables_rows.specs.Rows.{lot_in}
use Rattle.goo_store_values.specs.Reading.{IsReadableLot}
use Rattle.goo_store_judge.specs.Moments.{tables_in}
use Rattle.goo_store_pieces.proofs.Caching.{lasts_on}
use Rattle.goo_store.proofs.shelf.SqlShelfShelf.lot.Goals as goal

pub returns-then-self-clause-looks : goal.returns-then-self-clause-looks
returns-then-self-clause-looks g c = refused_look (view g.S.Store c.args.self.now.conn) c.args.self.now.well c.args.self.now.refused c.if-self.true (λ live db may. g.met.S.Store.settled c.args.self.now.conn.store db live may) _

pub invariant_of-self : goal.invariant_of-self
invariant_of-self g c = record {
  outside = c.find_lot-found.ensures.outside c.args.self.now.outside;
  well = well (view g.S.Store c.args.self.now.conn) (view g.S.Store c.find_lot-found.new.conn) c.args.self.now.well _ _ c.find_lot-found.ensures.looks;
  known =
      lot_known (view g.S.Store c.args.self.now.conn) (view g.S.Store c.find_lot-found.new.conn) c.args.self.now.well _ _ c.find_lot-found.ensures.looks
      (record { origin = c.args.origin; device = c.args.device.now; first_day = c.args.first_day })
      (λ lots none.
      ap is_some
      (sym (known_row nat_list_cmp_total (λ l. key_of (lot_of l)) (lot_key c.args.origin c.args.device.now c.args.first_day) _
      (λ l. (λ i. int_eq (pos l.origin) (pos ((c.from-origin.ensures ∙ c.get.ensures.value) i)) && (bytes_eq l.device (c.text.ensures.value i) && bytes_eq l.first_day ((c.as_str.ensures.value ∙ c.text-day.ensures.text) i)))
      ∙ lot_test l.origin l.device l.first_day c.args.origin c.args.device.now c.args.first_day c.text-day.ensures.limit)
      lot_of lots None None (sym none) refl)))
      c.read_found-lot.result c.read_found-lot.ensures.value c.args.self.now.known_rows
      (record { own = c.args.self.now.known_rows.own; basis = c.args.self.now.known_rows.basis; lots = record { found = c.read_found-lot.new.lots; missing = c.keep_missing.new.missing }; edges = c.args.self.now.known_rows.edges }) refl refl (λ none is. is) c.args.self.now.known
      c.read_found-lot.ensures.kept c.keep_missing.ensures.kept;
  cached = lasts_on (view g.S.Store c.args.self.now.conn) (view g.S.Store c.find_lot-found.new.conn) c.args.self.now.well _ _ c.find_lot-found.ensures.looks c.args.self.now.cache c.is_ok-self.result c.is_ok-self.ensures.value c.args.self.now.cached;
}

pub returns-clause-looks : goal.returns-clause-looks
unfolding state_of
returns-clause-looks g c =
    looked (view g.S.Store c.args.self.now.conn) (view g.S.Store c.find_lot-found.new.conn) c.args.self.now.well _ _ c.find_lot-found.ensures.looks _ _ c.read_found-lot.result
    c.args.self.now.refused c.note_fault.new.refused c.note_fault.result (λ live db may. g.met.S.Store.settled c.args.self.now.conn.store db live may) c.if-self.false c.read_found-lot.ensures.value c.note_fault.ensures
    (λ kept row lot found read.
    known_row nat_list_cmp_total (λ l. key_of (lot_of l)) (lot_key c.args.origin c.args.device.now c.args.first_day) _
    (λ l. (λ i. int_eq (pos l.origin) (pos ((c.from-origin.ensures ∙ c.get.ensures.value) i)) && (bytes_eq l.device (c.text.ensures.value i) && bytes_eq l.first_day ((c.as_str.ensures.value ∙ c.text-day.ensures.text) i)))
    ∙ lot_test l.origin l.device l.first_day c.args.origin c.args.device.now c.args.first_day c.text-day.ensures.limit)
    lot_of _ _ lot found read)

pub returns-then-self-clause-store : goal.returns-then-self-clause-store
returns-then-self-clause-store g c = refused_blames (view g.S.Store c.args.self.now.conn) c.args.self.now.refused _ c.if-self.true

pub returns-clause-store : goal.returns-clause-store
returns-clause-store g c =
    blames (view g.S.Store c.args.self.now.conn) (view g.S.Store c.find_lot-found.new.conn) c.args.self.now.well _ _ c.find_lot-found.ensures.looks _ _ c.read_found-lot.result c.args.self.now.refused c.note_fault.new.refused c.note_fault.result
    c.find_lot-found.ensures.readable c.read_found-lot.ensures.accepts c.note_fault.ensures (λ can. can.lots)
    (λ stands kept row found. found_row lot_in IsReadableLot _ (tables_in (view g.S.Store c.args.self.now.conn)).lots (lots_kept (view g.S.Store c.args.self.now.conn).now (tables_in (view g.S.Store c.args.self.now.conn)) stands kept) row found)
