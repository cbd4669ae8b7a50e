use Rattle.std.proofs.Common.{◌∙◌, ap, refl, pos, IsTrue}
use Rattle.sqlite.specs.Held.{state as view}
use Rattle.std.proofs.Common.{◌&&◌, option_map}
use Rattle.sqlite_typed.specs.Tests.{bytes_eq}
use Rattle.goo_core_shelf.specs.Shelf.{receipt_of as seen_from}
use Rattle.goo_tables_rows.specs.Rows.{receipt_in}
use Rattle.goo_spec_tables.specs.Replies.{receipt_of}
use Rattle.goo_spec_tables.proofs.Known.{known_kept, receipt_test, receipt_total}
use Rattle.goo_spec_tables.specs.States.{state_of}
use Rattle.goo_store_judge.proofs.Looking.{looked, refused_look, well}
use Rattle.goo_store_pieces.proofs.Found.{known}
use Rattle.goo_store_judge.proofs.Blaming.{blames, refused_blames}
use Rattle.goo_store_values.proofs.RowsRead.{found_part, each_so}
use Rattle.goo_spec_tables.specs.Readable.{is_receipt}
use Rattle.goo_store_judge.specs.Moments.{tables_in}
use Rattle.goo_store_pieces.proofs.Caching.{lasts_on}
use Rattle.goo_store.proofs.shelf.SqlShelfShelf.receipt.Goals as goal

pub returns-then-self-clause-looks : goal.returns-then-self-clause-looks
returns-then-self-clause-looks g c = refused_look (view g.S.Store c.args.self.now.conn) c.args.self.now.well c.args.self.now.refused c.if-self.true (λ live db may. g.met.S.Store.settled c.args.self.now.conn.store db live may) _

pub invariant_of-self : goal.invariant_of-self
invariant_of-self g c = record {
  outside = c.find_receipt-found.ensures.outside c.args.self.now.outside;
  well = well (view g.S.Store c.args.self.now.conn) (view g.S.Store c.find_receipt-found.new.conn) c.args.self.now.well _ _ c.find_receipt-found.ensures.looks;
  known = known (view g.S.Store c.args.self.now.conn) (view g.S.Store c.find_receipt-found.new.conn) c.args.self.now.well _ _ c.find_receipt-found.ensures.looks c.args.self.now.known_rows c.args.self.now.known;
  cached = lasts_on (view g.S.Store c.args.self.now.conn) (view g.S.Store c.find_receipt-found.new.conn) c.args.self.now.well _ _ c.find_receipt-found.ensures.looks c.args.self.now.cache c.is_ok-self.result c.is_ok-self.ensures.value c.args.self.now.cached;
}

pub returns-clause-looks : goal.returns-clause-looks
unfolding state_of
returns-clause-looks g c =
    looked (view g.S.Store c.args.self.now.conn) (view g.S.Store c.find_receipt-found.new.conn) c.args.self.now.well _ _ c.find_receipt-found.ensures.looks _ _ c.read_receipt-receipt.result
    c.args.self.now.refused c.note_fault.new.refused c.note_fault.result (λ live db may. g.met.S.Store.settled c.args.self.now.conn.store db live may) c.if-self.false c.read_receipt-receipt.ensures.value c.note_fault.ensures
    (λ kept row receipt found read.
    let caller = c.args.caller.now in
    let key = c.args.key.now in
    read ∙ ap (λ known. seen_from known c.args.command.now) (known_kept receipt_total (λ k. (k.1.caller, k.1.key)) (caller, key) _
    (λ k. (λ i. bytes_eq k.1.caller (c.text.ensures.value i) && bytes_eq k.1.key (c.text-2.ensures.value i)) ∙ receipt_test k.1.caller k.1.key caller key)
    (λ k. k.1) receipt_of _ _ (option_map receipt_of (option_map receipt_in row)) found refl))

pub returns-then-self-clause-store : goal.returns-then-self-clause-store
returns-then-self-clause-store g c = refused_blames (view g.S.Store c.args.self.now.conn) c.args.self.now.refused _ c.if-self.true

pub returns-clause-store : goal.returns-clause-store
returns-clause-store g c =
    blames (view g.S.Store c.args.self.now.conn) (view g.S.Store c.find_receipt-found.new.conn) c.args.self.now.well _ _ c.find_receipt-found.ensures.looks _ _ c.read_receipt-receipt.result c.args.self.now.refused c.note_fault.new.refused c.note_fault.result
    c.find_receipt-found.ensures.readable c.read_receipt-receipt.ensures.accepts c.note_fault.ensures (λ can. can.receipts)
    (λ stands kept row found. found_part (λ k. k.1) receipt_in (λ r. IsTrue (is_receipt (pos 0, r))) _ (tables_in (view g.S.Store c.args.self.now.conn)).receipts (each_so is_receipt (λ k. IsTrue (is_receipt k)) (λ _ good. good) (tables_in (view g.S.Store c.args.self.now.conn)).receipts kept.readable.receipts) row found)
