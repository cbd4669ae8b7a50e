use Rattle.std.proofs.Common.{◌∙◌, ap, pos, IsTrue}
use Rattle.sqlite.specs.Held.{state as view}
use Rattle.std.specs.Cmp.Lexicographic.{nat_list_cmp_total}
use Rattle.goo_spec_tables.specs.States.{state_of}
use Rattle.sqlite_typed.specs.Tests.{bytes_eq}
use Rattle.goo_spec_tables.proofs.Known.{known_kept, text_test}
use Rattle.goo_store_judge.proofs.Looking.{answered, looked, refused_look, well, before, tables_same}
use Rattle.goo_store_judge.proofs.Blaming.{blames}
use Rattle.goo_store_values.proofs.RowsRead.{found_part, each_so}
use Rattle.goo_spec_tables.specs.Readable.{is_holder}
use Rattle.goo_tables_rows.specs.Rows.{holder_in}
use Rattle.goo_store_judge.specs.Moments.{tables_in}
use Rattle.goo_store_judge.proofs.holders.name_of.Goals as goal

pub returns-then-refused-clause-looks : goal.returns-then-refused-clause-looks
returns-then-refused-clause-looks g c = refused_look (view g.S.Store c.args.conn.now) c.requires.well c.args.refused.now c.if-refused.true (λ live db may. g.met.S.Store.settled c.args.conn.now.store db live may) _

pub returns-clause-looks : goal.returns-clause-looks
unfolding state_of
returns-clause-looks g c =
    looked (view g.S.Store c.args.conn.now) (view g.S.Store c.find_holder-found.new.conn) c.requires.well _ _ c.find_holder-found.ensures.looks _ _ c.name_in.result
    c.args.refused.now c.note_fault.new.refused c.note_fault.result (λ live db may. g.met.S.Store.settled c.args.conn.now.store db live may) c.if-refused.false c.name_in.ensures.value c.note_fault.ensures
    (λ kept row name found read. known_kept nat_list_cmp_total (λ k. k.1.code) c.args.code.now _ (λ k. ap (bytes_eq k.1.code) c.text.ensures.value ∙ text_test k.1.code c.args.code.now) (λ k. k.1) (λ h. h.name) _ _ name found read)

pub returns-clause-store : goal.returns-clause-store
returns-clause-store g c =
    blames (view g.S.Store c.args.conn.now) (view g.S.Store c.find_holder-found.new.conn) c.requires.well _ _ c.find_holder-found.ensures.looks _ _ c.name_in.result c.args.refused.now c.note_fault.new.refused c.note_fault.result
    c.find_holder-found.ensures.readable c.name_in.ensures.accepts c.note_fault.ensures (λ can. can.holders)
    (λ stands kept row found. found_part (λ k. k.1) holder_in (λ r. IsTrue (is_holder (pos 0, r))) _ (tables_in (view g.S.Store c.args.conn.now)).holders (each_so is_holder (λ k. IsTrue (is_holder k)) (λ _ good. good) (tables_in (view g.S.Store c.args.conn.now)).holders kept.readable.holders) row found)

pub returns-clause-works : goal.returns-clause-works
returns-clause-works g c =
    answered (view g.S.Store c.args.conn.now) (view g.S.Store c.find_holder-found.new.conn) c.requires.well _ _ c.find_holder-found.ensures.looks _ c.name_in.result
    c.args.refused.now c.note_fault.new.refused c.note_fault.result c.name_in.ensures.value c.note_fault.ensures

pub returns-clause-well : goal.returns-clause-well
returns-clause-well g c = well (view g.S.Store c.args.conn.now) (view g.S.Store c.find_holder-found.new.conn) c.requires.well _ _ c.find_holder-found.ensures.looks

pub returns-clause-same : goal.returns-clause-same
returns-clause-same g c = λ none. (
  before (view g.S.Store c.args.conn.now) (view g.S.Store c.find_holder-found.new.conn) c.requires.well _ _ c.find_holder-found.ensures.looks none,
  tables_same (view g.S.Store c.args.conn.now) (view g.S.Store c.find_holder-found.new.conn) c.requires.well _ _ c.find_holder-found.ensures.looks none,
)
