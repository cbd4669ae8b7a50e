use Rattle.std.proofs.Common.{◌≡◌, ℕ, List, ◌&&◌, ◌∙◌, Bool, map, ap, sym, find, Option, option_map, IsTrue}
use Rattle.sqlite.specs.Held.{state as view}
use Rattle.sqlite_typed.specs.Tests.{bytes_eq}
use Rattle.goo_types.specs.Day.{CalendarDay}
use Rattle.goo_spec.specs.Correct.{left_of, correctable}
use Rattle.goo_spec.specs.Energy.{begins}
use Rattle.goo_spec.specs.State.{Correction}
use Rattle.goo_tables_rows.specs.Rows.{Declaration, declaration_in}
use Rattle.goo_spec_tables.specs.Devices.{declaration_of}
use Rattle.goo_spec_tables.specs.Readable.{is_declaration}
use Rattle.goo_spec_tables.specs.States.{state_of}
use Rattle.goo_spec_tables.proofs.Known.{find-values, declaration_test}
use Rattle.goo_store_values.proofs.RowsRead.{found_row, each_so}
use Rattle.goo_store_judge.specs.Moments.{tables_in}
use Rattle.goo_store_judge.proofs.Looking.{looked, refused_look, well}
use Rattle.goo_store_judge.proofs.Blaming.{blames, refused_blames}
use Rattle.goo_store_pieces.proofs.Found.{known}
use Rattle.goo_store_pieces.proofs.Caching.{lasts_on}
use Rattle.goo_store.proofs.sql_shelf.SqlShelf.left_beside.Goals as goal

-- what is read of the row that is found is what is left of the declaration
left_found : (cs : List Correction) (device : List ℕ) (day : CalendarDay) (test : Declaration → Bool) → ((d : Declaration) → test d ≡ begins device day (declaration_of d)) → (ds : List Declaration) (x : Option Declaration) (y : Option ℕ)
    → x ≡ find test ds → y ≡ left_of cs (option_map declaration_of x) → y ≡ left_of cs (find (begins device day) (map declaration_of ds))
left_found cs device day test same ds x y found read =
    read ∙ ap (λ o. left_of cs (option_map declaration_of o)) found ∙ ap (left_of cs) (sym (find-values declaration_of test (begins device day) same ds))

pub returns-then-self-clause-looks : goal.returns-then-self-clause-looks
returns-then-self-clause-looks g c = refused_look (view g.S.Store c.args.self.now.conn) c.args.self.now.well c.args.self.now.refused c.if-self.true (λ live db may. g.met.S.Store.settled c.args.self.now.conn.store db live may) _

pub invariant_of-self : goal.invariant_of-self
invariant_of-self g c = record {
  outside = c.find_declaration-found.ensures.outside c.args.self.now.outside;
  well = well (view g.S.Store c.args.self.now.conn) (view g.S.Store c.find_declaration-found.new.conn) c.args.self.now.well _ _ c.find_declaration-found.ensures.looks;
  known = known (view g.S.Store c.args.self.now.conn) (view g.S.Store c.find_declaration-found.new.conn) c.args.self.now.well _ _ c.find_declaration-found.ensures.looks c.args.self.now.known_rows c.args.self.now.known;
  cached = lasts_on (view g.S.Store c.args.self.now.conn) (view g.S.Store c.find_declaration-found.new.conn) c.args.self.now.well _ _ c.find_declaration-found.ensures.looks c.args.self.now.cache c.is_ok-self.result c.is_ok-self.ensures.value c.args.self.now.cached;
}

pub returns-clause-looks : goal.returns-clause-looks
unfolding state_of correctable
returns-clause-looks g c =
    let t = tables_in (view g.S.Store c.args.self.now.conn) in
    looked (view g.S.Store c.args.self.now.conn) (view g.S.Store c.find_declaration-found.new.conn) c.args.self.now.well _ _ c.find_declaration-found.ensures.looks _ _ c.read_left.result
    c.args.self.now.refused c.note_fault.new.refused c.note_fault.result (λ live db may. g.met.S.Store.settled c.args.self.now.conn.store db live may) c.if-self.false c.read_left.ensures.value c.note_fault.ensures
    (λ kept row left found read are.
    left_found c.args.corrections.now c.args.device.now c.args.first_day _
    (λ d. (λ i. bytes_eq d.device (c.text.ensures.value i) && bytes_eq d.first_day ((c.as_str.ensures.value ∙ c.text-day.ensures.text) i)) ∙ declaration_test d.device d.first_day c.args.device.now c.args.first_day c.text-day.ensures.limit)
    t.declarations _ left found read
    ∙ ap (λ cs. left_of cs (find (begins c.args.device.now c.args.first_day) (map declaration_of t.declarations))) are)

pub returns-then-self-clause-store : goal.returns-then-self-clause-store
returns-then-self-clause-store g c = refused_blames (view g.S.Store c.args.self.now.conn) c.args.self.now.refused _ c.if-self.true

pub returns-clause-store : goal.returns-clause-store
returns-clause-store g c =
    blames (view g.S.Store c.args.self.now.conn) (view g.S.Store c.find_declaration-found.new.conn) c.args.self.now.well _ _ c.find_declaration-found.ensures.looks _ _ c.read_left.result c.args.self.now.refused c.note_fault.new.refused c.note_fault.result
    c.find_declaration-found.ensures.readable c.read_left.ensures.accepts c.note_fault.ensures (λ can. can.declarations)
    (λ stands kept row found. found_row declaration_in (λ d. IsTrue (is_declaration d)) _ (tables_in (view g.S.Store c.args.self.now.conn)).declarations
    (each_so is_declaration (λ d. IsTrue (is_declaration d)) (λ _ good. good) (tables_in (view g.S.Store c.args.self.now.conn)).declarations kept.readable.declarations) row found)
