use Rattle.std.proofs.Common.{◌≡◌, ◌∙◌, refl, ap, sym, subst}
use Rattle.sqlite.specs.Held.{state as view}
use Rattle.goo_spec.specs.Created.{created}
use Rattle.goo_ranges_rows.proofs.CertificateLemmas.{certificates-rows}
use Rattle.goo_tables_rows.specs.Stands.{defects}
use Rattle.goo_store_judge.specs.Moments.{count, tables_in}
use Rattle.goo_spec_tables.specs.Places.{rows_of}
use Rattle.goo_spec_tables.specs.States.{state_of}
use Rattle.goo_store_values.specs.Passing.{open_fault_of}
use Rattle.goo_store_open.specs.declared.fault.OpenFault.TheVariants.{AlreadyThere}
use Rattle.goo_store_values.specs.declared.statement_fault.StatementFault.{StatementFault}
use Rattle.goo_store_values.specs.declared.statement_fault.StatementFault.TheVariants.{Memory, Refused}
use Rattle.goo_store.proofs.Created.{begun_state, created_tables, created_well}
use Rattle.goo_store_opening.proofs.CreationBlamed.{word_blames}
use Rattle.goo_store_judge.specs.Holding.{is_sure, safe}
use Rattle.goo_store.proofs.sql_shelf.SqlShelf.create.Goals as goal

pub over-requires-clause-well : goal.over-requires-clause-well
over-requires-clause-well g c = created_well c.args.code c.args.today c.args.next_serial c.in-Ok.ensures.limits (view g.S.Store c.begin.new.conn) c.in-Ok.ensures.done

pub returns-in-Ok-clause-state : goal.returns-in-Ok-clause-state
returns-in-Ok-clause-state g c =
    subst (λ conn. defects (view g.S.Store conn) ≡ 0 → state_of (tables_in (view g.S.Store conn)) ≡ created c.args.code c.args.today c.args.next_serial) (sym c.over.ensures.conn)
    (λ none.
    ap state_of (created_tables c.args.code c.args.today c.args.next_serial c.in-Ok.ensures.limits (view g.S.Store c.begin.new.conn) c.in-Ok.ensures.done none)
    ∙ begun_state c.args.code c.args.today c.args.next_serial c.in-Ok.ensures.limits)

pub returns-in-Ok-clause-rows : goal.returns-in-Ok-clause-rows
unfolding rows_of
returns-in-Ok-clause-rows g c =
    subst (λ conn. defects (view g.S.Store conn) ≡ 0 → rows_of (tables_in (view g.S.Store conn)) ≡ Rattle.std.specs.Prelude.[]) (sym c.over.ensures.conn)
    (λ none. ap rows_of (created_tables c.args.code c.args.today c.args.next_serial c.in-Ok.ensures.limits (view g.S.Store c.begin.new.conn) c.in-Ok.ensures.done none))

pub returns-in-Ok-clause-sound : goal.returns-in-Ok-clause-sound
returns-in-Ok-clause-sound g c none = (c.over.result.well.kept none).sound

pub returns-in-Ok-clause-rows_fit : goal.returns-in-Ok-clause-rows_fit
unfolding state_of
returns-in-Ok-clause-rows_fit g c none = certificates-rows (rows_of (tables_in (view g.S.Store c.over.result.conn))) (c.over.result.well.kept none).rising

pub returns-in-Ok-clause-apart : goal.returns-in-Ok-clause-apart
returns-in-Ok-clause-apart g c none = (c.over.result.well.kept none).apart refl

pub returns-in-Ok-clause-ready : goal.returns-in-Ok-clause-ready
returns-in-Ok-clause-ready g c = record {
  told = ap count c.over.ensures.ready;
  works = λ late. is_sure (view g.S.Store c.over.result.conn) late (subst (λ conn. Rattle.sqlite.specs.State.HasCleanDisk (view g.S.Store conn) → Rattle.std.specs.Prelude.IsTrue (view g.S.Store conn).is_open) (sym c.over.ensures.conn) c.in-Ok.ensures.works late);
  settled = λ none. safe (view g.S.Store c.over.result.conn) c.over.result.well (λ live db may. g.met.S.Store.settled c.over.result.conn.store db live may) none c.over.result.refused;
}

told_apart : (cause : StatementFault) → open_fault_of cause ≡ AlreadyThere → ⊥
told_apart Memory is = absurd cc
told_apart Refused is = absurd cc

pub returns-in-Err-clause-there : goal.returns-in-Err-clause-there
returns-in-Err-clause-there g c is = absurd (told_apart c.in-Err.cause (sym c.from.ensures ∙ is))

pub returns-in-Err-clause-untaken : goal.returns-in-Err-clause-untaken
returns-in-Err-clause-untaken g c empty is = told_apart c.in-Err.cause (sym c.from.ensures ∙ is)

pub returns-in-Err-clause-blames : goal.returns-in-Err-clause-blames
returns-in-Err-clause-blames g c empty = word_blames (view g.S.Store c.args.conn) (view g.S.Store c.begin.new.conn) c.in-Err.cause c.from.result c.from.ensures c.in-Err.ensures.blames
