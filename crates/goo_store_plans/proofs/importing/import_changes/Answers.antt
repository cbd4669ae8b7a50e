use Rattle.std.proofs.Common.{◌≡◌, Ok, Err, All, [], IsOkUnless, length, refl, sym, subst, rules}
use Rattle.sqlite.specs.Held.{state}
use Rattle.std.proofs.lemmas.List.Elements.{All-push}
use Rattle.goo_store_changes.specs.Changes.{ChangeFits}
use Rattle.goo_store_plans.specs.GatheredLots.{ArePutIn}
use Rattle.goo_store_changes.specs.declared.table_change.TableChange.TheVariants.{AddNoticeIn}
use Rattle.goo_store_plans.proofs.ImportCarried.{import_carried}
use Rattle.goo_store_plans.proofs.LookUps.{looks_made}
use Rattle.goo_tables_rows.specs.Rows.{lot_key}
use Rattle.goo_store_plans.specs.AtHand.{HasRoom}
use Rattle.goo_store_values.specs.declared.statement_fault.StatementFault.TheVariants.{Memory}
use Rattle.goo_store_plans.proofs.Refusing.{blames_err, blames_made, blames_so}
use Rattle.goo_store_plans.proofs.importing.import_changes.Goals as goal

pub returns-clause-looks : goal.returns-clause-looks
returns-clause-looks g c =
    let before = c.in_ok-gathered.gathered in
    looks_made (state g.S.Store c.args.conn.now) (state g.S.Store c.gather_lots.new.conn) before (Ok (record { changes = c.push.new.self; added = before.added; next = before.next })) _ _ c.in_ok-gathered.ensures.looks
    (λ t it put next are q reply is accepted.
    import_carried t c.args.import.now q reply is accepted c.parts.ensures.limit it.notices_in.rise before (subst (λ ps. ArePutIn t.lots ps [] before) c.parts.ensures.value (put next are))
    c.in_ok-row.row (λ k. c.in_ok-row.ensures.states) (λ k. c.in_ok-row.ensures.reads) (record { changes = c.push.new.self; added = before.added; next = before.next }) c.in_ok-push.ensures.items refl)

pub returns-clause-fits : goal.returns-clause-fits
returns-clause-fits g c = subst (All ChangeFits) (sym c.in_ok-push.ensures.items) (All-push ChangeFits c.in_ok-gathered.gathered.changes.items (AddNoticeIn c.in_ok-row.row) c.in_ok-gathered.ensures.fits tt)

pub returns-in_err-gathered-clause-blames : goal.returns-in_err-gathered-clause-blames
returns-in_err-gathered-clause-blames g c =
    let s0 = state g.S.Store c.args.conn.now in
    let s1 = state g.S.Store c.gather_lots.new.conn in
    let same : c.from_residual.result ≡ Err c.in_err-gathered.field-0.0 = search rules in
    blames_err s0 s1 c.in_err-gathered.field-0.0 c.from_residual.result _ same
    (blames_so s0 s1 (Err c.in_err-gathered.field-0.0) _ _ c.in_err-gathered.ensures.blames (λ t stands kept can. (can.0, subst (λ ps. HasRoom (length ps) lot_key t.lots) (sym c.parts.ensures.value) can.1)))

pub returns-in_err-row-clause-blames : goal.returns-in_err-row-clause-blames
returns-in_err-row-clause-blames g c =
    let memory : IsOkUnless c.from_residual-in_err-row.result Memory = search rules in
    blames_made (state g.S.Store c.args.conn.now) (state g.S.Store c.gather_lots.new.conn) c.in_ok-gathered.gathered _ c.in_ok-gathered.ensures.looks _ c.in_ok-gathered.ensures.blames c.from_residual-in_err-row.result _ (λ t stands kept room first. memory)

pub returns-in_err-push-clause-blames : goal.returns-in_err-push-clause-blames
returns-in_err-push-clause-blames g c =
    let memory : IsOkUnless c.from_residual-in_err-push.result Memory = search rules in
    blames_made (state g.S.Store c.args.conn.now) (state g.S.Store c.gather_lots.new.conn) c.in_ok-gathered.gathered _ c.in_ok-gathered.ensures.looks _ c.in_ok-gathered.ensures.blames c.from_residual-in_err-push.result _ (λ t stands kept room first. memory)

pub returns-clause-blames : goal.returns-clause-blames
returns-clause-blames g c =
    let before = c.in_ok-gathered.gathered in
    blames_made (state g.S.Store c.args.conn.now) (state g.S.Store c.gather_lots.new.conn) before _ c.in_ok-gathered.ensures.looks _ c.in_ok-gathered.ensures.blames
    (Ok (record { changes = c.push.new.self; added = before.added; next = before.next })) _ (λ t stands kept room first. tt)
