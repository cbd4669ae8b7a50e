use Rattle.std.proofs.Common.{◌≡◌, ap, sym, ◌∙◌, subst}
use Rattle.goo_types.specs.declared.outcome.Outcome.TheVariants.{Accepted}
use Rattle.goo_spec.specs.Step.{outcome, accept}
use Rattle.goo_ranges_rows.specs.Rows.{edited_all}
use Rattle.goo_core_shelf.specs.Plan.{notice_sent}
use Rattle.goo_ranges_rows.specs.Certificates.{certificates_of}
use Rattle.goo_core_list.specs.States.{state_of}
use Rattle.goo_ranges_rows.specs.Certificates.{beside}
use Rattle.goo_ranges_rows.proofs.CertificateLemmas.{certificates-same}
use Rattle.goo_core_shelf.proofs.MapLemmas.{failing}
use Rattle.goo_core_list.proofs.list_shelf.ListShelf.carry_out.Goals as goal

pub returns-in_err-make_room-clause-undone : goal.returns-in_err-make_room-clause-undone
unfolding state_of
returns-in_err-make_room-clause-undone c = failing c.from_residual.result (ap (λ ps. beside (certificates_of ps) (state_of c.args.self.now)) c.make_room.ensures.rows)

pub keep-requires-clause-accepted : goal.keep-requires-clause-accepted
unfolding state_of
keep-requires-clause-accepted c =
    let s = state_of c.args.self.now in
    let same = ap (λ ps. beside (certificates_of ps) s) c.make_room.ensures.rows in
    subst (λ t. outcome t c.args.plan.now.request ≡ Accepted c.args.plan.now.reply) (sym same) c.requires.accepted

pub keep-requires-clause-sent : goal.keep-requires-clause-sent
unfolding state_of
keep-requires-clause-sent c =
    let s = state_of c.args.self.now in
    let same = ap (λ ps. beside (certificates_of ps) s) c.make_room.ensures.rows in
    subst (λ t. c.args.plan.now.notice ≡ notice_sent t c.args.plan.now.request.command) (sym same) c.requires.sent

pub returns-in_err-keep-clause-undone : goal.returns-in_err-keep-clause-undone
unfolding state_of
returns-in_err-keep-clause-undone c =
    failing c.from_residual-in_err-keep.result (c.in_err-keep.ensures.undone ∙ ap (λ ps. beside (certificates_of ps) (state_of c.args.self.now)) c.make_room.ensures.rows)

pub returns-clause-done : goal.returns-clause-done
unfolding state_of
returns-clause-done c =
    let s = state_of c.args.self.now in
    let q = c.args.plan.now.request in
    let edits = c.args.plan.now.edits.items in
    let same = ap (λ ps. beside (certificates_of ps) s) c.make_room.ensures.rows in
    let edited : c.edit.new.self.pieces ≡ edited_all edits c.args.self.now.rows.pieces =
    c.edit.ensures ∙ (λ i. edited_all (c.deref-2.ensures.value i) (c.in_ok-keep.ensures.rows i).pieces) ∙ ap (edited_all edits) c.make_room.ensures.rows
    in
    (λ i. beside (certificates_of (edited i)) (c.in_ok-keep.ensures.done i))
    ∙ ap (λ t. beside (certificates_of (edited_all edits c.args.self.now.rows.pieces)) (accept t q)) same
    ∙ ap (λ at. beside at (accept s q)) (certificates-same (accept s q).at (edited_all edits c.args.self.now.rows.pieces) c.requires.turned.fits)
