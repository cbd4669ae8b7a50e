use Rattle.std.proofs.Common.{◌≡◌, ◌∙◌, ℕ, List, sym, ap, subst}
use Rattle.std.specs.Prelude.{sum_by}
use Rattle.goo_types.specs.declared.part.Part.{Part}
use Rattle.goo_spec.specs.Maps.{count_of}
use Rattle.goo_core_judges.specs.Import.{AreArriving}
use Rattle.goo_core_judges.specs.Taking.{IsTakeRuling}
use Rattle.goo_core_moves.specs.declared.arriving.Arriving.{Arriving}
use Rattle.goo_core_judges.proofs.Importing.{met_all, ruled_for, ruled_fresh}
use Rattle.goo_core_shelf.proofs.Looking.{looked_or_full}
use Rattle.goo_core_moves.proofs.Stopping.{looked_failed}
use Rattle.goo_core_judges.proofs.import.import_certificates.Goals as goal

pub returns : goal.returns
returns g c =
    let old = g.S.Shelf.seen c.args.shelf.now in
    let x = c.args.import.now in
    let known = c.deref.result.now in
    let own = c.args.own in
    let account = c.account-account.result in
    let count = c.count_in_all-count.result in
    let counted : count ≡ sum_by (λ p. count_of p.range) x.notice.parts = c.count_in_all-count.ensures ∙ ap (λ (ps : List Part). sum_by (λ p. count_of p.range) ps) c.parts-parts.ensures.value in
    looked_or_full old _ c.in_ok-arriving.arriving _ _ _ _ c.in_ok-arriving.ensures c.take_in.ensures.memory (ruled_for known own account count c.take_in.result c.take_in.ensures.ruling) (λ none found ruling is mine_is passed.
    let kept = c.requires.rows none in
    let listed : AreArriving old.state old.rows x.notice.parts c.in_ok-arriving.arriving.items = subst (λ (ps : List Part). AreArriving old.state old.rows ps c.in_ok-arriving.arriving.items) c.parts-parts.ensures.value found in
    let are : AreArriving old.state old.rows x.notice.parts known = subst (λ (l : List Arriving). AreArriving old.state old.rows x.notice.parts l) (sym c.deref.ensures.value) listed in
    let ruled : IsTakeRuling old.rows known own account count ruling = is old.rows kept.disjoint (met_all old.state old.rows x.notice.parts known are) in
    let mine : IsTakeRuling old.rows known old.state.own account count ruling = subst (λ (k : ℕ). IsTakeRuling old.rows known k account count ruling) mine_is ruled in
    let theirs : IsTakeRuling old.rows known old.state.own x.notice.account count ruling = subst (λ (k : ℕ). IsTakeRuling old.rows known old.state.own k count ruling) c.account-account.ensures mine in
    ruled_fresh old.state old.rows kept x known count ruling c.parts-parts.ensures.limit are counted passed theirs)

pub returns-in_err-arriving : goal.returns-in_err-arriving
returns-in_err-arriving g c = looked_failed _ _ _ _ _ _ c.from_residual.ensures.1 c.in_err-arriving.ensures
