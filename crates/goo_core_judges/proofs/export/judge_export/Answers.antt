use Rattle.std.proofs.Common.{◌≡◌, ◌∙◌, refl, sym, subst}
use Rattle.goo_ranges_rows.specs.Rows.{meeting}
use Rattle.goo_core_shelf.specs.Meta.{meta_of}
use Rattle.goo_core_judges.specs.Export.{IsExportRuling}
use Rattle.goo_core_shelf.specs.declared.own.Meta.{Meta}
use Rattle.goo_core_shelf.proofs.Looking.{looked, looked_or_full, looked_then}
use Rattle.goo_core_judges.proofs.Exporting.{entry-fails, ruled_export}
use Rattle.goo_core_moves.proofs.Stopping.{looked_failed, looked_on, looked_past}
use Rattle.goo_core_judges.proofs.export.judge_export.Goals as goal

pub returns-in-Some : goal.returns-in-Some
returns-in-Some g c =
    let s = (g.S.Shelf.seen c.args.shelf.now).state in
    looked _ _ _ _ _ _ c.in_ok-refusal.ensures (λ none is.
    (refl, entry-fails s c.args.caller.now c.args.export.now c.in-Some.refusal (sym is ∙ c.in-Some.is)))

pub returns : goal.returns
returns g c =
    let old = g.S.Shelf.seen c.args.shelf.now in
    let x = c.args.export.now in
    let met = looked_then _ _ _ c.in_ok-meta.meta _ _ (λ s rows met. met.items ≡ meeting x.range rows) c.in_ok-meta.ensures c.in_ok-met.ensures.looks in
    let all = looked_then _ _ _ c.in_ok-refusal.field-0 _ _ (λ s rows met. (c.in_ok-meta.meta ≡ meta_of s) × (met.items ≡ meeting x.range rows)) c.in_ok-refusal.ensures met in
    looked_or_full old _ c.in_ok-met.met _ _ _ _ all c.send_certificates.ensures.memory c.send_certificates.ensures.ruling (λ none found ruling ruled.
    ruled_export old.state old.rows c.in_ok-met.met.items c.args.caller.now x (c.requires.rows none) found.1.1 c.first-first.ensures.limit (sym found.0 ∙ c.in_default.is) (c.requires.sound none) ruling
    (subst (λ (m : Meta). IsExportRuling m.code m.counters.notice m.today x c.in_ok-met.met.items ruling) found.1.0 ruled))

pub returns-in_err-refusal : goal.returns-in_err-refusal
returns-in_err-refusal g c = looked_failed _ _ _ _ _ _ c.from_residual.ensures.1 c.in_err-refusal.ensures

pub returns-in_err-meta : goal.returns-in_err-meta
returns-in_err-meta g c = looked_past _ _ _ _ _ _ _ _ _ c.from_residual-in_err-meta.ensures.1 c.in_ok-refusal.ensures c.in_err-meta.ensures

pub returns-in_err-met : goal.returns-in_err-met
returns-in_err-met g c = looked_past _ _ _ _ _ _ _ _ _ c.from_residual-in_err-met.ensures.1 (looked_on _ _ _ _ _ _ _ c.in_ok-refusal.ensures c.in_ok-meta.ensures) c.in_err-met.ensures.looks
