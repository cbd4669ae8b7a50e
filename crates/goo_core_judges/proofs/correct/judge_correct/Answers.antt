use Rattle.std.proofs.Common.{◌≡◌, ap, subst}
use Rattle.goo_ranges_rows.specs.Rows.{meeting}
use Rattle.goo_core_shelf.specs.Meta.{meta_of}
use Rattle.goo_core_shelf.specs.declared.own.Meta.{Meta}
use Rattle.goo_core_judges.specs.Correct.{IsEntry}
use Rattle.goo_core_judges.proofs.Correcting.{ruled_refused, ruled_unranged, ruled_ranged}
use Rattle.goo_core_shelf.proofs.Looking.{looked, looked_or_full, looked_then}
use Rattle.goo_core_judges.proofs.correct.judge_correct.Goals as goal

pub returns-in-Err : goal.returns-in-Err
returns-in-Err g c =
    let old = g.S.Shelf.seen c.args.shelf.now in
    let caller = c.args.caller.now in
    let x = c.args.correct.now in
    looked old _ _ _ _ _ c.in_ok-carry.ensures (λ none entry.
    ruled_refused old.state old.rows caller x c.in-Err.refusal (subst (IsEntry old.state caller x) c.in-Err.is entry))

pub returns-in_default : goal.returns-in_default
returns-in_default g c =
    let old = g.S.Shelf.seen c.args.shelf.now in
    let caller = c.args.caller.now in
    let x = c.args.correct.now in
    looked old _ _ _ _ _ c.in_ok-carry.ensures (λ none entry.
    let passed = subst (IsEntry old.state caller x) c.in-Ok.is entry in
    ruled_unranged old.state old.rows caller x (c.requires.rows none) passed.0 c.unranged.result c.in-Ok.carry c.in_default.is passed.1 c.unranged.ensures.answered c.unranged.ensures.edits c.unranged.ensures.sent)

pub returns : goal.returns
returns g c =
    let old = g.S.Shelf.seen c.args.shelf.now in
    let caller = c.args.caller.now in
    let x = c.args.correct.now in
    let range = c.in-Some.range in
    let met = looked_then _ _ _ c.in_ok-meta.meta _ _ (λ s rows met. met.items ≡ meeting range rows) c.in_ok-meta.ensures c.in_ok-met.ensures.looks in
    let all = looked_then old _ _ c.in_ok-carry.field-0 _ _ (λ s rows met. (c.in_ok-meta.meta ≡ meta_of s) × (met.items ≡ meeting range rows)) c.in_ok-carry.ensures met in
    looked_or_full old _ c.in_ok-met.met _ _ _ _ all c.correct_certificates.ensures.memory c.correct_certificates.ensures.ruling (λ none found ruling ruled.
    let passed = subst (IsEntry old.state caller x) c.in-Ok.is found.0 in
    ruled_ranged old.state old.rows caller x (c.requires.rows none) passed.0 c.in_ok-met.met.items range c.in_ok-meta.meta.code c.in_ok-meta.meta.counters.withdrawal c.in-Ok.carry ruling c.in-Some.is
    (ap (λ (m : Meta). m.code) found.1.0) (ap (λ (m : Meta). m.counters.withdrawal) found.1.0) passed.1 found.1.1 ruled)
