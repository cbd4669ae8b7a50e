use Rattle.std.proofs.Common.{◌≡◌, ◌∙◌, List, sym, ap, subst}
use Rattle.std.specs.Prelude.{sum_by}
use Rattle.std.specs.FinMap.{get}
use Rattle.goo_types.specs.declared.part.Part.{Part}
use Rattle.goo_spec.specs.Maps.{count_of}
use Rattle.goo_core_shelf.specs.Meta.{meta_of}
use Rattle.goo_core_shelf.specs.Shelf.{arrival_of}
use Rattle.goo_core_judges.specs.Import.{IsEntry, fresh_meaning}
use Rattle.goo_core_moves.specs.Ruling.{IsRuling}
use Rattle.goo_core_judges.proofs.Importing.{ruled_early, ruled_same, ruled_other, ruled_absent}
use Rattle.goo_core_shelf.proofs.Looking.{looked, looked_then, looked_as}
use Rattle.goo_core_moves.proofs.Stopping.{looked_failed, looked_past}
use Rattle.goo_core_judges.proofs.import.judge_import.Goals as goal

pub returns-in-Err : goal.returns-in-Err
returns-in-Err g c =
    let old = g.S.Shelf.seen c.args.shelf.now in
    looked _ _ _ _ _ _ c.in_ok-meta.ensures (λ none entry. ruled_early old.state old.rows c.args.caller.now c.args.import.now c.in-Err.refusal (subst (IsEntry old.state c.args.caller.now c.args.import.now) c.in-Err.is entry))

pub returns-in-Same : goal.returns-in-Same
returns-in-Same g c =
    let old = g.S.Shelf.seen c.args.shelf.now in
    let x = c.args.import.now in
    let both = looked_then _ _ _ c.in_ok-meta.field-0 _ _ (λ s rows arrival. arrival ≡ arrival_of (get s.arrived (x.notice.sender, x.notice.number)) x.notice) c.in_ok-meta.ensures c.in_ok-arrived.ensures in
    looked _ _ _ _ _ _ both (λ none found.
    let entry = subst (IsEntry old.state c.args.caller.now x) c.in-Ok.is found.0 in
    ruled_same old.state old.rows c.args.caller.now x c.count_in_all.result entry.0 (sym c.in-Same.is ∙ found.1)
    (c.count_in_all.ensures ∙ ap (λ (ps : List Part). sum_by (λ p. count_of p.range) ps) c.parts.ensures.value))

pub returns-in-Other : goal.returns-in-Other
returns-in-Other g c =
    let old = g.S.Shelf.seen c.args.shelf.now in
    let x = c.args.import.now in
    let both = looked_then _ _ _ c.in_ok-meta.field-0 _ _ (λ s rows arrival. arrival ≡ arrival_of (get s.arrived (x.notice.sender, x.notice.number)) x.notice) c.in_ok-meta.ensures c.in_ok-arrived.ensures in
    looked _ _ _ _ _ _ both (λ none found.
    let entry = subst (IsEntry old.state c.args.caller.now x) c.in-Ok.is found.0 in
    ruled_other old.state old.rows c.args.caller.now x entry.0 (sym c.in-Other.is ∙ found.1))

pub returns-in-Absent : goal.returns-in-Absent
returns-in-Absent g c =
    let old = g.S.Shelf.seen c.args.shelf.now in
    let x = c.args.import.now in
    let meta = c.in-Ok.meta in
    let both = looked_then _ _ _ c.in_ok-meta.field-0 _ _ (λ s rows arrival. arrival ≡ arrival_of (get s.arrived (x.notice.sender, x.notice.number)) x.notice) c.in_ok-meta.ensures c.in_ok-arrived.ensures in
    let all = looked_then _ _ _ c.in_ok-arrived.field-0 _ _ (λ s rows ruling. meta ≡ meta_of s → IsRuling (fresh_meaning s x) rows ruling) both c.judge_fresh.ensures in
    looked_as old _ c.judge_fresh.result _ _ all (λ none ruling found.
    let entry = subst (IsEntry old.state c.args.caller.now x) c.in-Ok.is found.0.0 in
    ruled_absent old.state old.rows c.args.caller.now x ruling entry.0 (sym c.in-Absent.is ∙ found.0.1) (found.1 entry.1))

pub returns-in_err-meta : goal.returns-in_err-meta
returns-in_err-meta g c = looked_failed _ _ _ _ _ _ c.from_residual.ensures.1 c.in_err-meta.ensures

pub returns-in_err-arrived : goal.returns-in_err-arrived
returns-in_err-arrived g c = looked_past _ _ _ _ _ _ _ _ _ c.from_residual-in_err-arrived.ensures.1 c.in_ok-meta.ensures c.in_err-arrived.ensures
