use Rattle.std.proofs.Common.{rules, ◌≡◌, ◌<◌, true, false, length, arith, refl, sym, subst, ◌∙◌, true≢false}
use Rattle.std.specs.BTreeMap.{get}
use Rattle.std.proofs.lemmas.List.{take_all}
use Rattle.goo_spec.specs.State.{text_cmp}
use Rattle.goo_store_rules.specs.Production.{DoPeriodsRise}
use Rattle.goo_store_rules.proofs.PeriodLemmas.{ends_kept, rise_kept, never_rise}
use Rattle.goo_store_rules.proofs.periods.last_days.Goals as goal

pub returns-then-not-branch-clause-rising : goal.returns-then-not-branch-clause-rising
returns-then-not-branch-clause-rising c =
    let xs = c.args.declared.now in
    let i = c.loop-period.period-index in
    let low : i < length xs = omega (arith, c.loop-period-test.true) in
    let late : c.in_ok-take_in.field-0 ≡ false = search rules in (
      λ no. absurd (true≢false (sym no)),
      λ rise. absurd (never_rise xs i c.period-item.result low c.period-item.is c.loop-period.ends c.loop-period.invariant.ends (get text_cmp c.loop-period.ends c.period-item.result.device) refl (sym c.in_ok-take_in.ensures.next ∙ late) rise),
    )

pub loop-period-preserved : goal.loop-period-preserved
loop-period-preserved c =
    let xs = c.args.declared.now in
    let i = c.loop-period.period-index in
    let low : i < length xs = omega (arith, c.loop-period-test.true) in
    let next : c.in_ok-take_in.field-0 ≡ true = search rules in
    record {
      ends = ends_kept xs i c.period-item.result low c.period-item.is c.loop-period.ends c.loop-period.invariant.ends c.take_in.new.ends c.in_ok-take_in.ensures.taken;
      rising = rise_kept xs i c.period-item.result low c.period-item.is c.loop-period.ends c.loop-period.invariant.ends (get text_cmp c.loop-period.ends c.period-item.result.device) refl (sym c.in_ok-take_in.ensures.next ∙ next) c.loop-period.invariant.rising;
    }

pub returns-clause-rising : goal.returns-clause-rising
returns-clause-rising c = (λ _. subst DoPeriodsRise (take_all c.loop-period.period-index c.args.declared.now c.loop-period-test.false) c.loop-period.invariant.rising, λ _. refl)
