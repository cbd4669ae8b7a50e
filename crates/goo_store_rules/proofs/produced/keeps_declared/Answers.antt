use Rattle.std.proofs.Common.{rules, ◌≡◌, ℕ, List, false, None, IsTrue, sym, ◌∙◌, true≢false}
use Rattle.std.specs.BTreeMap.{get}
use Rattle.goo_spec.specs.Declare.{declared_by, last_end}
use Rattle.goo_spec.specs.State.{text_cmp}
use Rattle.goo_tables_rows.proofs.Results.{if_ok}
use Rattle.goo_store_rules.specs.Production.{DoPeriodsRise}
use Rattle.goo_store_rules.proofs.ProducedLemmas.{progress_of_trees, progress_in_trees}
use Rattle.goo_store_rules.proofs.produced.keeps_declared.Goals as goal

pub returns-then-not-keep_progress : goal.returns-then-not-keep_progress
returns-then-not-keep_progress c = λ devices lots.
    let xs = c.args.declared.now in
    let ends : (q : List ℕ) → get text_cmp c.in-Some.ends q ≡ last_end None (declared_by q xs) = search rules in
    let no : c.keep_progress.result ≡ false = search rules in (
      λ yes. absurd (true≢false (sym yes)),
      λ kept. absurd (true≢false (sym (c.keep_progress.ensures.refused devices (progress_in_trees xs c.args.corrected.now c.in-Some.ends c.in_ok-energy.energy ends c.in_ok-energy.ensures c.args.devices.now kept.progress)) ∙ no)),
    )

pub returns : goal.returns
returns c = λ devices lots.
    let xs = c.args.declared.now in
    let ends : (q : List ℕ) → get text_cmp c.in-Some.ends q ≡ last_end None (declared_by q xs) = search rules in
    let rising : DoPeriodsRise xs = search rules in
    let kept : IsTrue c.keep_progress.result = search rules in
    if_ok c.were_issued_when_due.result (c.were_issued_when_due.ensures c.in_ok-energy.ensures lots)
    (λ yes when. (
      λ is. record { rising = rising; progress = progress_of_trees xs c.args.corrected.now c.in-Some.ends c.in_ok-energy.energy ends c.in_ok-energy.ensures c.args.devices.now (c.keep_progress.ensures.kept devices kept); issued = when.0 is },
      λ all. when.1 all.issued,
    ))
