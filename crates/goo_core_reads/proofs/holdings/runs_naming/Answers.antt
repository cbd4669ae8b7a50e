use Rattle.goo_core_reads.proofs.Keeping.{named_runs}
use Rattle.goo_core_shelf.proofs.Looking.{looks_as}
use Rattle.goo_core_reads.proofs.holdings.runs_naming.Goals as goal

pub returns : goal.returns
returns g c =
    looks_as _ _ c.in_ok-rows.rows c.in_ok-runs.runs _ _ c.in_ok-rows.ensures.looks (λ none found.
    let sure = c.in_ok-rows.ensures.looks.defects_stay none in
    named_runs _ _ _ _ _ (c.requires sure) found c.in_ok-runs.ensures.runs)
