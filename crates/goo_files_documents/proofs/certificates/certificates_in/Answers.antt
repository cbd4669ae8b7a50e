use Rattle.std.proofs.Common.{rules, ◌≡◌, ◌+◌, ◌<◌, ◌≤◌}
use Rattle.goo_files_documents.specs.Runs.{count_of}
use Rattle.goo_files_documents.proofs.Sums.{sum_on}
use Rattle.goo_files_documents.proofs.certificates.certificates_in.Goals as goal

pub loop-run-preserved : goal.loop-run-preserved
loop-run-preserved c =
    let p = c.run-item.result in
    let small : p.last < 100000000000000 = search rules in
    let added : c.loop-run.all ≤ 100000000000000 → c.saturating_add-all.result ≡ c.loop-run.all + count_of p = λ le. search rules in
    sum_on c.args.runs.now c.loop-run.run-index c.loop-run.all c.saturating_add-all.result p c.loop-run-test.true c.run-item.is small c.loop-run.invariant added
