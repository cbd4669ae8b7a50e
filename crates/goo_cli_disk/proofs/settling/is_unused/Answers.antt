use Rattle.std.proofs.Common.{arith}
use Rattle.std.proofs.lemmas.Bool.{and_parts}
use Rattle.goo_cli_disk.proofs.SpareLogs.{spare_short}
use Rattle.goo_cli_disk.proofs.settling.is_unused.Goals as goal

pub returns-then-len-lt-LEAST_LOG-clause-spare : goal.returns-then-len-lt-LEAST_LOG-clause-spare
returns-then-len-lt-LEAST_LOG-clause-spare g c is clean image may =
    let both = and_parts (g.D.Disk.is_clean c.lasting_len.new.log) (g.D.Disk.is_clean c.is_begun.new.db) clean in
    let short = c.in-Some.ensures.left both.0 image.log may.0 in
    spare_short image (omega (arith, short, c.if-len-lt-LEAST_LOG.true)) (c.is_begun.ensures.left is both.1 image.db may.1)
