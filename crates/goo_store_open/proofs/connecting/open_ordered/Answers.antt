use Rattle.sqlite.specs.Files.{file_state}
use Rattle.goo_store_open.proofs.OnFiles.{if_both, opened_in_order}
use Rattle.goo_store_open.proofs.connecting.open_ordered.Goals as goal

pub returns-clause-ordered : goal.returns-clause-ordered
returns-clause-ordered g c =
    if_both c.open_files.result (λ conn opened found clean. opened_in_order (file_state conn) (opened clean).0 (opened clean).1 (found clean).reads)
    c.open_files.ensures.opened c.open_files.ensures.found
