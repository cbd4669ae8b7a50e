use Rattle.goo_files_import.proofs.OneTable.{one_table}
use Rattle.goo_files_import.proofs.law.one_table.Goals as goal

pub returns : goal.returns
returns c = one_table
