use Rattle.goo_files_import.proofs.OneTable.{header_or_rows}
use Rattle.goo_files_import.proofs.law.header_or_rows.Goals as goal

pub returns : goal.returns
returns c = header_or_rows
