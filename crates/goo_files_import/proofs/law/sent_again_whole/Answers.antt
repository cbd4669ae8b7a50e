use Rattle.goo_files_import.proofs.SentAgain.{rows_sent_again, table_sent_again}
use Rattle.goo_files_import.proofs.law.sent_again_whole.Goals as goal

pub returns-clause-rows : goal.returns-clause-rows
returns-clause-rows c = rows_sent_again

pub returns-clause-table : goal.returns-clause-table
returns-clause-table c = table_sent_again
