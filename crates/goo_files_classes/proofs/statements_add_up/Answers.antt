use Rattle.goo_files_classes.proofs.Telling.{statements_add_up}
use Rattle.goo_files_classes.proofs.statements_add_up.Goals as goal

pub returns : goal.returns
returns c = statements_add_up
