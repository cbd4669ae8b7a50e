use Rattle.goo_files.proofs.Agreeing.{equal_texts, others_leave_texts}
use Rattle.goo_files.proofs.laws.equal_texts.Goals as goal

pub returns-clause-law : goal.returns-clause-law
returns-clause-law c = equal_texts

pub returns-clause-others : goal.returns-clause-others
returns-clause-others c = others_leave_texts
