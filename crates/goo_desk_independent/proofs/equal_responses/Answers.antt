use Rattle.goo_desk_independent.proofs.Accounts.{equal_responses, others_leave_responses}
use Rattle.goo_desk_independent.proofs.equal_responses.Goals as goal

pub returns-clause-law : goal.returns-clause-law
returns-clause-law c = equal_responses

pub returns-clause-others : goal.returns-clause-others
returns-clause-others c = others_leave_responses
