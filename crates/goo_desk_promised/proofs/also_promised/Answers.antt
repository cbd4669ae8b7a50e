use Rattle.goo_desk_promised.proofs.Following.{of_requests, of_lines, of_rows, of_connections}
use Rattle.goo_desk_promised.proofs.also_promised.Goals as goal

pub returns-clause-requests : goal.returns-clause-requests
returns-clause-requests c = of_requests

pub returns-clause-lines : goal.returns-clause-lines
returns-clause-lines c = of_lines

pub returns-clause-rows : goal.returns-clause-rows
returns-clause-rows c = of_rows

pub returns-clause-connections : goal.returns-clause-connections
returns-clause-connections c = of_connections
