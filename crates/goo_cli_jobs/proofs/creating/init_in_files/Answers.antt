use Rattle.std.proofs.Common.{subst, sym}
use Rattle.goo_spec.specs.Created.{created}
use Rattle.goo_cli_registry.specs.Closings.{HasSpareLog, IsClean, SparesOrMakes}
use Rattle.goo_cli_jobs.proofs.MakingLemmas.{denied, made_tells, unmade_words}
use Rattle.goo_cli_jobs.proofs.creating.init_in_files.Goals as goal

pub returns-in-Err-clause-there : goal.returns-in-Err-clause-there
returns-in-Err-clause-there g c one = let is = denied c.in-Err.ending c.in-Err.ensures.words one in (is, c.in-Err.ensures.there is)

pub returns-in-Ok-clause-left : goal.returns-in-Ok-clause-left
returns-in-Ok-clause-left g c = subst (λ left. IsClean left → SparesOrMakes c.args.files (created c.args.opening.code c.args.opening.today c.args.opening.next_serial) left) (sym c.announce.ensures.left) c.in-Ok.ensures.held

pub returns-in-Ok-clause-copied : goal.returns-in-Ok-clause-copied
returns-in-Ok-clause-copied g c = subst (λ left. HasSpareLog left) (sym c.announce.ensures.left) c.in-Ok.ensures.copied

pub returns-in-Err-clause-words : goal.returns-in-Err-clause-words
returns-in-Err-clause-words g c = unmade_words c.in-Err.ending c.in-Err.ensures.words

pub returns-in-Ok-clause-tells : goal.returns-in-Ok-clause-tells
returns-in-Ok-clause-tells g c = λ clean. made_tells c.args.files c.announce.result.0 c.announce.result.1 c.announce.ensures.told c.announce.ensures.words c.in-Ok.ensures.vacant
