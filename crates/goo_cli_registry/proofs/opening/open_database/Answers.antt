use Rattle.std.proofs.Common.{◌∙◌, sym}
use Rattle.goo_cli_registry.proofs.Files.{blamed, not_both}
use Rattle.goo_cli_registry.proofs.opening.open_database.Goals as goal

pub returns-in-Err-clause-store : goal.returns-in-Err-clause-store
returns-in-Err-clause-store g c = λ told clean.
    blamed c.args.files c.in-Err.left c.in-Err.error (c.in-Err.ensures.cause clean) (λ memory. not_both (sym (c.word_for.ensures.memory memory) ∙ told))
