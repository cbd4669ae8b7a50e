use Rattle.goo_desk_answers.proofs.OneResponse.{responds-one}
use Rattle.goo_desk_backend.proofs.OneShown.{shown-one, imported-one}
use Rattle.goo_desk_backend.specs.Showing.{shown_by, imported_by}
use Rattle.goo_desk.proofs.law.one_response.Goals as goal

pub returns : goal.returns
returns c = responds-one shown_by imported_by shown-one imported-one
