use Rattle.std.proofs.Common.{[], ◌∷◌, refl}
use Rattle.std.proofs.lemmas.Result.{IfErr-weaker}
use Rattle.goo_store_adoption.proofs.Words.{version_tells}
use Rattle.goo_store_adoption.proofs.adopting.layout_in.Goals as goal

pub returns : goal.returns
returns c = IfErr-weaker c.layout_of.result _ _ (λ f other. version_tells c.args.rows.items (record { rows = c.args.rows } ∷ []) refl c.in_ok-read_meta.field-0 f c.in_ok-read_meta.ensures.read other) c.layout_of.ensures.other
