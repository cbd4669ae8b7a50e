use Rattle.std.proofs.Common.{◌≡◌, suc, Option, Some, None, false, refl, ◌∙◌, rules}
use Rattle.std.specs.Prelude.{is_some}
use Rattle.goo_types.specs.Piece.{Label, at_of}
use Rattle.goo_spec.specs.Lots.{fails}
use Rattle.goo_ranges.specs.Paging.{joined}
use Rattle.goo_ranges_pieces.specs.Walk.{span}
use Rattle.goo_ranges_pieces.proofs.Find.{find-alike}
use Rattle.goo_ranges.proofs.pages.least_present_in.Goals as goal

-- a test that none passes is failed by each number that is there
fails-there : (o : Option Label) → fails (λ lot place. false) o ≡ is_some o
fails-there None = refl
fails-there (Some label) = refl

pub returns : goal.returns
returns c =
    c.least_not_in.ensures (λ lot place. false) (λ lot place answer e. search rules)
    ∙ find-alike _ _ (span c.args.first (suc c.args.last)) (λ n. fails-there (at_of (joined c.args.pages.now) n))
