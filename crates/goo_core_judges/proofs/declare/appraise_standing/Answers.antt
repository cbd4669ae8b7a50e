use Rattle.std.proofs.Common.{rules}
use Rattle.goo_core_judges.proofs.declare.appraise_standing.Goals as goal

pub returns : goal.returns
returns c = λ s fits facts.
    let later = c.appraise_energy.ensures s fits facts (c.lot_of-lot.ensures s facts) in
    search (rules, later)
