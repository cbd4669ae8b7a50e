use Rattle.goo_spec_one_home.proofs.Runs.{one_home, home_or_road, known_by_issuer, one_lot, one_lot_sent, sent_is_kept}
use Rattle.goo_spec_one_home.proofs.one_home.Goals as goal

pub returns-clause-home : goal.returns-clause-home
returns-clause-home c = one_home

pub returns-clause-road : goal.returns-clause-road
returns-clause-road c = home_or_road

pub returns-clause-known : goal.returns-clause-known
returns-clause-known c = known_by_issuer

pub returns-clause-lot : goal.returns-clause-lot
returns-clause-lot c = one_lot

pub returns-clause-lot_sent : goal.returns-clause-lot_sent
returns-clause-lot_sent c = one_lot_sent

pub returns-clause-kept : goal.returns-clause-kept
returns-clause-kept c = sent_is_kept
