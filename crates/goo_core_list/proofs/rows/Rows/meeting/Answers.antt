use Rattle.std.proofs.Common.{◌≡◌, sym, subst, rules}
use Rattle.goo_types.specs.Piece.{IsRising}
use Rattle.goo_ranges_rows.specs.Rows.{meeting}
use Rattle.goo_ranges_rows.proofs.Near.{filter-rising}
use Rattle.goo_core_list.proofs.rows.Rows.meeting.Goals as goal

pub returns-clause-rising : goal.returns-clause-rising
returns-clause-rising c =
    let met : c.in_ok-meeting.field-0.items ≡ meeting c.args.range c.self.inside.pieces.rows = search rules in
    subst IsRising (sym met) (filter-rising _ 0 c.self.inside.pieces.rows c.self.invariant)
