use Rattle.std.proofs.Common.{sym, subst, arith}
use Rattle.goo_types.specs.Piece.{IsRisingFrom}
use Rattle.goo_spec.specs.Sound.{IsSound}
use Rattle.goo_spec.proofs.Creating.{created_is_sound}
use Rattle.goo_core_list.specs.States.{state_of}
use Rattle.goo_ranges_rows.proofs.CertificateLemmas.{certificates-rows}
use Rattle.goo_core_list.proofs.list_shelf.ListShelf.new.Goals as goal

pub returns-clause-sound : goal.returns-clause-sound
returns-clause-sound c =
    let serial = c.get-serial.ensures.limit in
    subst IsSound (sym c.empty.ensures.state) (created_is_sound c.args.code c.args.today c.args.next_serial c.get-code.ensures.limit (omega (arith, serial)) (omega (arith, serial)))

pub returns-clause-rows : goal.returns-clause-rows
unfolding state_of
returns-clause-rows c = certificates-rows c.empty.result.rows.pieces (subst (IsRisingFrom 0) (sym c.empty.ensures.rows) tt)
