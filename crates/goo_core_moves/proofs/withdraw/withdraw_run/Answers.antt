use Rattle.std.proofs.Common.{◌≡◌, ℕ, subst}
use Rattle.goo_types.specs.Piece.{at_of}
use Rattle.goo_types.specs.declared.place.Place.TheVariants.{Withdrawn}
use Rattle.goo_ranges.specs.Change.{moved}
use Rattle.goo_core_moves.specs.Withdraw.{AreCommon}
use Rattle.goo_core_rules.proofs.Changing.{small-of_book}
use Rattle.goo_core_moves.proofs.Withdrawing.{part_made}
use Rattle.goo_core_moves.proofs.withdraw.withdraw_run.Goals as goal

pub returns-clause-made : goal.returns-clause-made
returns-clause-made c = λ met change made.
    let edit = c.in_ok-edit.ensures in
    let common = subst (AreCommon c.args.run.now c.args.range) c.in-Some.is c.common_part.ensures in
    let map = subst (λ (a : ℕ). (n : ℕ) → at_of c.reassign.new.self n ≡ moved c.in-Some.part.first c.in-Some.part.last (Withdrawn a c.args.act) n (at_of c.args.book.now n)) c.account.ensures edit.map in
    part_made c.args.range c.in-Some.part c.args.run.now c.args.act common met change c.args.book.now c.reassign.new.self c.args.edits.now.items c.push_edit.new.edits.items c.in_ok-edit.edit
    c.in_ok-push_edit.ensures edit.exact c.requires.rising edit.disjoint edit.maximal map (small-of_book c.in-Some.part c.args.book.now c.in_ok-edit.edit edit.few edit.spares) made
