use Rattle.std.proofs.Common.{All, sym, subst}
use Rattle.std.proofs.lemmas.List.Elements.{All-append}
use Rattle.goo_types.specs.declared.command.Command.TheVariants as command
use Rattle.goo_store_changes.specs.Changes.{ChangeFits}
use Rattle.goo_store_plans.specs.Carried.{Carry}
use Rattle.goo_store_plans.proofs.CorrectCarried.{correct_carried}
use Rattle.goo_store_plans.proofs.new_corrections.corrected_changes.Goals as goal

pub returns-clause-does : goal.returns-clause-does
returns-clause-does c t count told basis replied kept order caller accepted =
    let x = c.args.accepted.now in
    subst (Carry t (command.Correct x)) (sym c.in_ok-append.ensures.items)
    (correct_carried t kept order x c.args.carry count c.args.withdrawal replied c.args.basis.now basis c.in_ok-changes.changes.items (c.in_ok-changes.ensures.takes t told kept order caller accepted)
    c.in_ok-lowered.lowered.items c.in_ok-lowered.ensures.lowers)

pub returns-clause-fits : goal.returns-clause-fits
returns-clause-fits c =
    subst (All ChangeFits) (sym c.in_ok-append.ensures.items) (All-append ChangeFits c.in_ok-changes.changes.items c.in_ok-lowered.lowered.items c.in_ok-changes.ensures.fits c.in_ok-lowered.ensures.fits)
