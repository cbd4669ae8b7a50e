use Rattle.std.proofs.Common.{All, refl, sym, subst}
use Rattle.std.proofs.lemmas.List.Elements.{All-push}
use Rattle.goo_store_changes.specs.Changes.{ChangeFits}
use Rattle.goo_store_changes.specs.declared.table_change.TableChange.TheVariants.{SetCounters}
use Rattle.goo_store_plans.proofs.DeclareCarried.{declare_carried}
use Rattle.goo_store_plans.proofs.new_declarations.declared_changes.Goals as goal

pub returns-clause-carries : goal.returns-clause-carries
returns-clause-carries c t q reply due =
    let after = c.issue.new.gathered in
    declare_carried t q reply c.args.meta.now c.args.declared.now c.args.carry c.args.issued c.args.standing.now due c.in_ok-gathered.gathered c.in_ok-gathered.ensures.begins c.args.issued refl
    after (record { changes = c.push.new.self; added = after.added; next = after.next }) c.in_ok-count.count c.in_ok-counters.counters c.in_ok-count.ensures.issues c.in_ok-counters.ensures.value c.in_ok-push.ensures.items refl

pub returns-clause-fits : goal.returns-clause-fits
returns-clause-fits c =
    subst (All ChangeFits) (sym c.in_ok-push.ensures.items)
    (All-push ChangeFits c.issue.new.gathered.changes.items (SetCounters c.in_ok-counters.counters) (c.in_ok-count.ensures.fits c.in_ok-gathered.ensures.fits) c.in_ok-counters.ensures.fits)
