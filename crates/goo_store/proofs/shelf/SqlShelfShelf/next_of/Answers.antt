use Rattle.std.proofs.Common.{◌≡◌, ◌∙◌, sym, subst}
use Rattle.goo_core_shelf.specs.Rows.{next_row}
use Rattle.goo_core_shelf.specs.Shelf.{Looks}
use Rattle.goo_store.specs.Seen.{seen_by}
use Rattle.goo_store.proofs.shelf.SqlShelfShelf.next_of.Goals as goal
use Rattle.goo_store.proofs.shelf.SqlShelfShelf.next_of.Goals.{in-Some+in_default-row_ahead, in_default}

pub returns-in-Some-row_ahead-clause-looks : goal.returns-in-Some-row_ahead-clause-looks
returns-in-Some-row_ahead-clause-looks g c =
    subst (λ after. Looks (seen_by c.args.self.now) (seen_by c.next_ahead.new.self) c.next_ahead.result (λ found. found ≡ next_row c.args.account after (seen_by c.args.self.now).rows)) (sym c.in-Some.is) c.next_ahead.ensures.looks

pub returns-clause-looks : goal.returns-clause-looks
returns-clause-looks g c =
    let same : c.match-after.after ≡ c.args.after =
    elim c.match-after.branch [
      | in-Some+in_default-row_ahead w ↦ w.after-is ∙ sym w.in-Some.is
      | in_default w ↦ w.after-is
    ]
    in
    subst (λ after. Looks (seen_by c.args.self.now) (seen_by c.next_in_tables.new.self) c.next_in_tables.result (λ found. found ≡ next_row c.args.account after (seen_by c.args.self.now).rows)) same c.next_in_tables.ensures.looks
