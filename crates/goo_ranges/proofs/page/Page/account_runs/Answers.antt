use Rattle.std.proofs.Common.{◌≡◌, None, Some, sym, ap, ◌∙◌}
use Rattle.std.specs.Prelude.{slice_get}
use Rattle.goo_ranges.proofs.Accounting.{runs-of_none, runs-of_first}
use Rattle.goo_ranges.proofs.page.Page.account_runs.Goals as goal

pub returns-in_default-clause-runs : goal.returns-in_default-clause-runs
returns-in_default-clause-runs c =
    let items = c.self.inside.pieces.items in
    let none : slice_get items 0 ≡ None = ap (λ l. slice_get l 0) (sym c.deref.ensures.value) ∙ sym c.in_default.ensures.value in
    rw (← c.self.view_is, c.new.ensures.items) (runs-of_none items none)

pub returns-clause-runs : goal.returns-clause-runs
returns-clause-runs c =
    let items = c.self.inside.pieces.items in
    let first : slice_get items 0 ≡ Some c.in-Some.first.now = ap (λ l. slice_get l 0) (sym c.deref.ensures.value) ∙ sym c.in-Some.ensures.value in
    rw (← c.self.view_is) (runs-of_first items c.in_ok-runs.runs.items c.in-Some.first.now first c.self.invariant (rw c.deref-2.ensures.value at c.in_ok-runs.ensures.joined) c.in_ok-runs.ensures.apart)
