use Rattle.std.proofs.Common.{◌≡◌, ◌∙◌, arith, false, inl, inr, rules, subst, sym}
use Rattle.sqlite.specs.Tree.{Trees}
use Rattle.sqlite_trees.specs.View.{IsClean}
use Rattle.goo_store_trees.specs.Less.{IsLessBoth}
use Rattle.goo_store_trees.proofs.Opened.{err_both}
use Rattle.goo_store_trees.proofs.reopening.reopen_without.Goals as goal

pub returns-clause-left : goal.returns-clause-left
returns-clause-left g c =
    let store = g.S.Store.view c.settled_store-store.result in
    let no : c.is_broken.result ≡ false = search rules in
    err_both c.open_store_without.result
    (λ e lost left clean db may.
    let low : IsClean store = omega (arith, clean, lost) in
    let settled = c.settled_store-store.ensures.settled low (sym (c.is_broken.ensures low) ∙ no) in
    elim (left clean db may) [
      | inl before ↦ inl (c.settled_store-store.ensures.quiet.outcomes db before)
      | inr less ↦ inr (settled.was_open, subst (λ (t : Trees). IsLessBoth c.args.one c.args.other t db) settled.trees less)
    ])
    c.open_store_without.ensures.lost c.open_store_without.ensures.left
