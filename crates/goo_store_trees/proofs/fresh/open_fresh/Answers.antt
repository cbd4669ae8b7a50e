use Rattle.std.proofs.Common.{◌≡◌, ◌∙◌, ap, arith, false, rules, subst, sym}
use Rattle.sqlite.specs.Effect.{Database}
use Rattle.sqlite.specs.Tree.{Trees}
use Rattle.sqlite_trees.specs.View.{IsClean}
use Rattle.sqlite_catalog.specs.Listing.{IsSound}
use Rattle.goo_tables_rows.specs.Met.{IsInKeyOrder}
use Rattle.goo_tables_rows.proofs.Ordered.{in_key_order}
use Rattle.goo_store_trees.proofs.fresh.open_fresh.Goals as goal

-- a store that is not broken keeps its trees in order
pub returns-in-Ok-clause-ordered : goal.returns-in-Ok-clause-ordered
returns-in-Ok-clause-ordered g c = λ clean.
    let conn = c.in-Ok.conn in
    let view = g.S.Store.view c.args.store in
    let low : IsClean view = omega (arith, clean, c.in-Ok.ensures.clean) in
    let whole : view.is_broken ≡ false = sym (c.is_broken.ensures low) ∙ search rules in
    let opens = c.in-Ok.ensures.opens clean in
    let same = c.in-Ok.ensures.trees clean in
    let sound : IsSound conn.schema view.trees = subst (λ (t : Trees). IsSound conn.schema t) same (opens.1 opens.0.is_open).0 in
    subst (λ (t : Trees). IsInKeyOrder (record { schema = conn.schema; trees = t })) (sym same)
    (in_key_order view.shape view.reals view.trees conn.schema (g.met.S.Alter.listed c.args.store whole) (g.met.S.Store.ordered c.args.store whole) sound)

pub returns-in-Ok-clause-left : goal.returns-in-Ok-clause-left
returns-in-Ok-clause-left g c = λ clean db may.
    let conn = c.in-Ok.conn in
    let opens = c.in-Ok.ensures.opens clean in
    g.met.S.Store.settled conn.store db opens.0.is_open may ∙ sym (ap (λ (d : Database). d.trees) opens.0.clean) ∙ c.in-Ok.ensures.trees clean
