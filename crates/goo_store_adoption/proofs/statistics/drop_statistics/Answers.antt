use Rattle.std.proofs.Common.{arith, inl, inr}
use Rattle.std.specs.Prelude.{codes}
use Rattle.sqlite.specs.Held.{state}
use Rattle.sqlite.specs.State.{HasCleanDisk}
use Rattle.goo_store_open.proofs.OnFiles.{if_both}
use Rattle.goo_store_trees.proofs.Opened.{err_both}
use Rattle.goo_store_adoption.specs.Taken.{IsTreeOf}
use Rattle.goo_store_adoption.proofs.Steps.{less_since, named_in}
use Rattle.goo_store_adoption.proofs.statistics.drop_statistics.Goals as goal

pub returns-in-Ok-clause-less : goal.returns-in-Ok-clause-less
returns-in-Ok-clause-less g c =
    let a = state g.S.Store c.args.conn in
    let b = state g.S.Store c.examine.new.conn in
    let first : IsTreeOf a.now (codes "sqlite_stat1") c.tree_of-one.result = named_in c.schema.result.now a.now.schema _ (codes "sqlite_stat1") c.tree_of-one.result c.schema.ensures.value c.as_slice-tables.ensures c.tree_of-one.ensures in
    let later : IsTreeOf a.now (codes "sqlite_stat4") c.tree_of-other.result = named_in c.schema.result.now a.now.schema _ (codes "sqlite_stat4") c.tree_of-other.result c.schema.ensures.value c.as_slice-tables.ensures c.tree_of-other.ensures in
    if_both c.dropped.result
    (λ conn kept dropped clean.
    let it = dropped clean in
    let late : HasCleanDisk b = omega (arith, kept, clean) in
    let before : HasCleanDisk a = omega (arith, late, c.examine.ensures.survives.clean) in
    let settled = (c.requires.opened before).0.clean in
    less_since a b c.tree_of-one.result c.tree_of-other.result _ settled ((c.examine.ensures.rests late (λ live. settled)).committed it.0) first later it.1)
    c.dropped.ensures.clean c.dropped.ensures.dropped

pub returns-in-Ok-clause-left : goal.returns-in-Ok-clause-left
returns-in-Ok-clause-left g c =
    let a = state g.S.Store c.args.conn in
    let b = state g.S.Store c.examine.new.conn in
    let first : IsTreeOf a.now (codes "sqlite_stat1") c.tree_of-one.result = named_in c.schema.result.now a.now.schema _ (codes "sqlite_stat1") c.tree_of-one.result c.schema.ensures.value c.as_slice-tables.ensures c.tree_of-one.ensures in
    let later : IsTreeOf a.now (codes "sqlite_stat4") c.tree_of-other.result = named_in c.schema.result.now a.now.schema _ (codes "sqlite_stat4") c.tree_of-other.result c.schema.ensures.value c.as_slice-tables.ensures c.tree_of-other.ensures in
    err_both c.dropped.result
    (λ e lost left clean db may.
    let late : HasCleanDisk b = omega (arith, lost, clean) in
    let before : HasCleanDisk a = omega (arith, late, c.examine.ensures.survives.clean) in
    let settled = (c.requires.opened before).0.clean in
    elim (left clean db may) [
      | inl there ↦ elim (c.examine.ensures.survives.crash late db there) [ inl was ↦ inl was | inr never ↦ absurd never ]
      | inr it ↦ inr (less_since a b c.tree_of-one.result c.tree_of-other.result db settled ((c.examine.ensures.rests late (λ live. settled)).committed it.0) first later it.1)
    ])
    c.dropped.ensures.lost c.dropped.ensures.left

pub returns-in-Err-clause-word : goal.returns-in-Err-clause-word
returns-in-Err-clause-word g c = λ clean.
    let late : HasCleanDisk (state g.S.Store c.examine.new.conn) = omega (arith, clean, c.settled_store.ensures.quiet.clean) in
    c.in-Err.ensures.word late
