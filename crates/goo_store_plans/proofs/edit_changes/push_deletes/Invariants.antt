use Rattle.std.proofs.Common.{◌≡◌, ◌++◌, All, map, drop}
use Rattle.goo_store_changes.specs.Changes.{ChangeFits}
use Rattle.goo_store_changes.specs.declared.table_change.TableChange.TheVariants.{DeletePiece}
use Rattle.goo_store_plans.proofs.edit_changes.push_deletes.Given as goal

abbrev pub invariant-loop-first : goal.invariant-loop-first
invariant-loop-first l = record {
  items : l.changes.items ++ map (λ k. DeletePiece k) (drop l.first-index l.firsts) ≡ l.fn.changes.items ++ map (λ k. DeletePiece k) l.firsts;
  fits : All ChangeFits l.fn.changes.items → All ChangeFits l.changes.items;
}
