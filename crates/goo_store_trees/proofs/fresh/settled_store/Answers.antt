use Rattle.std.proofs.Common.{◌∙◌, sym}
use Rattle.goo_store_trees.proofs.Opened.{open_if_whole}
use Rattle.goo_store_trees.proofs.fresh.settled_store.Goals as goal

pub returns-clause-settled : goal.returns-clause-settled
returns-clause-settled g c = λ clean whole.
    let new = g.S.Store.view c.into_store.result in
    let undone = c.into_store.ensures.undone in
    let kept = undone.kept clean in
    let live = open_if_whole new.is_open new.is_broken (g.met.S.Store.broken_if_shut c.into_store.result) whole in
    record {
      fresh = record { sound = whole; numbered = c.into_store.ensures.numbered clean; clean = (undone.undone live).0 ∙ sym (kept.committed live); unmarked = kept.marks live };
      was_open = kept.was_open live;
      trees = (undone.undone live).0;
    }
