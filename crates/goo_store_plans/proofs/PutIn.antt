-- Changes that put lots in, part by part.
use Rattle.std.proofs.Common.{◌≡◌, ◌+◌, ◌||◌, pos, List, [], ◌∷◌, ◌++◌, Bool, true, false, map, refl, ap, sym, subst, ◌∙◌}
use Rattle.std.specs.FinMap.{contains_key}
use Rattle.std.proofs.lemmas.List.{map-append}
use Rattle.sqlite_keyed.specs.Keyed.{IsKeyedBy, next_key}
use Rattle.goo_types.specs.declared.part.Part.{Part}
use Rattle.goo_spec.specs.Lots.{key_of}
use Rattle.goo_tables_rows.specs.Rows.{Lot, lot_key, lot_in}
use Rattle.goo_store_plans.specs.GatheredLots.{AddsLot, ArePutIn}
use Rattle.goo_store_plans.specs.LotRows.{is_among, AreGathered}
use Rattle.goo_store_plans.specs.NewLots.{known_lots}
use Rattle.goo_store_changes.specs.declared.table_change.TableChange.TheVariants.{AddLot}
use Rattle.goo_store_plans.specs.declared.gathered_lots.Gathered.{Gathered}
use Rattle.goo_store_plans.proofs.Gathering.{gathered_first, gathered_known, gathered_new}

-- nothing is put in yet
pub put_none : (lots : List Lot) (all : List Part) (g : Gathered) → IsKeyedBy lot_key lots → g.changes.items ≡ [] → g.added.items ≡ [] → pos g.next ≡ next_key lot_key lots → ArePutIn lots all all g
put_none lots all g rise changes added next = record {
  rows = [];
  changes = changes;
  gathered = subst (λ xs. AreGathered lots all all [] xs g.next) (sym added) (gathered_first lots all g.next rise next);
}

either : (a b : Bool) → b ≡ true → (a || b) ≡ true
either true b is = refl
either false b is = is

module _ (lots : List Lot) (all left : List Part) (p : Part) where
  put_known : (g : Gathered) → (contains_key (known_lots lots) (key_of p.lot) || is_among g.added.items (key_of p.lot)) ≡ true → ArePutIn lots all (p ∷ left) g → ArePutIn lots all left g
  put_known g known it = record { rows = it.rows; changes = it.changes; gathered = gathered_known lots all left p (map lot_in it.rows) g.added.items g.next known it.gathered }

  -- the lot was put in by an earlier part
  pub put_before : (g : Gathered) → is_among g.added.items (key_of p.lot) ≡ true → ArePutIn lots all (p ∷ left) g → ArePutIn lots all left g
  put_before g among = put_known g (either (contains_key (known_lots lots) (key_of p.lot)) (is_among g.added.items (key_of p.lot)) among)

  -- the lot is in the table
  pub put_there : (g : Gathered) → contains_key (known_lots lots) (key_of p.lot) ≡ true → ArePutIn lots all (p ∷ left) g → ArePutIn lots all left g
  put_there g there = put_known g (ap (λ b. b || is_among g.added.items (key_of p.lot)) there)

  -- the lot is new
  pub put_new : (before after : Gathered) → contains_key (known_lots lots) (key_of p.lot) ≡ false → is_among before.added.items (key_of p.lot) ≡ false → AddsLot p.lot before after
      → ArePutIn lots all (p ∷ left) before → ArePutIn lots all left after
  put_new before after other new adds it = record {
    rows = it.rows ++ adds.row ∷ [];
    changes = adds.changes ∙ ap (λ cs. cs ++ AddLot adds.row ∷ []) it.changes ∙ sym (map-append (λ r. AddLot r) it.rows (adds.row ∷ []));
    gathered =
        subst (λ ls. AreGathered lots all left ls after.added.items after.next) (sym (map-append lot_in it.rows (adds.row ∷ [])))
        (subst (λ n. AreGathered lots all left (map lot_in it.rows ++ lot_in adds.row ∷ []) after.added.items n) (sym adds.next)
        (subst (λ xs. AreGathered lots all left (map lot_in it.rows ++ lot_in adds.row ∷ []) xs (before.next + 1)) (sym adds.added)
        (gathered_new lots all left p (map lot_in it.rows) before.added.items before.next it.gathered (ap (λ b. b || is_among before.added.items (key_of p.lot)) other ∙ new)
        (lot_in adds.row) (record { number = before.next; lot = p.lot }) adds.id adds.states adds.reads adds.kept refl refl)));
  }
