-- The entries of a map are those of its tree, in order.
use Rattle.std.specs.Prelude.{◌≡◌, List, [], ◌∷◌, map}
use Rattle.std.specs.declared.cmp.Ordering.{Ordering}
use Rattle.std.specs.declared.cmp.Ordering.TheVariants.{Less}
use Rattle.std.specs.Cmp.{IsTotalOrder}
use Rattle.std.specs.List.{AllByRecursion}
use Rattle.std.specs.List.Sorted.{IsStrictlySortedBy}
use Rattle.std.specs.FinMap.{entries, from_entries, entries-insert}
use Rattle.std.specs.FinMap.Entries.{put, by_order}
use Rattle.std.specs.BTreeMap as tree
use Rattle.std.specs.BTreeMap.{BTreeMap}
use Rattle.goo_core_shelf.specs.Maps.{map_of}
use Rattle.goo_spec.proofs.Creating.{no_entries}
use mathlib.Core.Path.{refl, sym, ap, ◌∙◌}

module _ {K X : Type 0} {R : K → K → Ordering} (o : IsTotalOrder R) where
  put-first : (k : K) (v : X) (es : List (K × X)) → AllByRecursion (λ y. R k y ≡ Less) (map (λ e. e.0) es) → put R k v es ≡ (k, v) ∷ es
  put-first k v [] below = refl
  put-first k v (e ∷ es) below = ap (λ r. by_order r ((k, v) ∷ e ∷ es) ((e.0, v) ∷ es) (e ∷ put R k v es)) below.0

  entries-from : (es : List (K × X)) → IsStrictlySortedBy R (map (λ e. e.0) es) → entries (from_entries {R = R} es) ≡ es
  unfolding IsStrictlySortedBy
  entries-from [] sorted = no_entries X R
  entries-from (e ∷ es) sorted = entries-insert o (from_entries es) e.0 e.1 ∙ ap (put R e.0 e.1) (entries-from es sorted.1) ∙ put-first e.0 e.1 es sorted.0

  pub entries-map_of : (m : BTreeMap K X) → tree.IsOrdered R m → entries (map_of R m) ≡ m.entries
  unfolding map_of
  entries-map_of m ordered = entries-from m.entries ordered

  map-map : {B : Type 0} (f : K → B) (es : List (K × X)) → map f (map (λ e. e.0) es) ≡ map (λ e. f e.0) es
  map-map f [] = refl
  map-map f (e ∷ es) = ap (λ ys. f e.0 ∷ ys) (map-map f es)

  -- what each key gives, in order
  pub map-keys : {B : Type 0} (f : K → B) (m : BTreeMap K X) → tree.IsOrdered R m → map f (tree.keys m) ≡ map (λ e. f e.0) (entries (map_of R m))
  map-keys f m ordered = map-map f m.entries ∙ ap (map (λ e. f e.0)) (sym (entries-map_of m ordered))
