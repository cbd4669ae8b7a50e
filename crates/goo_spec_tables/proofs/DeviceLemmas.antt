-- Devices under their numbers, in the order of the numbers.
use Rattle.std.proofs.Common.{◌≡◌, ℕ, List, [], ◌∷◌, ◌++◌, map, None, Some, refl, sym, ap, ◌∙◌}
use Rattle.std.specs.BTreeMap as tree
use Rattle.std.specs.BTreeMap.{BTreeMap}
use Rattle.std.specs.Cmp.Lexicographic.{nat_list_cmp_total}
use Rattle.std.specs.FinMap.{get, insert, keys, from_entries, from_entries_push, get-from_entries, nat_cmp-IsAntisymmetric, slice_cmp-IsAntisymmetric}
use Rattle.goo_spec.specs.State.{text_cmp, Device}
use Rattle.goo_tables_rows.specs.Rows as row
use Rattle.goo_tables_rows.specs.Rows.{Kept}
use Rattle.goo_core_shelf.specs.Maps.{map_of}
use Rattle.goo_core_shelf.proofs.MapLemmas.{get-map_of, map_of-insert}
use Rattle.goo_core_shelf.proofs.OrderLemmas.{entries-map_of}
use Rattle.goo_spec_tables.specs.Devices.{device_entry, device_of}
use Rattle.goo_spec_tables.specs.States.{known_device}

pub entries_same : (ks : List (Kept row.Device)) → map device_entry (map (λ k. k.1) ks) ≡ map known_device ks
entries_same [] = refl
entries_same (k ∷ ks) = ap (λ es. known_device k ∷ es) (entries_same ks)

-- a device of a new number
pub noted : (m n : BTreeMap (List ℕ) Device) (k : List ℕ) (v : Device) → tree.Updates text_cmp m n k (Some v) → tree.get text_cmp m k ≡ None
    → (es : List (List ℕ × Device)) → map_of text_cmp m ≡ from_entries es → map_of text_cmp n ≡ from_entries (es ++ (k, v) ∷ [])
noted m n k v put none es is =
    let apart = slice_cmp-IsAntisymmetric nat_cmp-IsAntisymmetric in
    map_of-insert nat_list_cmp_total apart m n k v put ∙ ap (λ f. insert f k v) is
    ∙ sym (from_entries_push nat_list_cmp_total apart es k v (sym (get-from_entries nat_list_cmp_total es k) ∙ ap (λ f. get f k) (sym is) ∙ get-map_of nat_list_cmp_total m k ∙ none))

pub noted_row : (m n : BTreeMap (List ℕ) Device) (k : List ℕ) (v : Device) (d : row.Device) → k ≡ d.gsrn → v ≡ device_of d → tree.Updates text_cmp m n k (Some v) → tree.get text_cmp m k ≡ None
    → (es : List (List ℕ × Device)) → map_of text_cmp m ≡ from_entries es → map_of text_cmp n ≡ from_entries (es ++ device_entry d ∷ [])
noted_row m n k v d key value put none es is = noted m n k v put none es is ∙ (λ i. from_entries (es ++ (key i, value i) ∷ []))

-- the keys of a tree are those of its map
pub keys_same : (m : BTreeMap (List ℕ) Device) → tree.IsOrdered text_cmp m → tree.keys m ≡ keys (map_of text_cmp m)
keys_same m ordered = ap (map (λ e. e.0)) (sym (entries-map_of nat_list_cmp_total m ordered))
