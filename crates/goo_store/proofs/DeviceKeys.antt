-- The numbers of devices, which their carriers leave as they are.
use Rattle.std.proofs.Common.{◌≡◌, ℕ, List, [], ◌∷◌, map, length, refl, sym, ap, ◌∙◌, arith}
use Rattle.std.specs.declared.cmp.Ordering.{Ordering}
use Rattle.std.specs.declared.cmp.Ordering.TheVariants.{Less, Equal, Greater}
use Rattle.std.specs.Cmp.Lexicographic.{nat_list_cmp_total}
use Rattle.std.specs.FinMap.{empty, entries, from_entries, keys, entries-insert, len-empty, len-entries}
use Rattle.std.specs.FinMap.Entries.{by_order, put}
use Rattle.goo_spec.specs.State.{text_cmp, Device}
use Rattle.goo_tables_rows.specs.Rows as row
use Rattle.goo_tables_rows.specs.Rows.{bare_device}
use Rattle.goo_spec_tables.specs.Devices.{device_entry}

-- a key in its place, unless an equal one is there
abbrev placed : List ℕ → List (List ℕ) → List (List ℕ)
placed k [] = k ∷ []
placed k (x ∷ xs) = by_order (text_cmp k x) (k ∷ x ∷ xs) (x ∷ xs) (x ∷ placed k xs)

abbrev all_placed : List (List ℕ) → List (List ℕ)
all_placed [] = []
all_placed (k ∷ ks) = placed k (all_placed ks)

put_number : (k : List ℕ) (d : Device) (es : List (List ℕ × Device)) → map (λ e. e.0) (put text_cmp k d es) ≡ placed k (map (λ e. e.0) es)
put_number k d [] = refl
put_number k d (e ∷ es) = go (text_cmp k e.0) (put_number k d es)
  where
    go : (r : Ordering) → map (λ x. x.0) (put text_cmp k d es) ≡ placed k (map (λ x. x.0) es)
        → map (λ x. x.0) (by_order r ((k, d) ∷ e ∷ es) ((e.0, d) ∷ es) (e ∷ put text_cmp k d es))
        ≡ by_order r (k ∷ e.0 ∷ map (λ x. x.0) es) (e.0 ∷ map (λ x. x.0) es) (e.0 ∷ placed k (map (λ x. x.0) es))
    go Less rest = refl
    go Equal rest = refl
    go Greater rest = ap (λ ks. e.0 ∷ ks) rest

none_there : (es : List (List ℕ × Device)) → length es ≡ 0 → map (λ e. e.0) es ≡ []
none_there [] none = refl
none_there (e ∷ es) none = absurd (omega (arith, none))

-- the keys of a map go by the keys that it was made from
keys_are : (es : List (List ℕ × Device)) → keys (from_entries {R = text_cmp} es) ≡ all_placed (map (λ e. e.0) es)
keys_are [] = none_there (entries (empty {X = Device} {R = text_cmp})) (sym (len-entries (empty {X = Device} {R = text_cmp})) ∙ len-empty text_cmp Device)
keys_are (e ∷ es) = ap (map (λ x. x.0)) (entries-insert nat_list_cmp_total (from_entries es) e.0 e.1) ∙ put_number e.0 e.1 (entries (from_entries es)) ∙ ap (placed e.0) (keys_are es)

same_numbers : (ds : List row.Device) → map (λ e. e.0) (map device_entry (map bare_device ds)) ≡ map (λ e. e.0) (map device_entry ds)
same_numbers [] = refl
same_numbers (d ∷ ds) = ap (λ ks. d.gsrn ∷ ks) (same_numbers ds)

pub keys_bare : (ds : List row.Device) → keys (from_entries {R = text_cmp} (map device_entry (map bare_device ds))) ≡ keys (from_entries {R = text_cmp} (map device_entry ds))
keys_bare ds = keys_are (map device_entry (map bare_device ds)) ∙ ap all_placed (same_numbers ds) ∙ sym (keys_are (map device_entry ds))
