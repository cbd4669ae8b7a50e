-- A device that is read has no number that an earlier one has.
use Rattle.std.proofs.Common.{◌≡◌, ◌≤◌, ◌<◌, arith, ℕ, zero, suc, Bool, true, false, cond, List, [], ◌∷◌, map, find, take, length, get_or, Some, None, option_map, refl, sym, ap, ◌∙◌}
use Rattle.std.specs.List.{filter}
use Rattle.std.specs.Cmp.Lexicographic.{nat_list_cmp_total}
use Rattle.std.specs.FinMap.{get, from_entries}
use Rattle.sqlite_typed.specs.Tests.{bytes_eq}
use Rattle.goo_spec.specs.State.{text_cmp}
use Rattle.goo_tables_rows.specs.Rows.{device_in}
use Rattle.goo_tables_rows.specs.declared.device.DeviceRow.{DeviceRow}
use Rattle.goo_spec_tables.specs.Devices.{device_entry}
use Rattle.goo_spec_tables.proofs.Known.{get-known, text_test, text_itself}

-- one that passes is counted
counted : {X : Type 0} (test : X → Bool) (xs : List X) (i : ℕ) (x : X) → i < length xs → x ≡ get_or xs i x → test x ≡ true → 1 ≤ length (filter test xs)
counted test [] i x low at passes = absurd (omega (arith, low))
counted test (y ∷ ys) zero x low at passes = go (test y) (ap test (sym at) ∙ passes)
  where
    go : (b : Bool) → b ≡ true → 1 ≤ length (cond b (y ∷ filter test ys) (filter test ys))
    go true is = omega arith
    go false is = absurd (cc)
counted test (y ∷ ys) (suc i) x low at passes = go (test y) (counted test ys i x (omega (arith, low)) at passes)
  where
    go : (b : Bool) → 1 ≤ length (filter test ys) → 1 ≤ length (cond b (y ∷ filter test ys) (filter test ys))
    go true more = omega arith
    go false more = more

-- where one at most passes, none does before it
pub none_before : {X : Type 0} (test : X → Bool) (xs : List X) (i : ℕ) (x : X) → i < length xs → x ≡ get_or xs i x → test x ≡ true → length (filter test xs) ≤ 1 → find test (take i xs) ≡ None
none_before test [] i x low at passes once = absurd (omega (arith, low))
none_before test (y ∷ ys) zero x low at passes once = refl
none_before test (y ∷ ys) (suc i) x low at passes once = go (test y) (counted test ys i x (omega (arith, low)) at passes) (none_before test ys i x (omega (arith, low)) at passes) once
  where
    go : (b : Bool) → 1 ≤ length (filter test ys) → (length (filter test ys) ≤ 1 → find test (take i ys) ≡ None) → length (cond b (y ∷ filter test ys) (filter test ys)) ≤ 1 → cond b (Some y) (find test (take i ys)) ≡ None
    go true more rest one = absurd (omega (arith, more, one))
    go false more rest one = rest one

entries_joined : (rows : List DeviceRow) → map device_entry (map device_in rows) ≡ map (λ r. device_entry (device_in r)) rows
entries_joined [] = refl
entries_joined (r ∷ rs) = ap (λ es. device_entry (device_in r) ∷ es) (entries_joined rs)

-- the number of a row is free among those before it
pub number_free : (rows : List DeviceRow) (i : ℕ) (r : DeviceRow) → i < length rows → r ≡ get_or rows i r → length (filter (λ x. bytes_eq (device_in x).gsrn (device_in r).gsrn) rows) ≤ 1
    → get (from_entries {R = text_cmp} (map device_entry (map device_in (take i rows)))) (device_in r).gsrn ≡ None
number_free rows i r low at once =
    let q = (device_in r).gsrn in
    ap (λ es. get (from_entries {R = text_cmp} es) q) (entries_joined (take i rows))
    ∙ get-known nat_list_cmp_total (λ x. device_entry (device_in x)) q (λ x. bytes_eq (device_in x).gsrn q) (λ x. text_test (device_in x).gsrn q) (take i rows)
    ∙ ap (option_map (λ x. (device_entry (device_in x)).1)) (none_before (λ x. bytes_eq (device_in x).gsrn q) rows i r low at (text_itself q q refl) once)
