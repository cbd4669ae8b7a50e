-- The rows of devices, looked up by number.
use Rattle.std.proofs.Common.{◌≡◌, ◌<◌, ◌≤◌, ◌-◌, ◌%◌, ◌||◌, ℕ, zero, suc, Bool, true, false, cond, List, [], ◌∷◌, map, find, length, get_or, All, Option, Some, None, option_map, refl, sym, ap, ◌∙◌, subst, arith, true≢false}
use Rattle.std.specs.Prelude.{sum_by}
use Rattle.std.specs.List.{filter, list_all}
use Rattle.std.specs.Str.{bytes_eq as same_text}
use Rattle.std.proofs.lemmas.List.Elements.{All-map, All-head, All-tail}
use Rattle.std.proofs.lemmas.List.Sums.{sum_by-cons}
use Rattle.std.proofs.lemmas.Slice.Eq.{bytes_eq-Decides}
use Rattle.sqlite_keyed.proofs.RuleLemmas.{first_of_both, second_of_both}
use Rattle.sqlite_typed.specs.Tests.{bytes_eq}
use Rattle.goo_types.specs.declared.command.Declare.{Declare}
use Rattle.goo_spec.specs.Declare.{declared_by, last_end}
use Rattle.goo_spec.specs.Energy.{certificate, net_of}
use Rattle.goo_spec.specs.State as state
use Rattle.goo_core_shelf.specs.declared.found.Progress.{Progress}
use Rattle.goo_tables_rows.specs.Rows.{Kept, Device, Declaration}
use Rattle.goo_spec_tables.specs.Devices.{declaration_of, progress_in, device_row}
use Rattle.goo_spec_tables.proofs.Known.{text_test, text_same, text_itself}
use Rattle.goo_store_rules.specs.Production.{HasItsProgress, left_by}
use Rattle.goo_store_rules.specs.WellKept.{has_device}

abbrev value : Kept Device → Device
value k = k.1

abbrev is_of : List ℕ → Kept Device → Bool
is_of gsrn k = bytes_eq k.1.gsrn gsrn

-- what a device's declarations and corrections come to
abbrev pub come_to : List Declare → List state.Correction → List ℕ → Progress
come_to xs cs gsrn = record { last_day = last_end None (declared_by gsrn xs); carry = left_by xs cs gsrn % certificate }

-- ---- a device that no row has

no_device : (gsrn : List ℕ) (ks : List (Kept Device)) → find (is_of gsrn) ks ≡ None → has_device (map value ks) gsrn ≡ false
no_device gsrn [] none = refl
no_device gsrn (k ∷ ks) none = go (is_of gsrn k) refl none (no_device gsrn ks)
  where
    go : (b : Bool) → is_of gsrn k ≡ b → cond b (Some k) (find (is_of gsrn) ks) ≡ None → (find (is_of gsrn) ks ≡ None → has_device (map value ks) gsrn ≡ false) → has_device (map value (k ∷ ks)) gsrn ≡ false
    go true is bad none_left = absurd cc
    go false is rest none_left = λ i. (sym (text_test k.1.gsrn gsrn) ∙ is) i || none_left rest i

module _ (ds : List Device) (gsrn : List ℕ) (none : has_device ds gsrn ≡ false) where
  not_its : (d : Declaration) → has_device ds d.device ≡ true → same_text d.device gsrn ≡ false
  not_its d there = go (same_text d.device gsrn) refl
    where
      go : (b : Bool) → same_text d.device gsrn ≡ b → b ≡ false
      go true is = absurd (true≢false (sym there ∙ ap (has_device ds) ((bytes_eq-Decides d.device gsrn).0 is) ∙ none))
      go false is = refl

  none_declared : (xs : List Declaration) → list_all (λ d. has_device ds d.device) xs ≡ true → declared_by gsrn (map declaration_of xs) ≡ []
  none_declared [] all = refl
  none_declared (d ∷ xs) all =
      ap (λ b. cond b (declaration_of d ∷ declared_by gsrn (map declaration_of xs)) (declared_by gsrn (map declaration_of xs))) (not_its d (first_of_both (has_device ds d.device) (list_all (λ x. has_device ds x.device) xs) all))
      ∙ none_declared xs (second_of_both (has_device ds d.device) (list_all (λ x. has_device ds x.device) xs) all)

  nothing_declared : (xs : List Declaration) → list_all (λ d. has_device ds d.device) xs ≡ true → sum_by (net_of gsrn) (map declaration_of xs) ≡ 0
  nothing_declared [] all = refl
  nothing_declared (d ∷ xs) all =
      let here : net_of gsrn (declaration_of d) ≡ 0 = ap (λ b. cond b (d.gross - d.aux) 0) (not_its d (first_of_both (has_device ds d.device) (list_all (λ x. has_device ds x.device) xs) all)) in
      let rest = nothing_declared xs (second_of_both (has_device ds d.device) (list_all (λ x. has_device ds x.device) xs) all) in
      let sums = sum_by-cons (net_of gsrn) (declaration_of d) (map declaration_of xs) in
      omega (arith, here, rest, sums)

  nothing_left : (cs : List state.Correction) (xs : List Declaration) → list_all (λ d. has_device ds d.device) xs ≡ true → left_by (map declaration_of xs) cs gsrn ≡ 0
  nothing_left cs xs all = let none_made = nothing_declared xs all in omega (arith, none_made)

-- ---- what rows keep is what is looked up

found_kept : (P : Device → Type 0) (gsrn : List ℕ) (ks : List (Kept Device)) (k : Kept Device) → All P (map value ks) → find (is_of gsrn) ks ≡ Some k → P k.1 × (k.1.gsrn ≡ gsrn)
found_kept P gsrn [] k all is = absurd cc
found_kept P gsrn (y ∷ ks) k all is = go (is_of gsrn y) refl is (found_kept P gsrn ks k (All-tail P y.1 (map value ks) all))
  where
    go : (b : Bool) → is_of gsrn y ≡ b → cond b (Some y) (find (is_of gsrn) ks) ≡ Some k → (find (is_of gsrn) ks ≡ Some k → P k.1 × (k.1.gsrn ≡ gsrn)) → P k.1 × (k.1.gsrn ≡ gsrn)
    go true its found more = let same : y ≡ k = cc in (subst (λ z. P z.1) same (All-head P y.1 (map value ks) all), ap (λ z. z.1.gsrn) (sym same) ∙ text_same y.1.gsrn gsrn its)
    go false its found more = more found

module _ (ks : List (Kept Device)) (xs : List Declaration) (cs : List state.Correction) where
  -- the rows of devices keep what their declarations come to, and each declaration's device has a row
  pub progress_kept : All (HasItsProgress (map declaration_of xs) cs) (map value ks) → list_all (λ d. has_device (map value ks) d.device) xs ≡ true
      → (gsrn : List ℕ) → progress_in (device_row ks gsrn) ≡ come_to (map declaration_of xs) cs gsrn
  progress_kept all there gsrn = go (find (is_of gsrn) ks) refl
    where
      go : (o : Option (Kept Device)) → find (is_of gsrn) ks ≡ o → progress_in (option_map value o) ≡ come_to (map declaration_of xs) cs gsrn
      go None none = λ i. record {
        last_day = last_end None (sym (none_declared (map value ks) gsrn (no_device gsrn ks none) xs there) i);
        carry = sym (nothing_left (map value ks) gsrn (no_device gsrn ks none) cs xs there) i % certificate;
      }
      go (Some k) is =
          let found = found_kept (HasItsProgress (map declaration_of xs) cs) gsrn ks k all is in
          (λ i. record { last_day = found.0.last_day i; carry = found.0.carry i }) ∙ ap (come_to (map declaration_of xs) cs) found.1

  -- ---- and back, where no two devices have one number

  some_left : (test : Kept Device → Bool) (zs : List (Kept Device)) (i : ℕ) (d : Kept Device) → i < length zs → test (get_or zs i d) ≡ true → 1 ≤ length (filter test zs)
  some_left test [] i d low is = absurd (omega (arith, low))
  some_left test (z ∷ zs) zero d low is = ap-length (test z) is
    where
      ap-length : (b : Bool) → b ≡ true → 1 ≤ length (cond b (z ∷ filter test zs) (filter test zs))
      ap-length true e = omega arith
      ap-length false e = absurd (true≢false (sym e))
  some_left test (z ∷ zs) (suc i) d low is = go (test z) (some_left test zs i d (omega (arith, low)) is)
    where
      go : (b : Bool) → 1 ≤ length (filter test zs) → 1 ≤ length (cond b (z ∷ filter test zs) (filter test zs))
      go true h = omega arith
      go false h = h

  only_one : (test : Kept Device → Bool) (zs : List (Kept Device)) (i : ℕ) (d : Kept Device) → i < length zs → test (get_or zs i d) ≡ true → length (filter test zs) ≤ 1 → find test zs ≡ Some (get_or zs i d)
  only_one test [] i d low is one = absurd (omega (arith, low))
  only_one test (z ∷ zs) zero d low is one = ap (λ b. cond b (Some z) (find test zs)) is
  only_one test (z ∷ zs) (suc i) d low is one = go (test z) refl one (only_one test zs i d (omega (arith, low)) is)
    where
      go : (b : Bool) → test z ≡ b → length (cond b (z ∷ filter test zs) (filter test zs)) ≤ 1 → (length (filter test zs) ≤ 1 → find test zs ≡ Some (get_or zs i d)) → cond b (Some z) (find test zs) ≡ Some (get_or zs i d)
      go true e h rest = let more = some_left test zs i d (omega (arith, low)) is in absurd (omega (arith, h, more))
      go false e h rest = rest h

  pub progress_back : ((gsrn : List ℕ) → length (filter (λ k. bytes_eq k.1.gsrn gsrn) ks) ≤ 1) → ((gsrn : List ℕ) → progress_in (device_row ks gsrn) ≡ come_to (map declaration_of xs) cs gsrn)
      → All (HasItsProgress (map declaration_of xs) cs) (map value ks)
  progress_back one kept = All-map (HasItsProgress (map declaration_of xs) cs) value ks (λ i d low.
      let k = get_or ks i d in
      let found : device_row ks k.1.gsrn ≡ Some k.1 = ap (option_map value) (only_one (is_of k.1.gsrn) ks i d low (text_itself k.1.gsrn k.1.gsrn refl) (one k.1.gsrn)) in
      let same = ap progress_in (sym found) ∙ kept k.1.gsrn in
      record { last_day = ap (λ (p : Progress). p.last_day) same; carry = ap (λ (p : Progress). p.carry) same })
