-- The progress of a device, set in its row and told of its declarations.
use Rattle.std.proofs.Common.{◌≡◌, ℕ, ◌&&◌, nat_le, List, [], ◌∷◌, ◌++◌, Bool, true, false, cond, map, find, length, Option, Some, None, option_map, refl, ap, sym, subst, ◌∙◌, arith, true≢false, append-nil}
use Rattle.std.specs.Prelude.{◌%◌, ◌||◌}
use Rattle.std.specs.Str as str
use Rattle.std.specs.List.{filter, list_all, list_any}
use Rattle.std.proofs.lemmas.List.Elements.{filter-append}
use Rattle.std.proofs.lemmas.Slice.Eq.{bytes_eq-Decides}
use Rattle.sqlite_keyed.specs.Lists.{update_where}
use Rattle.sqlite_keyed.proofs.RuleLemmas.{first_of_both, second_of_both}
use Rattle.sqlite_typed.specs.Tests.{bytes_eq}
use Rattle.goo_types.specs.Day.{CalendarDay, day_reading}
use Rattle.goo_types.specs.Gsrn.{gsrn_reading}
use Rattle.goo_types.specs.declared.command.Declare.{Declare}
use Rattle.goo_spec.specs.Declare.{with_declaration, declared_by, last_end}
use Rattle.goo_spec.specs.Energy.{carry, remaining, lowered, net, net_of, certificate}
use Rattle.goo_spec.specs.State.{State}
use Rattle.goo_spec.proofs.Declaring.{total_with}
use Rattle.goo_core_shelf.specs.Shelf.{progress_of}
use Rattle.goo_tables_rows.specs.Rows.{Kept}
use Rattle.goo_tables_rows.specs.Rows as row
use Rattle.goo_tables_accounts.specs.Changes.{progressed}
use Rattle.goo_spec_tables.specs.Devices.{progress_in}
use Rattle.goo_spec_tables.specs.Readable.{is_device, is_act, is_plant, is_maybe_day, reads}
use Rattle.goo_spec_tables.specs.States.{known_device}
use Rattle.goo_spec_tables.specs.Texts.{day_of}
use Rattle.goo_spec_tables.proofs.Known.{text_same, text_itself}
use Rattle.goo_store_plans.proofs.CarriersAdded.{HaveDevices}

-- ---- the row of a device, once its progress is set

abbrev pub is_of : List ℕ → Kept row.Device → Bool
is_of gsrn k = bytes_eq k.1.gsrn gsrn

pub find_passes : {X : Type 0} (p : X → Bool) (xs : List X) (x : X) → find p xs ≡ Some x → p x ≡ true
find_passes p [] x is = absurd cc
find_passes p (y ∷ ys) x is = go (p y) refl is (find_passes p ys x)
  where
    go : (b : Bool) → p y ≡ b → cond b (Some y) (find p ys) ≡ Some x → (find p ys ≡ Some x → p x ≡ true) → p x ≡ true
    go true here found rest = let same : y ≡ x = cc in subst (λ z. p z ≡ true) same here
    go false there found rest = rest found

module _ (gsrn last_day : List ℕ) (left : ℕ) where
  abbrev pub moved : Kept row.Device → Kept row.Device
  moved k = cond (is_of gsrn k) (progressed last_day left k) k

  abbrev pub all_moved : List (Kept row.Device) → List (Kept row.Device)
  all_moved xs = update_where (is_of gsrn) (progressed last_day left) xs

  gsrn_stays : (k : Kept row.Device) → (moved k).1.gsrn ≡ k.1.gsrn
  gsrn_stays k = go (is_of gsrn k)
    where
      go : (b : Bool) → (cond b (progressed last_day left k) k).1.gsrn ≡ k.1.gsrn
      go true = refl
      go false = refl

  known_stays : (k : Kept row.Device) → known_device (moved k) ≡ known_device k
  known_stays k = go (is_of gsrn k)
    where
      go : (b : Bool) → known_device (cond b (progressed last_day left k) k) ≡ known_device k
      go true = refl
      go false = refl

  pub all_known : (xs : List (Kept row.Device)) → map known_device (all_moved xs) ≡ map known_device xs
  all_known [] = refl
  all_known (k ∷ xs) = λ i. known_stays k i ∷ all_known xs i

  pub found_moved : (q : List ℕ) (xs : List (Kept row.Device)) → find (is_of q) (all_moved xs) ≡ option_map moved (find (is_of q) xs)
  found_moved q [] = refl
  found_moved q (k ∷ xs) = ap (λ g. cond (bytes_eq g q) (Some (moved k)) (find (is_of q) (all_moved xs))) (gsrn_stays k) ∙ go (is_of q k) (found_moved q xs)
    where
      go : (b : Bool) → find (is_of q) (all_moved xs) ≡ option_map moved (find (is_of q) xs)
          → cond b (Some (moved k)) (find (is_of q) (all_moved xs)) ≡ option_map moved (cond b (Some k) (find (is_of q) xs))
      go true rest = refl
      go false rest = rest

  pub count_moved : (q : List ℕ) (xs : List (Kept row.Device)) → length (filter (is_of q) (all_moved xs)) ≡ length (filter (is_of q) xs)
  count_moved q [] = refl
  count_moved q (k ∷ xs) = ap (λ g. length (cond (bytes_eq g q) (moved k ∷ filter (is_of q) (all_moved xs)) (filter (is_of q) (all_moved xs)))) (gsrn_stays k) ∙ go (is_of q k) (count_moved q xs)
    where
      go : (b : Bool) → length (filter (is_of q) (all_moved xs)) ≡ length (filter (is_of q) xs)
          → length (cond b (moved k ∷ filter (is_of q) (all_moved xs)) (filter (is_of q) (all_moved xs))) ≡ length (cond b (k ∷ filter (is_of q) xs) (filter (is_of q) xs))
      go true rest = omega (arith, rest)
      go false rest = rest

  pub read_moved : reads (day_reading last_day) ≡ true → nat_le left 999999 ≡ true → (xs : List (Kept row.Device)) → list_all is_device xs ≡ true → list_all is_device (all_moved xs) ≡ true
  read_moved ends most [] all = refl
  read_moved ends most (k ∷ xs) all = λ i. one (is_of gsrn k) (first_of_both (is_device k) _ all) i && read_moved ends most xs (second_of_both (is_device k) _ all) i
    where
      one : (b : Bool) → is_device k ≡ true → is_device (cond b (progressed last_day left k) k) ≡ true
      one true read =
          let a = second_of_both (reads (gsrn_reading k.1.gsrn)) _ read in
          let b = second_of_both (is_act k.1.account) _ a in
          let c = second_of_both (is_plant k.1.plant) _ b in
          let d = second_of_both (is_maybe_day k.1.last_day) _ c in
          let e = second_of_both (nat_le k.1.carry 999999) _ d in
          λ i. first_of_both (reads (gsrn_reading k.1.gsrn)) _ read i && (first_of_both (is_act k.1.account) _ a i && (first_of_both (is_plant k.1.plant) _ b i && (ends i && (most i && e i))))
      one false read = read

  -- each carrier stands beside its device as before
  any_moved : (q : List ℕ) (xs : List (Kept row.Device)) → list_any (is_of q) (all_moved xs) ≡ list_any (is_of q) xs
  any_moved q [] = refl
  any_moved q (k ∷ xs) = λ i. bytes_eq (gsrn_stays k i) q || any_moved q xs i

  pub carried_moved : (cs : List (Kept row.DeviceCarrier)) (xs : List (Kept row.Device)) → HaveDevices xs cs → HaveDevices (all_moved xs) cs
  carried_moved cs xs there = (λ i. list_all (λ c. any_moved c.1.gsrn xs i) cs) ∙ there

  -- what is told of the device that declared
  pub told_here : (k : Kept row.Device) → is_of gsrn k ≡ true → progress_in (Some (moved k).1) ≡ record { last_day = Some (day_of last_day); carry = left }
  told_here k is = ap (λ b. progress_in (Some (cond b (progressed last_day left k) k).1)) is

  -- and of another
  pub told_there : (q : List ℕ) → bytes_eq gsrn q ≡ false → (o : Option (Kept row.Device)) → ((k : Kept row.Device) → o ≡ Some k → is_of q k ≡ true) → option_map moved o ≡ o
  told_there q other None each = refl
  told_there q other (Some k) each = go (is_of gsrn k) refl
    where
      go : (b : Bool) → is_of gsrn k ≡ b → Some (cond b (progressed last_day left k) k) ≡ Some k
      go true is = absurd (true≢false (sym (text_itself gsrn q (sym (text_same k.1.gsrn gsrn is) ∙ text_same k.1.gsrn q (each k refl))) ∙ other))
      go false is = refl

-- ---- what declarations tell, with one more

ended : (before : Option CalendarDay) (xs : List Declare) (x : Declare) → last_end before (xs ++ x ∷ []) ≡ Some x.last_day
ended before [] x = refl
ended before (y ∷ ys) x = ended (Some y.last_day) ys x

module _ (s : State) (x : Declare) where
  more_by : (q : List ℕ) (b : Bool) → str.bytes_eq x.device q ≡ b → declared_by q (s.declarations ++ x ∷ []) ≡ declared_by q s.declarations ++ cond b (x ∷ []) []
  more_by q b is = filter-append (λ y. str.bytes_eq y.device q) s.declarations (x ∷ []) ∙ ap (λ c. declared_by q s.declarations ++ cond c (x ∷ []) []) is

  pub progress_here : progress_of (with_declaration s x) x.device ≡ record { last_day = Some x.last_day; carry = carry (with_declaration s x) x.device }
  unfolding with_declaration
  progress_here =
      λ i. record {
        last_day = (ap (last_end None) (more_by x.device true ((bytes_eq-Decides x.device x.device).1 refl)) ∙ ended None (declared_by x.device s.declarations) x) i;
        carry = carry (with_declaration s x) x.device;
      }

  lowered_after : (q : List ℕ) → lowered (with_declaration s x) q ≡ lowered s q
  unfolding lowered with_declaration
  lowered_after q = refl

  carry_there : (q : List ℕ) → str.bytes_eq x.device q ≡ false → carry (with_declaration s x) q ≡ carry s q
  unfolding carry remaining
  carry_there q other =
      ap (λ (n : ℕ). n % certificate)
      (let t = total_with s x q in let z : net_of q x ≡ 0 = ap (λ b. cond b (net x) 0) other in omega (arith, t, z, lowered_after q))

  pub progress_there : (q : List ℕ) → str.bytes_eq x.device q ≡ false → progress_of (with_declaration s x) q ≡ progress_of s q
  unfolding with_declaration
  progress_there q other =
      λ i. record {
        last_day = ap (last_end None) (more_by q false other ∙ append-nil (declared_by q s.declarations)) i;
        carry = carry_there q other i;
      }
