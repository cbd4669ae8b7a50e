-- What devices declared: the last day and the sum of each, as declarations are added.
use Rattle.std.proofs.Common.{◌≡◌, ℕ, ◌+◌, ◌≤◌, ◌^◌, List, [], ◌∷◌, ◌++◌, Bool, true, false, cond, Option, Some, None, refl, ap, sym, ◌∙◌, arith}
use Rattle.std.specs.Str.{bytes_eq}
use Rattle.std.specs.Ordering.{eq_by_cmp}
use Rattle.std.specs.Cmp.{eq_by_cmp_equiv}
use Rattle.std.specs.Cmp.Lexicographic.{nat_list_cmp_total, texts_ties}
use Rattle.std.specs.FinMap.{FinMap, get, insert, empty, get-insert, get-empty}
use Rattle.std.proofs.lemmas.List.{append-nil, length_push}
use Rattle.std.proofs.lemmas.List.Elements.{filter-append}
use Rattle.std.proofs.lemmas.List.Sums.{sum_by_push}
use Rattle.std.proofs.lemmas.Slice.Eq.{bytes_eq-Decides}
use Rattle.goo_types.specs.Day.{CalendarDay}
use Rattle.goo_types.specs.declared.command.Declare.{Declare}
use Rattle.goo_spec.specs.State.{text_cmp}
use Rattle.goo_spec.specs.Declare.{declared_by, last_end}
use Rattle.goo_spec.specs.Energy.{net, net_of}
use Rattle.goo_core_list.specs.declared.listed_declarations.Produced.{Produced}
use Rattle.goo_core_list.specs.Production.{net_by, last_day_in, net_in, AddsUp}

-- texts are equal where their order ties them
alike : (a b : List ℕ) → bytes_eq a b ≡ eq_by_cmp text_cmp b a
alike a b = texts_ties a b ∙ (eq_by_cmp_equiv nat_list_cmp_total).symm a b

last_end-push : (before : Option CalendarDay) (xs : List Declare) (x : Declare) → last_end before (xs ++ x ∷ []) ≡ Some x.last_day
last_end-push before [] x = refl
last_end-push before (y ∷ ys) x = last_end-push (Some y.last_day) ys x

module _ (xs : List Declare) (x : Declare) (m : FinMap text_cmp Produced) (p : Produced) (ends : p.last_day ≡ x.last_day) (adds : p.net ≡ net_by x.device xs + net x) (few : net x ≤ 10 ^ 15) (sums : AddsUp xs m) where
  days : (device : List ℕ) (b : Bool) → bytes_eq x.device device ≡ b → last_day_in (cond b (Some p) (get m device)) ≡ last_end None (declared_by device xs ++ cond b (x ∷ []) [])
  days device true same = ap (λ d. Some d) ends ∙ sym (last_end-push None (declared_by device xs) x)
  days device false same = sums.last_day device ∙ ap (λ ys. last_end None ys) (sym (append-nil (declared_by device xs)))

  nets : (device : List ℕ) (b : Bool) → bytes_eq x.device device ≡ b → (b ≡ true → device ≡ x.device) → net_in (cond b (Some p) (get m device)) ≡ net_by device xs + cond b (net x) 0
  nets device true same is = adds ∙ ap (λ d. net_by d xs + net x) (sym (is refl))
  nets device false same is = let e = sums.net device in omega (arith, e)

  kept : (device : List ℕ) → get (insert m x.device p) device ≡ cond (bytes_eq x.device device) (Some p) (get m device)
  kept device = get-insert nat_list_cmp_total m x.device p device ∙ ap (λ b. cond b (Some p) (get m device)) (sym (alike x.device device))

  most : (b : Bool) → cond b (net x) 0 ≤ 10 ^ 15
  most true = few
  most false = omega arith

  pub added : AddsUp (xs ++ x ∷ []) (insert m x.device p)
  added = record {
    last_day = λ device. ap last_day_in (kept device) ∙ days device (bytes_eq x.device device) refl
        ∙ ap (λ ys. last_end None ys) (sym (filter-append (λ y. bytes_eq y.device device) xs (x ∷ [])));
    net = λ device. ap net_in (kept device) ∙ nets device (bytes_eq x.device device) refl (λ is. sym ((bytes_eq-Decides x.device device).0 is))
        ∙ sym (sum_by_push (net_of device) xs x);
    small = λ device.
        let sum = sum_by_push (net_of device) xs x in
        let long = length_push xs x in
        let before = sums.small device in
        let more = most (bytes_eq x.device device) in
        omega (arith, sum, long, before, more);
  }

pub none_yet : AddsUp [] (empty {X = Produced} {R = text_cmp})
none_yet = record {
  last_day = λ device. ap last_day_in (get-empty text_cmp device);
  net = λ device. ap net_in (get-empty text_cmp device);
  small = λ device. omega arith;
}
