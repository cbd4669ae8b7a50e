-- A list whose elements take up numbers that rise, page by page.
use Rattle.std.proofs.Common.{◌≡◌, ◌≤◌, ◌+◌, ◌++◌, ℕ, zero, suc, Bool, true, false, cond, nat_le, List, [], ◌∷◌, map, take, refl, sym, ap, ◌∙◌, arith}
use Rattle.std.specs.Prelude.{sum_by}
use Rattle.std.specs.List.{filter}
use Rattle.std.proofs.lemmas.Bool.{le-leb, lt-leb, leb-true, leb-false}
use Rattle.std.proofs.lemmas.List.Sums.{sum_by-cons, sum_by-append}

pub sum_by-map : {A B : Type 0} (f : B → ℕ) (g : A → B) (xs : List A) → sum_by f (map g xs) ≡ sum_by (λ x. f (g x)) xs
sum_by-map f g [] = refl
sum_by-map f g (x ∷ xs) = sum_by-cons f (g x) (map g xs) ∙ ap (λ n. f (g x) + n) (sum_by-map f g xs) ∙ sym (sum_by-cons (λ y. f (g y)) x xs)

-- each takes up the numbers from its first to its last
module _ {A : Type 0} (first last : A → ℕ) where
  -- none begins below `low` or before the one before it ended
  abbrev pub IsSpacedFrom : ℕ → List A → Type 0
  IsSpacedFrom low [] = Unit {0}
  IsSpacedFrom low (x ∷ xs) = (low ≤ first x) × (first x ≤ last x) × IsSpacedFrom (last x + 1) xs

  -- those that begin at a number or later
  abbrev pub beginning : ℕ → List A → List A
  beginning low = filter (λ x. nat_le low (first x))

  -- the number after the last
  abbrev pub ending : ℕ → List A → ℕ
  ending low [] = low
  ending low (x ∷ xs) = ending (last x + 1) xs

  weaken : (low from : ℕ) (xs : List A) → low ≤ from → IsSpacedFrom from xs → IsSpacedFrom low xs
  weaken low from [] up spaced = tt
  weaken low from (x ∷ xs) up spaced = (omega (arith, up, spaced.0), spaced.1, spaced.2)

  -- where none begins below, all do
  pub above : (low from : ℕ) (xs : List A) → low ≤ from → IsSpacedFrom from xs → beginning low xs ≡ xs
  above low from [] up spaced = refl
  above low from (x ∷ xs) up spaced =
      ap (λ b. cond b (x ∷ beginning low xs) (beginning low xs)) (le-leb low (first x) (omega (arith, up, spaced.0))) ∙ ap (λ l. x ∷ l) (above low (last x + 1) xs (omega (arith, up, spaced.0, spaced.1)) spaced.2)

  left_spaced : (test : A → Bool) (low : ℕ) (xs : List A) → IsSpacedFrom low xs → IsSpacedFrom low (filter test xs)
  left_spaced test low [] spaced = tt
  left_spaced test low (x ∷ xs) spaced = go (test x) (left_spaced test (last x + 1) xs spaced.2)
    where
      go : (b : Bool) → IsSpacedFrom (last x + 1) (filter test xs) → IsSpacedFrom low (cond b (x ∷ filter test xs) (filter test xs))
      go true rest = (spaced.0, spaced.1, rest)
      go false rest = weaken low (last x + 1) (filter test xs) (omega (arith, spaced.0, spaced.1)) rest

  pub from_spaced : (low from : ℕ) (xs : List A) → IsSpacedFrom from xs → IsSpacedFrom low (beginning low xs)
  from_spaced low from [] spaced = tt
  from_spaced low from (x ∷ xs) spaced = go (nat_le low (first x)) refl (from_spaced low (last x + 1) xs spaced.2)
    where
      go : (b : Bool) → nat_le low (first x) ≡ b → IsSpacedFrom low (beginning low xs) → IsSpacedFrom low (cond b (x ∷ beginning low xs) (beginning low xs))
      go true is rest = (leb-true low (first x) is, spaced.1, left_spaced (λ y. nat_le low (first y)) (last x + 1) xs spaced.2)
      go false is rest = rest

  from_from : (low next : ℕ) (xs : List A) → low ≤ next → beginning next (beginning low xs) ≡ beginning next xs
  from_from low next [] up = refl
  from_from low next (x ∷ xs) up = go (nat_le low (first x)) refl (from_from low next xs up)
    where
      go : (b : Bool) → nat_le low (first x) ≡ b → beginning next (beginning low xs) ≡ beginning next xs
          → beginning next (cond b (x ∷ beginning low xs) (beginning low xs)) ≡ cond (nat_le next (first x)) (x ∷ beginning next xs) (beginning next xs)
      go true is rest = ap (λ l. cond (nat_le next (first x)) (x ∷ l) l) rest
      go false is rest = rest ∙ sym (ap (λ b. cond b (x ∷ beginning next xs) (beginning next xs)) (lt-leb next (first x) (omega (arith, up, leb-false low (first x) is))))

  pub taken_spaced : (n low : ℕ) (xs : List A) → IsSpacedFrom low xs → IsSpacedFrom low (take n xs)
  taken_spaced zero low xs spaced = tt
  taken_spaced (suc n) low [] spaced = tt
  taken_spaced (suc n) low (x ∷ xs) spaced = (spaced.0, spaced.1, taken_spaced n (last x + 1) xs spaced.2)

  end_up : (low : ℕ) (xs : List A) → IsSpacedFrom low xs → low ≤ ending low xs
  end_up low [] spaced = omega arith
  end_up low (x ∷ xs) spaced = let up = end_up (last x + 1) xs spaced.2 in omega (arith, up, spaced.0, spaced.1)

  parted : (n low : ℕ) (xs : List A) → IsSpacedFrom low xs → xs ≡ take n xs ++ beginning (ending low (take n xs)) xs
  parted zero low xs spaced = sym (above low low xs (omega arith) spaced)
  parted (suc n) low [] spaced = refl
  parted (suc n) low (x ∷ xs) spaced =
      let next = ending (last x + 1) (take n xs) in
      let up = end_up (last x + 1) (take n xs) (taken_spaced n (last x + 1) xs spaced.2) in
      let out : beginning next (x ∷ xs) ≡ beginning next xs = ap (λ b. cond b (x ∷ beginning next xs) (beginning next xs)) (lt-leb next (first x) (omega (arith, up, spaced.1))) in
      ap (λ l. x ∷ l) (parted n (last x + 1) xs spaced.2 ∙ ap (λ l. take n xs ++ l) (sym out))

  none_shown : (n low : ℕ) (xs : List A) → IsSpacedFrom low xs → ending low (take (suc n) xs) ≤ low → xs ≡ []
  none_shown n low [] spaced few = refl
  none_shown n low (x ∷ xs) spaced few = let up = end_up (last x + 1) (take n xs) (taken_spaced n (last x + 1) xs spaced.2) in absurd (omega (arith, up, spaced.0, spaced.1, few))

  -- a page of those that begin at a number or later, and those that begin after it
  module _ (low : ℕ) (xs : List A) (spaced : IsSpacedFrom 0 xs) where
    abbrev pub page : List A
    page = take 256 (beginning low xs)

    abbrev next : ℕ
    next = ending low page

    page_up : low ≤ next
    page_up = end_up low page (taken_spaced 256 low (beginning low xs) (from_spaced low 0 xs spaced))

    parts : beginning low xs ≡ page ++ beginning next xs
    parts = parted 256 low (beginning low xs) (from_spaced low 0 xs spaced) ∙ ap (λ l. page ++ l) (from_from low next xs page_up)

    -- sums over both
    pub page_sum : (f : A → ℕ) → sum_by f (beginning low xs) ≡ sum_by f page + sum_by f (beginning next xs)
    page_sum f = ap (sum_by f) parts ∙ sum_by-append f page (beginning next xs)

    -- after an empty page none is left
    pub none_left : next ≤ low → beginning next xs ≡ []
    none_left few =
        let all_none : beginning low xs ≡ [] = none_shown 255 low (beginning low xs) (from_spaced low 0 xs spaced) few in
        let same : next ≡ low = ap (λ l. ending low (take 256 l)) all_none in
        ap (λ n. beginning n xs) same ∙ all_none
