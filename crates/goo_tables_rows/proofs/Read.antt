-- From the rows of an answer to the values that were read.
use Rattle.std.proofs.Common.{◌≡◌, ℕ, ◌+◌, ◌<◌, Bool, List, [], ◌∷◌, ◌++◌, map, filter, find, take, length, get_or, slice_get, Option, Some, None, option_map, cond, true, false, refl, sym, ap, ap₂, ◌∙◌, subst, map-id}
use Rattle.std.specs.List.{AllZip}
use Rattle.std.proofs.lemmas.List.{take_more}
use Rattle.sqlite.specs.Order.{Row}
use Rattle.std.proofs.lemmas.Iterator.Adapters.{option_map_id}
use Rattle.goo_tables_rows.specs.Asked.{FirstZip}

-- one more at both ends
pub zip_push : {A B : Type 0} (R : A → B → Type 0) (xs : List A) (ys : List B) (x : A) (y : B) → AllZip R xs ys → R x y → AllZip R (xs ++ x ∷ []) (ys ++ y ∷ [])
zip_push R [] [] x y all last = (last, tt)
zip_push R [] (b ∷ ys) x y all last = absurd all
zip_push R (a ∷ xs) [] x y all last = absurd all
zip_push R (a ∷ xs) (b ∷ ys) x y all last = (all.0, zip_push R xs ys x y all.1 last)

-- one more row is read
pub zip_more : {A B : Type 0} (R : A → B → Type 0) (xs : List A) (ys : List B) (i : ℕ) (x : A) (y : B) → i < length xs → x ≡ get_or xs i x → AllZip R (take i xs) ys → R x y
    → AllZip R (take (i + 1) xs) (ys ++ y ∷ [])
zip_more R xs ys i x y low at all last = subst (λ l. AllZip R l (ys ++ y ∷ [])) (ap (λ a. take i xs ++ a ∷ []) at ∙ sym (take_more xs i x low)) (zip_push R (take i xs) ys x y all last)

pub first_some : {A B : Type 0} (R : A → B → Type 0) (xs : List A) (x : A) (y : B) → Some x ≡ slice_get xs 0 → R x y → FirstZip R xs (Some y)
first_some R [] x y first is = absurd cc
first_some R (a ∷ xs) x y first is = let same : x ≡ a = cc in subst (λ b. R b y) same is

pub first_none : {A B : Type 0} (R : A → B → Type 0) (xs : List A) → None ≡ slice_get xs 0 → FirstZip R xs None
first_none R [] none = tt
first_none R (a ∷ xs) none = absurd cc

module _ {X Y Z : Type 0} (reads : Row → X → Type 0) (show : Y → Row) (value : X → Z) (of : Y → Z) (same : (y : Y) (x : X) → reads (show y) x → value x ≡ of y) where
  -- the values are those whose rows were shown
  pub all_read : (ys : List Y) (xs : List X) → AllZip reads (map show ys) xs → map value xs ≡ map of ys
  all_read [] [] all = refl
  all_read [] (x ∷ xs) all = absurd all
  all_read (y ∷ ys) [] all = absurd all
  all_read (y ∷ ys) (x ∷ xs) all = ap₂ ◌∷◌ (same y x all.0) (all_read ys xs all.1)

  this : (y : Y) (ys : List Y) (o : Option X) → FirstZip reads (map show (y ∷ ys)) o → option_map value o ≡ Some (of y)
  this y ys None first = absurd first
  this y ys (Some x) first = ap Some (same y x first)

  pub first_read : (p : Y → Bool) (ys : List Y) (o : Option X) → FirstZip reads (map show (filter p ys)) o → option_map value o ≡ option_map of (find p ys)
  first_read p [] None first = refl
  first_read p [] (Some x) first = absurd first
  first_read p (y ∷ ys) o first = go (p y) first (first_read p ys o)
    where
      go : (b : Bool) → FirstZip reads (map show (cond b (y ∷ filter p ys) (filter p ys))) o → (FirstZip reads (map show (filter p ys)) o → option_map value o ≡ option_map of (find p ys))
          → option_map value o ≡ option_map of (cond b (Some y) (find p ys))
      go false h later = later h
      go true h later = this y (filter p ys) o h

-- the same where the list has the values themselves
module _ {X Y : Type 0} (reads : Row → X → Type 0) (show : Y → Row) (value : X → Y) (same : (y : Y) (x : X) → reads (show y) x → value x ≡ y) where
  pub all_listed : (ys : List Y) (xs : List X) → AllZip reads (map show ys) xs → map value xs ≡ ys
  all_listed ys xs all = all_read reads show value (λ y. y) same ys xs all ∙ map-id ys

  pub first_listed : (p : Y → Bool) (ys : List Y) (o : Option X) → FirstZip reads (map show (filter p ys)) o → option_map value o ≡ find p ys
  first_listed p ys o first = first_read reads show value (λ y. y) same p ys o first ∙ option_map_id (find p ys)
