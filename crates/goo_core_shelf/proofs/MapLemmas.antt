-- Trees of the library as finite maps.
use Rattle.std.specs.Prelude.{◌≡◌, Bool, true, false, cond, List, [], ◌∷◌, Option, Some, None, IsTrue, is_some, Result, Ok, Err, OnOk, OnErr, IsOk}
use Rattle.std.specs.declared.cmp.Ordering.{Ordering}
use Rattle.std.specs.declared.cmp.Ordering.TheVariants.{Less, Equal, Greater}
use Rattle.std.specs.Ordering.{eq_by_cmp, is_eq}
use Rattle.std.specs.Cmp.{IsTotalOrder, eq_by_cmp_equiv, tied_itself}
use Rattle.std.specs.FinMap.{FinMap, get, contains_key, insert, remove, empty, from_entries, get-from_entries, get-insert, get-remove, get_tied, IsAntisymmetric, same_map}
use Rattle.std.specs.FinMap.Entries.{find}
use Rattle.std.specs.Map.{lookup}
use Rattle.std.specs.BTreeMap as tree
use Rattle.std.specs.BTreeMap.{BTreeMap, is_at}
use Rattle.goo_core_shelf.specs.Maps.{map_of}
use lib.Dec.{T}
use mathlib.Core.Path.{refl, sym, ap, subst, ◌∙◌}

eq_by_cmp_true : (r : Ordering) → is_eq r ≡ true → r ≡ Equal
eq_by_cmp_true Less e = absurd (subst T (sym e) tt)
eq_by_cmp_true Equal e = refl
eq_by_cmp_true Greater e = absurd (subst T (sym e) tt)

module _ {K X : Type 0} {R : K → K → Ordering} (o : IsTotalOrder R) where
  find_is_lookup : (q : K) (es : List (K × X)) → find R q es ≡ lookup (is_at (R q)) es
  find_is_lookup q [] = refl
  find_is_lookup q (e ∷ es) = ap (cond (eq_by_cmp R q e.0) (Some e.1)) (find_is_lookup q es)

  -- what stands under a key
  pub get-map_of : (m : BTreeMap K X) (q : K) → get (map_of R m) q ≡ tree.get R m q
  unfolding map_of
  get-map_of m q = get-from_entries o m.entries q ∙ find_is_lookup q m.entries

  -- a tree that is empty
  pub map_of-empty : (m : BTreeMap K X) → tree.IsEmpty m → map_of R m ≡ empty
  unfolding map_of
  map_of-empty m is = ap from_entries is

  -- a tree that stays
  pub map_of-unchanged : (m n : BTreeMap K X) → tree.IsUnchanged m n → map_of R n ≡ map_of R m
  unfolding map_of
  map_of-unchanged m n is = ap from_entries is

  -- a value put under a key
  pub map_of-insert : IsAntisymmetric R → (m n : BTreeMap K X) (k : K) (v : X) → tree.Updates R m n k (Some v) → map_of R n ≡ insert (map_of R m) k v
  map_of-insert apart m n k v is = same_map o apart _ _ (λ q. get-map_of n q ∙ is.0 q
      ∙ ap (cond (is_eq (R k q)) (Some v)) (sym (get-map_of m q))
      ∙ ap (λ b. cond b (Some v) (get (map_of R m) q)) ((eq_by_cmp_equiv o).symm k q)
      ∙ sym (get-insert o (map_of R m) k v q))

  -- a key taken out
  pub map_of-remove : IsAntisymmetric R → (m n : BTreeMap K X) (k : K) → tree.Updates R m n k None → map_of R n ≡ remove (map_of R m) k
  map_of-remove apart m n k is = same_map o apart _ _ (λ q. get-map_of n q ∙ is.0 q
      ∙ ap (cond (is_eq (R k q)) None) (sym (get-map_of m q))
      ∙ ap (λ b. cond b None (get (map_of R m) q)) ((eq_by_cmp_equiv o).symm k q)
      ∙ sym (get-remove o (map_of R m) k q))

  -- a put can fail at a new key alone
  pub put_there : {A E : Type 0} (m : BTreeMap K X) (k : K) (r : Result A E) → OnErr r (tree.get R m k ≡ None) → IsTrue (contains_key (map_of R m) k) → IsOk r
  put_there m k (Ok x) none there = refl
  put_there m k (Err e) none there = absurd (subst T (sym (subst (λ (f : Option X). IsTrue (is_some f)) (get-map_of m k ∙ none) there)) tt)

  here : (m : FinMap R X) (k : K) (v : X) → get (insert m k v) k ≡ Some v
  here m k v = get-insert o m k v k ∙ ap (λ r. cond (is_eq r) (Some v) (get m k)) (tied_itself o k)

  pub is_there : (m : FinMap R X) (k : K) (v : X) → IsTrue (contains_key (insert m k v) k)
  is_there m k v = ap is_some (here m k v)

  tied : (q k : K) (b : Bool) → eq_by_cmp R q k ≡ b → (m : FinMap R X) (x : Option X) → get m k ≡ x → cond b x (get m q) ≡ get m q
  tied q k true e m x is = sym is ∙ get_tied o m q k (eq_by_cmp_true (R q k) e)
  tied q k false e m x is = refl

  twice : (b : Bool) (x y z : Option X) → cond b x (cond b y z) ≡ cond b x z
  twice true x y z = refl
  twice false x y z = refl

  -- a map with a key put in and taken out, or with its value put back
  pub taken_back : IsAntisymmetric R → (m : FinMap R X) (k : K) (v : X) → get m k ≡ None → remove (insert m k v) k ≡ m
  taken_back apart m k v none = same_map o apart _ _ (λ q. get-remove o (insert m k v) k q
      ∙ ap (cond (eq_by_cmp R q k) None) (get-insert o m k v q)
      ∙ twice (eq_by_cmp R q k) None (Some v) (get m q)
      ∙ tied q k (eq_by_cmp R q k) refl m None none)

  pub set_again : IsAntisymmetric R → (m : FinMap R X) (k : K) (v w : X) → get m k ≡ Some w → insert (insert m k v) k w ≡ m
  set_again apart m k v w some = same_map o apart _ _ (λ q. get-insert o (insert m k v) k w q
      ∙ ap (cond (eq_by_cmp R q k) (Some w)) (get-insert o m k v q)
      ∙ twice (eq_by_cmp R q k) (Some w) (Some v) (get m q)
      ∙ tied q k (eq_by_cmp R q k) refl m (Some w) some)

-- what holds of a call that was carried out
pub carried_out : {A E P : Type 0} (r : Result A E) (x : A) → r ≡ Ok x → OnOk r P → P
carried_out {P = P} r x is h = subst (λ r. OnOk r P) is h

-- what holds of a call holds where it fails
pub failing : {A E P : Type 0} (r : Result A E) → P → OnErr r P
failing (Ok x) h = tt
failing (Err e) h = h
