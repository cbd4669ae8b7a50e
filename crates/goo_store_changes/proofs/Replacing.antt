-- A row in the place of another one: one UPDATE does what taking the other out and adding the row does, where the other is there.
use Rattle.std.proofs.Common.{◌≡◌, ℤ, pos, ◌<ℤ◌, ℕ, Bool, true, false, cond, List, [], ◌∷◌, filter, length, None, refl, sym, ap, ap₂, subst, ◌∙◌, arith, Greater, int_cmp, int_eq}
use Rattle.std.specs.List.{AllByRecursion}
use Rattle.std.proofs.lemmas.Int.{ints}
use Rattle.sqlite_keyed.specs.Keyed.{IsKeyedBy, get_by, insert_by}
use Rattle.sqlite_keyed.specs.Lists.{update_where, delete_where}
use Rattle.sqlite_keyed.proofs.ListLemmas.{all_weaker}
use Rattle.sqlite_keyed.proofs.KeyedLemmas.{Less-from_lt, same_int, int_eq_apart}
use Rattle.goo_tables_rows.specs.Rows.{Tables, piece_key}
use Rattle.goo_tables_rows.specs.declared.piece.PieceRow.{PieceRow}
use Rattle.goo_tables_accounts.specs.Changes.{begins_as, with_piece, with_piece_set, without_piece}

Greater-from_lt : (a b : ℤ) → a <ℤ b → int_cmp b a ≡ Greater
Greater-from_lt a b h = grind (arith, ints)

pos_same : (m n : ℕ) → pos m ≡ pos n → m ≡ n
pos_same m n same = cc

not_below_itself : (a b : ℤ) → a <ℤ b → b ≡ a → ⊥
not_below_itself a b h same = grind (arith, ints)

module _ {X : Type 0} (key : X → ℤ) (new : X) where
  abbrev has_its_key : X → Bool
  has_its_key y = int_eq (key y) (key new)

  -- where a later row has its key, an earlier one is below it
  below : (x : X) (xs : List X) (y : X) (ys : List X) → AllByRecursion (λ z. key x <ℤ key z) xs → filter has_its_key xs ≡ y ∷ ys → key x <ℤ key new
  below x [] y ys up is = absurd cc
  below x (z ∷ xs) y ys up is = go (has_its_key z) refl is (below x xs y ys up.1)
    where
      go : (b : Bool) → has_its_key z ≡ b → cond b (z ∷ filter has_its_key xs) (filter has_its_key xs) ≡ y ∷ ys → (filter has_its_key xs ≡ y ∷ ys → key x <ℤ key new) → key x <ℤ key new
      go true e at later = subst (λ k. key x <ℤ k) (same_int (key z) (key new) e) up.0
      go false e at later = later at

  first_of_all : (xs : List X) → AllByRecursion (λ z. key new <ℤ key z) xs → insert_by key xs new ≡ new ∷ xs
  first_of_all [] up = refl
  first_of_all (z ∷ xs) up = rw (Greater-from_lt (key new) (key z) up.0) refl

  none_above : (xs : List X) → AllByRecursion (λ z. key new <ℤ key z) xs → AllByRecursion (λ z. has_its_key z ≡ false) xs
  none_above xs up = all_weaker (λ z. key new <ℤ key z) (λ z. has_its_key z ≡ false) (λ z h. int_eq_apart (key z) (key new) (not_below_itself (key new) (key z) h)) xs up

  none_left : (xs : List X) → filter has_its_key xs ≡ [] → AllByRecursion (λ z. has_its_key z ≡ false) xs
  none_left [] is = tt
  none_left (z ∷ xs) is = go (has_its_key z) refl is (none_left xs)
    where
      go : (b : Bool) → has_its_key z ≡ b → cond b (z ∷ filter has_its_key xs) (filter has_its_key xs) ≡ [] → (filter has_its_key xs ≡ [] → AllByRecursion (λ y. has_its_key y ≡ false) xs) → AllByRecursion (λ y. has_its_key y ≡ false) (z ∷ xs)
      go true e at later = absurd cc
      go false e at later = (e, later at)

  none_out : (xs : List X) → AllByRecursion (λ z. has_its_key z ≡ false) xs → delete_where has_its_key xs ≡ xs
  none_out [] none = refl
  none_out (z ∷ xs) none = rw (none.0) (ap (λ l. z ∷ l) (none_out xs none.1))

  none_set : (f : X → X) (xs : List X) → AllByRecursion (λ z. has_its_key z ≡ false) xs → update_where has_its_key f xs ≡ xs
  none_set f [] none = refl
  none_set f (z ∷ xs) none = rw (none.0) (ap (λ l. z ∷ l) (none_set f xs none.1))

  pub none_got : (xs : List X) → AllByRecursion (λ z. has_its_key z ≡ false) xs → get_by key xs (key new) ≡ None
  none_got [] none = refl
  none_got (z ∷ xs) none = rw (none.0) (none_got xs none.1)

  module _ (f : X → X) (puts : (y : X) → has_its_key y ≡ true → f y ≡ new) where
    -- one row has its key
    pub set_is_put : (xs : List X) (y : X) (ys : List X) → IsKeyedBy key xs → filter has_its_key xs ≡ y ∷ ys → update_where has_its_key f xs ≡ insert_by key (delete_where has_its_key xs) new
    set_is_put [] y ys up is = absurd cc
    set_is_put (x ∷ xs) y ys up is = go (has_its_key x) refl is (set_is_put xs y ys up.1)
      where
        go : (b : Bool) → has_its_key x ≡ b → cond b (x ∷ filter has_its_key xs) (filter has_its_key xs) ≡ y ∷ ys
            → (filter has_its_key xs ≡ y ∷ ys → update_where has_its_key f xs ≡ insert_by key (delete_where has_its_key xs) new) → update_where has_its_key f (x ∷ xs) ≡ insert_by key (delete_where has_its_key (x ∷ xs)) new
        go true e at later =
            let high : AllByRecursion (λ z. key new <ℤ key z) xs = subst (λ k. AllByRecursion (λ z. k <ℤ key z) xs) (same_int (key x) (key new) e) up.0 in
            let none = none_above xs high in
            rw e (ap₂ ◌∷◌ (puts x e) (none_set f xs none) ∙ sym (ap (λ l. insert_by key l new) (none_out xs none) ∙ first_of_all xs high))
        go false e at later = rw (e, Less-from_lt (key x) (key new) (below x xs y ys up.0 at)) (ap (λ l. x ∷ l) (later at))

  -- no row has its key
  pub none_there : (f : X → X) (xs : List X) → filter has_its_key xs ≡ [] → (update_where has_its_key f xs ≡ xs) × (delete_where has_its_key xs ≡ xs) × (get_by key xs (key new) ≡ None)
  none_there f xs is = let none = none_left xs is in (none_set f xs none, none_out xs none, none_got xs none)

-- ---- a piece in the place of another one

module _ (t : Tables) (x : PieceRow) (up : IsKeyedBy piece_key t.pieces) (n : ℕ) (counted : n ≡ length (filter (begins_as x) t.pieces)) where
  -- there is one: the UPDATE is both
  pub set_for_both : (n ≡ 0 → ⊥) → with_piece_set t x ≡ with_piece (without_piece t x.first) x
  set_for_both some = go (filter (begins_as x) t.pieces) refl
    where
      go : (l : List PieceRow) → filter (begins_as x) t.pieces ≡ l → with_piece_set t x ≡ with_piece (without_piece t x.first) x
      go [] is = absurd (some (counted ∙ ap length is))
      go (y ∷ ys) is = ap (λ ps. record t { pieces = ps }) (set_is_put piece_key x (λ p. record x { first = p.first }) (λ p has. ap (λ k. record x { first = k }) (pos_same p.first x.first (same_int (piece_key p) (piece_key x) has))) t.pieces y ys up is)

  -- there is none: nothing is changed, and the row is free
  module _ (zero : n ≡ 0) where
    none : filter (begins_as x) t.pieces ≡ []
    none = go (filter (begins_as x) t.pieces) refl
      where
        go : (l : List PieceRow) → filter (begins_as x) t.pieces ≡ l → filter (begins_as x) t.pieces ≡ []
        go [] is = is
        go (y ∷ ys) is = absurd (let same : 0 ≡ length (y ∷ ys) = sym zero ∙ (counted ∙ ap length is) in cc)

    pub added_for_both : with_piece (with_piece_set t x) x ≡ with_piece (without_piece t x.first) x
    added_for_both =
        let there = none_there piece_key x (λ p. record x { first = p.first }) t.pieces none in
        ap (λ ps. record t { pieces = insert_by piece_key ps x }) (there.0 ∙ sym there.1)

    pub set_is_free : get_by piece_key (with_piece_set t x).pieces (pos x.first) ≡ None
    set_is_free =
        let there = none_there piece_key x (λ p. record x { first = p.first }) t.pieces none in
        ap (λ ps. get_by piece_key ps (pos x.first)) there.0 ∙ there.2
