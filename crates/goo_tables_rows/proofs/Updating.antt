-- What an UPDATE makes of a table whose rows are typed.
use Rattle.std.proofs.Common.{◌≡◌, ℤ, ◌<ℤ◌, Bool, true, false, not, cond, List, [], ◌∷◌, map, filter, fold, drop, refl, sym, ap, subst, ◌∙◌, arith, int_cmp, Less, Greater}
use Rattle.std.specs.List.{AllByRecursion}
use Rattle.std.proofs.lemmas.Int.{ints}
use Rattle.sqlite.specs.declared.types.Value.TheVariants.{Int}
use Rattle.sqlite.specs.Order.{Row}
use Rattle.sqlite.specs.Table.{Table}
use Rattle.sqlite.specs.Tree.{Trees, rowid, put_row}
use Rattle.sqlite.specs.Edit.{id_in, numbered, put_all, without_all, edit_of, edited}
use Rattle.sqlite.specs.Rowids.TheVariants.{Given}
use Rattle.sqlite_rules.specs.Cast.{cast_row}
use Rattle.sqlite_rules.specs.Calls.{ids_of}
use Rattle.sqlite_keyed.specs.Keyed.{IsKeyedBy, insert_by}
use Rattle.sqlite_keyed.specs.Lists.{update_where, delete_where}
use Rattle.sqlite_keyed.proofs.ListLemmas.{map-map, map_same, all-filter, all_map, all_weaker, ascending-map, ascending_weaker}
use Rattle.sqlite_typed.proofs.RowLemmas.{puts-map}
use Rattle.goo_tables_rows.proofs.Typed.{removes}

module _ {X : Type 0} (key : X → ℤ) where
  insert_below : (x : X) (xs : List X) → AllByRecursion (λ n. key x <ℤ key n) xs → insert_by key xs x ≡ x ∷ xs
  insert_below x [] below = refl
  insert_below x (y ∷ ys) below =
      let k = below.0 in
      let above : int_cmp (key y) (key x) ≡ Greater = grind (arith, ints) in
      rw above refl

  inserts_past : (news : List X) (x : X) (xs : List X) → AllByRecursion (λ n. key x <ℤ key n) news → fold (insert_by key) (x ∷ xs) news ≡ x ∷ fold (insert_by key) xs news
  inserts_past [] x xs above = refl
  inserts_past (n ∷ news) x xs above =
      let k = above.0 in
      let less : int_cmp (key x) (key n) ≡ Less = grind (arith, ints) in
      rw less (inserts_past news x (insert_by key xs n) above.1)

  module _ (p : X → Bool) (f : X → X) (keeps : (x : X) → key (f x) ≡ key x) where
    above_all : (a : ℤ) (xs : List X) → AllByRecursion (λ n. a <ℤ key n) xs → AllByRecursion (λ n. a <ℤ key n) (map f (filter p xs))
    above_all a xs up = all_map _ f _ (all-filter _ p xs (all_weaker _ (λ n. a <ℤ key (f n)) (λ n h. rw (keeps n) h) xs up))

    -- rows taken out and put back changed are rows that were changed
    puts_back : (xs : List X) → IsKeyedBy key xs → fold (insert_by key) (delete_where p xs) (map f (filter p xs)) ≡ update_where p f xs
    puts_back [] up = refl
    puts_back (x ∷ xs) up = go (p x) (puts_back xs up.1) (above_all (key x) xs up.0)
      where
        go : (b : Bool) → fold (insert_by key) (delete_where p xs) (map f (filter p xs)) ≡ update_where p f xs → AllByRecursion (λ n. key x <ℤ key n) (map f (filter p xs))
            → fold (insert_by key) (cond (not b) (x ∷ delete_where p xs) (delete_where p xs)) (map f (cond b (x ∷ filter p xs) (filter p xs))) ≡ cond b (f x) x ∷ update_where p f xs
        go false more above = inserts_past _ x _ above ∙ ap (λ l. x ∷ l) more
        go true more above =
            let low : AllByRecursion (λ n. key (f x) <ℤ key n) (delete_where p xs) = all-filter _ (λ y. not (p y)) xs (subst (λ a. AllByRecursion (λ n. a <ℤ key n) xs) (sym (keeps x)) up.0) in
            ap (λ l. fold (insert_by key) l (map f (filter p xs))) (insert_below (f x) _ low)
            ∙ inserts_past _ (f x) _ (subst (λ a. AllByRecursion (λ n. a <ℤ key n) (map f (filter p xs))) (sym (keeps x)) above) ∙ ap (λ l. f x ∷ l) more

    changed_key : (x : X) (b : Bool) → key (cond b (f x) x) ≡ key x
    changed_key x true = keeps x
    changed_key x false = refl

    pub IsKeyedBy-update_where : (xs : List X) → IsKeyedBy key xs → IsKeyedBy key (update_where p f xs)
    IsKeyedBy-update_where xs up =
        ascending-map (λ a b. key a <ℤ key b) (λ x. cond (p x) (f x) x) xs
        (ascending_weaker _ (λ a b. key (cond (p a) (f a) a) <ℤ key (cond (p b) (f b) b)) (λ a b h. rw (changed_key a (p a), changed_key b (p b)) h) xs up)

given_numbered : (rows news : List Row) → numbered Given rows news ≡ news
given_numbered rows [] = refl
given_numbered rows (r ∷ news) = ap (λ l. r ∷ l) (given_numbered (put_row r rows) news)

module _ {X : Type 0} (key : X → ℤ) (to_row : X → Row) (keyed : (x : X) → rowid (to_row x) ≡ Int (key x)) where
  puts_one_by_one : (rows : List Row) (news : List X) → put_all rows (map to_row news) ≡ fold (λ l x. put_row (to_row x) l) rows news
  puts_one_by_one rows [] = refl
  puts_one_by_one rows (n ∷ news) = puts_one_by_one (put_row (to_row n) rows) news

  module _ (table : Table) (casts : (x : X) → cast_row table (to_row x) ≡ to_row x) (p : X → Bool) (f : X → X) (keeps : (x : X) → key (f x) ≡ key x) where
    -- what the query of an UPDATE shows of a row: its rowid, and the row as it will be
    abbrev pub shown_update : X → Row
    shown_update x = Int (key x) ∷ to_row (f x)

    -- the rowids that an UPDATE takes out, and the rows that it puts in
    pub ids_gone : (xs : List X) (rows : List Row) → rows ≡ map shown_update (filter p xs) → ids_of rows ≡ map key (filter p xs)
    ids_gone xs rows shown = ap ids_of shown ∙ map-map (λ (r : Row). id_in (rowid r)) shown_update (filter p xs)

    pub rows_put : (db : Trees) (xs : List X) (rows : List Row) → rows ≡ map shown_update (filter p xs) → (edit_of db table (ids_of rows) Given 1 rows).news ≡ map to_row (map f (filter p xs))
    rows_put db xs rows shown =
        let fs = filter p xs in
        given_numbered _ _ ∙ ap (map (λ s. cast_row table (drop 1 s))) shown ∙ map-map (λ (s : Row). cast_row table (drop 1 s)) shown_update fs ∙ map_same _ _ (λ x. casts (f x)) fs ∙ sym (map-map to_row f fs)

    pub updated : (db : Trees) (xs : List X) → db table.tree ≡ map to_row xs → IsKeyedBy key xs → (rows : List Row) → rows ≡ map shown_update (filter p xs)
        → edited db (edit_of db table (ids_of rows) Given 1 rows) ≡ map to_row (update_where p f xs)
    updated db xs is up rows shown =
        let fs = filter p xs in
        let left = ap (without_all (db table.tree)) (ids_gone xs rows shown) ∙ removes key to_row keyed (db table.tree) xs p is up in
        ap (put_all (without_all (db table.tree) (ids_of rows))) (rows_put db xs rows shown) ∙ ap (λ l. put_all l (map to_row (map f fs))) left ∙ puts_one_by_one _ (map f fs)
        ∙ puts-map key to_row keyed (map f fs) (delete_where p xs) ∙ ap (map to_row) (puts_back key p f keeps xs up)
