-- The pieces that a query shows beside their lots.
use Rattle.std.proofs.Common.{◌≡◌, ℤ, ◌<ℤ◌, pos, Bool, true, false, cond, ◌&&◌, List, [], ◌∷◌, ◌++◌, map, filter, reverse, take, Option, Some, None, option_map, refl, sym, ap, subst, ◌∙◌, Less, int_eq, IsPermutation, append-nil, arith}
use Rattle.std.specs.List.{list_all, AllByRecursion, cons_option}
use Rattle.std.proofs.lemmas.Int.{ints}
use Rattle.std.proofs.lemmas.List.{reverse-append}
use Rattle.std.proofs.lemmas.List.Elements.{filter-append}
use Rattle.std.proofs.lemmas.List.Sorted.{IsPermutation-map, IsPermutation-sym, IsPermutation-trans, IsPermutation-reverse}
use Rattle.sqlite.specs.Order.{Row}
use Rattle.sqlite.specs.Tree.{Trees, IsAscending}
use Rattle.sqlite.specs.Term.{holds, eval_all}
use Rattle.sqlite.specs.Query.{Query, IsAnswer, IsKept, Output, output, output_cmp, page, matches}
use Rattle.sqlite_sql.specs.Group.{IsGrouped}
use Rattle.sqlite_sql.proofs.QueryLemmas.{output_cmp_total}
use Rattle.sqlite_keyed.specs.Keyed.{IsKeyedBy, get_by}
use Rattle.sqlite_keyed.specs.Lists.{pairs}
use Rattle.sqlite_keyed.proofs.ListLemmas.{map-map, filter-map, filter_none, all_weaker, all-append, ascending-map, ascending-append, ascending-filter}
use Rattle.sqlite_keyed.proofs.SortLemmas.{sorted_unique}
use Rattle.sqlite_typed.proofs.AnswerLemmas.{Source, matches_are}
use Rattle.goo_tables_rows.specs.Rows.{Lot, lot_key, piece_key}
use Rattle.goo_tables_rows.specs.Beside.{beside}
use Rattle.goo_tables_rows.specs.declared.piece.PieceRow.{PieceRow}
use Rattle.goo_tables_rows.specs.Asked.{FirstZip}

-- ---- an answer whose order leaves no tie among the rows that pass

module _ (q : Query) (db : Trees) (params : Row) {A : Type 0} (source : Source db q.from A) (p : A → Bool)
    (tests : (a : A) → list_all (holds (params ∷ source.env (params ∷ []) a)) q.filter ≡ p a) (show : A → Row)
    (shows : (a : A) → eval_all q.project (params ∷ source.env (params ∷ []) a) ≡ show a) (no_group : q.group ≡ None) (no_distinct : q.distinct ≡ false) where
  abbrev pub out : A → Output
  out a = output q (params ∷ source.env (params ∷ []) a)

  pub answer_listed : (all : List A) → IsPermutation (filter p source.rows) all → IsAscending (λ a b. output_cmp q (out a) (out b) ≡ Less) all
      → (rows : List Row) → IsAnswer q db params rows → rows ≡ page q params (map show all)
  answer_listed all same rises rows answer =
      let staged = subst (λ g. IsGrouped g params (matches db q.filter q.from (params ∷ [])) answer.staged) no_group answer.grouped in
      let kept = subst (λ d. IsKept d q.collations (map (output q) answer.staged) answer.kept) no_distinct answer.distinct in
      let found : answer.kept ≡ map out (filter p source.rows) = kept ∙ ap (map (output q)) (staged ∙ matches_are q db params source p tests) ∙ map-map (output q) _ _ in
      let shuffled : IsPermutation (map out (filter p source.rows)) answer.ordered = subst (λ l. IsPermutation l answer.ordered) found answer.same in
      let arranged = IsPermutation-trans _ _ _ (IsPermutation-map out _ _ (IsPermutation-sym _ _ same)) shuffled in
      let ordered : answer.ordered ≡ map out all = sorted_unique (output_cmp q) (output_cmp_total q) (map out all) answer.ordered (ascending-map (λ x y. output_cmp q x y ≡ Less) out all rises) arranged answer.sorted in
      answer.shown ∙ ap (page q params) (ap (map (λ (o : Output). o.1)) ordered ∙ map-map (λ (o : Output). o.1) out all ∙ (λ i. map (λ a. shows a i) all))

-- ---- a list the other way round

reverse-cons : {A : Type 0} (x : A) (xs : List A) → reverse (x ∷ xs) ≡ reverse xs ++ x ∷ []
reverse-cons x xs = reverse-append (x ∷ []) xs

filter-reverse : {A : Type 0} (p : A → Bool) (xs : List A) → filter p (reverse xs) ≡ reverse (filter p xs)
filter-reverse p [] = refl
filter-reverse p (x ∷ xs) = ap (filter p) (reverse-cons x xs) ∙ filter-append p (reverse xs) (x ∷ []) ∙ ap (λ l. l ++ filter p (x ∷ [])) (filter-reverse p xs) ∙ go (p x)
  where
    go : (b : Bool) → reverse (filter p xs) ++ cond b (x ∷ []) [] ≡ reverse (cond b (x ∷ filter p xs) (filter p xs))
    go true = sym (reverse-cons x (filter p xs))
    go false = append-nil (reverse (filter p xs))

all-reverse : {A : Type 0} (P : A → Type 0) (xs : List A) → AllByRecursion P xs → AllByRecursion P (reverse xs)
all-reverse P [] all = tt
all-reverse P (x ∷ xs) all = subst (AllByRecursion P) (sym (reverse-cons x xs)) (all-append P (reverse xs) (x ∷ []) (all-reverse P xs all.1) (all.0, tt))

pub ascending-reverse : {A : Type 0} (R : A → A → Type 0) (xs : List A) → IsAscending R xs → IsAscending (λ a b. R b a) (reverse xs)
ascending-reverse R [] up = tt
ascending-reverse R (x ∷ xs) up =
    subst (IsAscending (λ a b. R b a)) (sym (reverse-cons x xs))
    (ascending-append (λ a b. R b a) (reverse xs) (x ∷ []) (ascending-reverse R xs up.1) (tt, tt) (all_weaker _ (λ y. AllByRecursion (λ z. R z y) (x ∷ [])) (λ y h. (h, tt)) (reverse xs) (all-reverse (R x) xs up.0)))

-- ---- each piece beside its lot

filter_both : {A : Type 0} (p q : A → Bool) (xs : List A) → filter (λ a. p a && q a) xs ≡ filter q (filter p xs)
filter_both p q [] = refl
filter_both p q (x ∷ xs) = go (p x) (filter_both p q xs)
  where
    go : (b : Bool) → filter (λ a. p a && q a) xs ≡ filter q (filter p xs) → cond (b && q x) (x ∷ filter (λ a. p a && q a) xs) (filter (λ a. p a && q a) xs) ≡ filter q (cond b (x ∷ filter p xs) (filter p xs))
    go true more = ap (λ l. cond (q x) (x ∷ l) l) more
    go false more = more

-- the rows with a key are the one that has it, if there is one
found_once : {X : Type 0} (key : X → ℤ) (n : ℤ) (xs : List X) → IsKeyedBy key xs → filter (λ x. int_eq (key x) n) xs ≡ cons_option (get_by key xs n) []
found_once key n [] up = refl
found_once key n (x ∷ xs) up = go (int_eq (key x) n) refl (found_once key n xs up.1)
  where
    go : (b : Bool) → int_eq (key x) n ≡ b → filter (λ y. int_eq (key y) n) xs ≡ cons_option (get_by key xs n) []
        → cond b (x ∷ filter (λ y. int_eq (key y) n) xs) (filter (λ y. int_eq (key y) n) xs) ≡ cons_option (cond b (Some x) (get_by key xs n)) []
    go false e more = more
    go true e more = ap (λ l. x ∷ l) (filter_none _ xs (all_weaker _ (λ y. int_eq (key y) n ≡ false) (λ y h. grind (arith, ints)) xs up.0))

abbrev pub is_of_lot : PieceRow × Lot → Bool
is_of_lot a = int_eq (pos a.1.id) (pos a.0.lot)

of_pairs : (lots : List Lot) → IsKeyedBy lot_key lots → (pieces : List PieceRow) → filter is_of_lot (pairs pieces lots) ≡ beside lots pieces
of_pairs lots up [] = refl
of_pairs lots up (p ∷ pieces) =
    filter-append is_of_lot (map (λ l. (p, l)) lots) (pairs pieces lots)
    ∙ ap (λ l. l ++ filter is_of_lot (pairs pieces lots)) (filter-map is_of_lot (λ (l : Lot). (p, l)) lots ∙ ap (map (λ (l : Lot). (p, l))) (found_once lot_key (pos p.lot) lots up))
    ∙ go (get_by lot_key lots (pos p.lot)) ∙ ap (cons_option (option_map (λ (l : Lot). (p, l)) (get_by lot_key lots (pos p.lot)))) (of_pairs lots up pieces)
  where
    go : (o : Option Lot) → map (λ (l : Lot). (p, l)) (cons_option o []) ++ filter is_of_lot (pairs pieces lots) ≡ cons_option (option_map (λ (l : Lot). (p, l)) o) (filter is_of_lot (pairs pieces lots))
    go None = refl
    go (Some l) = refl

pub passing_pairs : (lots : List Lot) (pieces : List PieceRow) (q : PieceRow × Lot → Bool) → IsKeyedBy lot_key lots → filter (λ a. is_of_lot a && q a) (pairs pieces lots) ≡ filter q (beside lots pieces)
passing_pairs lots pieces q up = filter_both is_of_lot q (pairs pieces lots) ∙ ap (filter q) (of_pairs lots up pieces)

all_beside : (P : PieceRow → Type 0) (lots : List Lot) (pieces : List PieceRow) → AllByRecursion P pieces → AllByRecursion (λ a. P a.0) (beside lots pieces)
all_beside P lots [] all = tt
all_beside P lots (p ∷ pieces) all = go (get_by lot_key lots (pos p.lot)) (all_beside P lots pieces all.1)
  where
    go : (o : Option Lot) → AllByRecursion (λ a. P a.0) (beside lots pieces) → AllByRecursion (λ a. P a.0) (cons_option (option_map (λ (l : Lot). (p, l)) o) (beside lots pieces))
    go None more = more
    go (Some l) more = (all.0, more)

abbrev pub Precedes : PieceRow × Lot → PieceRow × Lot → Type 0
Precedes a b = piece_key a.0 <ℤ piece_key b.0

rising_beside : (lots : List Lot) (pieces : List PieceRow) → IsKeyedBy piece_key pieces → IsAscending Precedes (beside lots pieces)
rising_beside lots [] up = tt
rising_beside lots (p ∷ pieces) up = go (get_by lot_key lots (pos p.lot)) (rising_beside lots pieces up.1) (all_beside (λ r. piece_key p <ℤ piece_key r) lots pieces up.0)
  where
    go : (o : Option Lot) → IsAscending Precedes (beside lots pieces) → AllByRecursion (λ a. piece_key p <ℤ piece_key a.0) (beside lots pieces) → IsAscending Precedes (cons_option (option_map (λ (l : Lot). (p, l)) o) (beside lots pieces))
    go None more above = more
    go (Some l) more above = (above, more)

pub rising_passing : (lots : List Lot) (pieces : List PieceRow) (q : PieceRow × Lot → Bool) → IsKeyedBy piece_key pieces → IsAscending Precedes (filter q (beside lots pieces))
rising_passing lots pieces q up = ascending-filter Precedes q (beside lots pieces) (rising_beside lots pieces up)

pub falling_passing : (lots : List Lot) (pieces : List PieceRow) (q : PieceRow × Lot → Bool) → IsKeyedBy piece_key pieces → IsAscending (λ a b. Precedes b a) (filter q (reverse (beside lots pieces)))
falling_passing lots pieces q up = ascending-filter (λ a b. Precedes b a) q (reverse (beside lots pieces)) (ascending-reverse Precedes (beside lots pieces) (rising_beside lots pieces up))

pub falling_pairs : (lots : List Lot) (pieces : List PieceRow) (q : PieceRow × Lot → Bool) → IsKeyedBy lot_key lots
    → IsPermutation (filter (λ a. is_of_lot a && q a) (pairs pieces lots)) (filter q (reverse (beside lots pieces)))
falling_pairs lots pieces q up =
    subst (λ l. IsPermutation l (filter q (reverse (beside lots pieces)))) (sym (passing_pairs lots pieces q up))
    (subst (IsPermutation (filter q (beside lots pieces))) (sym (filter-reverse q (beside lots pieces))) (IsPermutation-reverse (filter q (beside lots pieces))))

-- the first of a list is the first of what LIMIT 1 leaves of it
pub first_left : {A B : Type 0} (R : A → B → Type 0) (xs : List A) (o : Option B) → FirstZip R (take 1 xs) o → FirstZip R xs o
first_left R [] None h = tt
first_left R [] (Some y) h = absurd h
first_left R (x ∷ xs) None h = absurd h
first_left R (x ∷ xs) (Some y) h = h
