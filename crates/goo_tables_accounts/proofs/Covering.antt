-- What the loops over FROM go through where a table is joined from the left, and the answer to a query over it.
use Rattle.std.proofs.Common.{◌≡◌, ℕ, ℤ, Bool, true, false, cond, List, [], ◌∷◌, ◌++◌, map, filter, flat_map, Option, Some, None, refl, sym, ap, subst, ◌∙◌, Less, int_eq, IsPermutation, arith}
use Rattle.std.specs.List.{list_all, AllByRecursion, cons_option}
use Rattle.std.proofs.lemmas.Int.{ints}
use Rattle.std.proofs.lemmas.List.Elements.{filter-append}
use Rattle.std.proofs.lemmas.List.Sorted.{IsPermutation-map, IsPermutation-sym, IsPermutation-trans}
use Rattle.sqlite.specs.Order.{Row}
use Rattle.sqlite.specs.Tree.{Trees, IsAscending}
use Rattle.sqlite.specs.Term.{Term, holds, eval_all}
use Rattle.sqlite.specs.Query.{Query, IsAnswer, IsKept, Output, output, output_cmp, page, matches}
use Rattle.sqlite_sql.specs.Term.{Env}
use Rattle.sqlite_sql.specs.Query.{Join, end, inner, left, or_nulls}
use Rattle.sqlite_sql.specs.Group.{IsGrouped}
use Rattle.sqlite_sql.proofs.QueryLemmas.{output_cmp_total}
use Rattle.sqlite_keyed.specs.Keyed.{IsKeyedBy, get_by}
use Rattle.sqlite_keyed.proofs.ListLemmas.{map-map, filter-map, filter_none, filter_same, filter_as_flat_map, flat_map-map, flat_map-one, flat_map_same_on, all_weaker, ascending-map}
use Rattle.sqlite_keyed.proofs.SortLemmas.{sorted_unique}

-- the loops over these steps go through these environments
abbrev pub Covers : Trees → Join → Env → List Env → Type 0
Covers db from before all = (terms : List Term) → matches db terms from before ≡ filter (λ e. list_all (holds e) terms) all

-- ---- a table, and what the steps after it go through for each of its rows

filter-flat_map : {A B : Type 0} (p : B → Bool) (f : A → List B) (xs : List A) → filter p (flat_map f xs) ≡ flat_map (λ x. filter p (f x)) xs
filter-flat_map p f [] = refl
filter-flat_map p f (x ∷ xs) = filter-append p (f x) _ ∙ ap (λ l. filter p (f x) ++ l) (filter-flat_map p f xs)

pub covers_table : {X : Type 0} (db : Trees) (t : ℕ) (encode : X → Row) (xs : List X) → db t ≡ map encode xs → (from : Join) (before : Env) (rest : X → List Env)
    → ((x : X) → Covers db from (before ++ encode x ∷ []) (rest x)) → Covers db (inner t from) before (flat_map rest xs)
covers_table {X} db t encode xs stored from before rest more terms =
    let below = λ (r : Row). matches db terms from (before ++ r ∷ []) in
    let passes = λ (e : Env). list_all (holds e) terms in
    ap (flat_map below) stored ∙ flat_map-map below encode xs ∙ flat_map_same_on _ (λ x. filter passes (rest x)) (λ x. more x terms) xs ∙ sym (filter-flat_map passes rest xs)

pub each_once : {X Y : Type 0} (f : X → Y) (xs : List X) → flat_map (λ x. f x ∷ []) xs ≡ map f xs
each_once f xs = sym (flat_map-map (λ y. y ∷ []) f xs) ∙ flat_map-one (map f xs)

-- ---- a table that is joined from the left, last of all

-- a row in its slot, where there is one
abbrev pub or_empty : {X : Type 0} → (X → Row) → Option X → Row
or_empty encode None = []
or_empty encode (Some x) = encode x

abbrev pub or_none : {X : Type 0} → List X → List (Option X)
or_none [] = None ∷ []
or_none (x ∷ xs) = map Some (x ∷ xs)

nulls_or_none : {X : Type 0} (encode : X → Row) (xs : List X) → or_nulls (map encode xs) ≡ map (or_empty encode) (or_none xs)
nulls_or_none encode [] = refl
nulls_or_none encode (x ∷ xs) = sym (map-map (or_empty encode) Some (x ∷ xs))

module _ {X : Type 0} (db : Trees) (t : ℕ) (encode : X → Row) (xs : List X) (stored : db t ≡ map encode xs) (on : List Term) (before : Env) where
  abbrev whole : Option X → Env
  whole o = before ++ or_empty encode o ∷ []

  pub covers_left : (p : X → Bool) → ((x : X) → list_all (holds (before ++ encode x ∷ [])) on ≡ p x) → Covers db (left t on end) before (map whole (or_none (filter p xs)))
  covers_left p tests terms =
      let passes = λ (e : Env). list_all (holds e) terms in
      let kept = λ (e : Env). cond (passes e) (e ∷ []) [] in
      let joins = λ (r : Row). list_all (holds (before ++ r ∷ [])) on in
      let rows : or_nulls (filter joins (db t)) ≡ map (or_empty encode) (or_none (filter p xs)) =
      ap (λ rs. or_nulls (filter joins rs)) stored ∙ ap or_nulls (filter-map joins encode xs ∙ ap (map encode) (filter_same _ p tests xs)) ∙ nulls_or_none encode (filter p xs) in
      ap (flat_map (λ (r : Row). kept (before ++ r ∷ []))) rows ∙ flat_map-map _ (or_empty encode) (or_none (filter p xs))
      ∙ sym (filter_as_flat_map passes (map whole (or_none (filter p xs))) ∙ flat_map-map kept whole (or_none (filter p xs)))

-- the rows with a key are the one that has it, if there is one
found_once : {X : Type 0} (key : X → ℤ) (n : ℤ) (xs : List X) → IsKeyedBy key xs → filter (λ x. int_eq (key x) n) xs ≡ cons_option (get_by key xs n) []
found_once key n [] up = refl
found_once key n (x ∷ xs) up = go (int_eq (key x) n) refl (found_once key n xs up.1)
  where
    go : (b : Bool) → int_eq (key x) n ≡ b → filter (λ y. int_eq (key y) n) xs ≡ cons_option (get_by key xs n) []
        → cond b (x ∷ filter (λ y. int_eq (key y) n) xs) (filter (λ y. int_eq (key y) n) xs) ≡ cons_option (cond b (Some x) (get_by key xs n)) []
    go false e more = more
    go true e more = ap (λ l. x ∷ l) (filter_none _ xs (all_weaker _ (λ y. int_eq (key y) n ≡ false) (λ y h. grind (arith, ints)) xs up.0))

none_or_once : {X : Type 0} (o : Option X) → or_none (cons_option o []) ≡ o ∷ []
none_or_once None = refl
none_or_once (Some x) = refl

-- by its key: the row that has it, if there is one
pub covers_keyed : {X : Type 0} (db : Trees) (t : ℕ) (encode : X → Row) (key : X → ℤ) (xs : List X) → db t ≡ map encode xs → IsKeyedBy key xs → (on : List Term) (before : Env) (n : ℤ)
    → ((x : X) → list_all (holds (before ++ encode x ∷ [])) on ≡ int_eq (key x) n) → Covers db (left t on end) before ((before ++ or_empty encode (get_by key xs n) ∷ []) ∷ [])
covers_keyed {X} db t encode key xs stored keyed on before n tests terms =
    covers_left db t encode xs stored on before (λ x. int_eq (key x) n) tests terms
    ∙ ap (λ os. filter (λ e. list_all (holds e) terms) (map (λ (o : Option X). before ++ or_empty encode o ∷ []) os)) (ap or_none (found_once key n xs keyed) ∙ none_or_once (get_by key xs n))

-- ---- an answer whose order leaves no tie among the rows that pass

map_alike : {A B : Type 0} (f g : A → B) (xs : List A) → AllByRecursion (λ a. f a ≡ g a) xs → map f xs ≡ map g xs
map_alike f g [] all = refl
map_alike f g (x ∷ xs) all = λ i. all.0 i ∷ map_alike f g xs all.1 i

module _ (q : Query) (db : Trees) (params : Row) {A : Type 0} (env : A → Env) (rows : List A) (covers : Covers db q.from (params ∷ []) (map env rows)) (p : A → Bool) (tests : (a : A) → list_all (holds (env a)) q.filter ≡ p a)
    (no_group : q.group ≡ None) (no_distinct : q.distinct ≡ false) where
  abbrev out : A → Output
  out a = output q (env a)

  pub answer_covered : (all : List A) (show : A → Row) → AllByRecursion (λ a. eval_all q.project (env a) ≡ show a) all → IsPermutation (filter p rows) all → IsAscending (λ a b. output_cmp q (out a) (out b) ≡ Less) all
      → (found : List Row) → IsAnswer q db params found → found ≡ page q params (map show all)
  answer_covered all show shows same rises found answer =
      let staged = subst (λ g. IsGrouped g params (matches db q.filter q.from (params ∷ [])) answer.staged) no_group answer.grouped in
      let kept = subst (λ d. IsKept d q.collations (map (output q) answer.staged) answer.kept) no_distinct answer.distinct in
      let matching : matches db q.filter q.from (params ∷ []) ≡ map env (filter p rows) = covers q.filter ∙ filter-map _ env rows ∙ ap (map env) (filter_same _ p tests rows) in
      let outputs : answer.kept ≡ map out (filter p rows) = kept ∙ ap (map (output q)) (staged ∙ matching) ∙ map-map (output q) env _ in
      let shuffled : IsPermutation (map out (filter p rows)) answer.ordered = subst (λ l. IsPermutation l answer.ordered) outputs answer.same in
      let arranged = IsPermutation-trans _ _ _ (IsPermutation-map out _ _ (IsPermutation-sym _ _ same)) shuffled in
      let ordered : answer.ordered ≡ map out all = sorted_unique (output_cmp q) (output_cmp_total q) (map out all) answer.ordered (ascending-map (λ x y. output_cmp q x y ≡ Less) out all rises) arranged answer.sorted in
      answer.shown ∙ ap (page q params) (ap (map (λ (o : Output). o.1)) ordered ∙ map-map (λ (o : Output). o.1) out all ∙ map_alike _ show all shows)
