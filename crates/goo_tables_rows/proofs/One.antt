-- A query that finds one row at most shows it whatever its order.
use Rattle.std.proofs.Common.{◌≡◌, inl, inr, ℤ, Bool, cond, true, false, List, [], ◌∷◌, map, filter, None, length, refl, sym, ap, subst, ◌∙◌, arith, IsPermutation, int_eq}
use Rattle.std.specs.List.{list_all}
use Rattle.std.proofs.lemmas.List.Sorted.{length_permutation}
use Rattle.std.proofs.lemmas.Int.{ints}
use Rattle.sqlite.specs.Order.{Row}
use Rattle.sqlite.specs.Tree.{Trees}
use Rattle.sqlite.specs.Term.{holds, eval_all}
use Rattle.sqlite.specs.Query.{Query, IsAnswer, IsKept, Output, output, page, matches}
use Rattle.sqlite_sql.specs.Group.{IsGrouped}
use Rattle.sqlite.proofs.Callers.{one_permutation}
use Rattle.sqlite_keyed.specs.Keyed.{IsKeyedBy}
use Rattle.goo_tables_rows.specs.Once.{IsOnce}
use Rattle.sqlite_keyed.proofs.ListLemmas.{map-map, filter_none, all_weaker}
use Rattle.sqlite_typed.proofs.AnswerLemmas.{Source, matches_are}

same_order : {X : Type 0} (xs ys : List X) → IsOnce xs → IsPermutation xs ys → ys ≡ xs
same_order xs [] (inl none) same = sym none
same_order xs (y ∷ ys) (inl none) same = absurd (omega (arith, length_permutation _ _ same, ap length none))
same_order xs ys (inr one) same = one_permutation one.0 ys (subst (λ l. IsPermutation l ys) one.1 same) ∙ sym one.1

map_one : {X Y : Type 0} (f : X → Y) (xs : List X) → IsOnce xs → IsOnce (map f xs)
map_one f xs (inl none) = inl (ap (map f) none)
map_one f xs (inr one) = inr (f one.0, ap (map f) one.1)

-- a key finds one row at most
pub one_keyed : {X : Type 0} (key : X → ℤ) (n : ℤ) (xs : List X) → IsKeyedBy key xs → IsOnce (filter (λ x. int_eq (key x) n) xs)
one_keyed key n [] up = inl refl
one_keyed key n (x ∷ xs) up = go (int_eq (key x) n) refl (one_keyed key n xs up.1)
  where
    go : (b : Bool) → int_eq (key x) n ≡ b → IsOnce (filter (λ y. int_eq (key y) n) xs) → IsOnce (cond b (x ∷ filter (λ y. int_eq (key y) n) xs) (filter (λ y. int_eq (key y) n) xs))
    go false e more = more
    go true e more = inr (x, ap (λ l. x ∷ l) (filter_none _ xs (all_weaker _ (λ y. int_eq (key y) n ≡ false) (λ y h. grind (arith, ints)) xs up.0)))

module _ {A : Type 0} (q : Query) (db : Trees) (params : Row) (source : Source db q.from A) (p : A → Bool)
    (tests : (a : A) → list_all (holds (params ∷ source.env (params ∷ []) a)) q.filter ≡ p a) (show : A → Row)
    (shows : (a : A) → eval_all q.project (params ∷ source.env (params ∷ []) a) ≡ show a) (no_group : q.group ≡ None) (no_distinct : q.distinct ≡ false) where
  abbrev out : A → Output
  out a = output q (params ∷ source.env (params ∷ []) a)

  pub answer_of_one : IsOnce (filter p source.rows) → (rows : List Row) → IsAnswer q db params rows → rows ≡ page q params (map show (filter p source.rows))
  answer_of_one one rows answer =
      let staged = subst (λ g. IsGrouped g params (matches db q.filter q.from (params ∷ [])) answer.staged) no_group answer.grouped in
      let kept = subst (λ d. IsKept d q.collations (map (output q) answer.staged) answer.kept) no_distinct answer.distinct in
      let all : answer.kept ≡ map out (filter p source.rows) = kept ∙ ap (map (output q)) (staged ∙ matches_are q db params source p tests) ∙ map-map (output q) _ _ in
      let ordered = same_order _ answer.ordered (map_one out _ one) (subst (λ l. IsPermutation l answer.ordered) all answer.same) in
      answer.shown ∙ ap (page q params) (ap (map (λ (o : Output). o.1)) ordered ∙ map-map (λ (o : Output). o.1) out _ ∙ (λ i. map (λ a. shows a i) (filter p source.rows)))
