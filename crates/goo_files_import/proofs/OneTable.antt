-- An input has one list of records.
use Rattle.std.proofs.Common.{◌≡◌, ◌∙◌, ℕ, List, [], ◌∷◌, Option, Some, None, inl, inr, refl, ap, sym, subst}
use Rattle.csv.specs.Machine.{Read, next_record}
use Rattle.csv.specs.Reading.{Reached}
use Rattle.csv.specs.declared.parser.Config.{Config}
use Rattle.csv.specs.declared.parser.State.{State}
use Rattle.goo_files_import.specs.Laws.{OneTable, HeaderOrRows}
use Rattle.goo_files_import.specs.Table.{LacksHeader, BeginsTable}
use Rattle.goo_files_csv.specs.Rows.{header}

abbrev Records : Type 0
Records = List (List (List ℕ))

pub same_read : (o : Option Read) (p q : Read) → o ≡ Some p → o ≡ Some q → p ≡ q
same_read o p q a b = let both : Some p ≡ Some q = sym a ∙ b in cc

pub no_read : (o : Option Read) (p : Read) → o ≡ None → o ≡ Some p → ⊥
no_read o p a b = let both : None ≡ Some p = sym a ∙ b in cc

one : (cfg : Config) (s : State) (xs : List ℕ) (rows others : Records) (s1 s2 : State) (ys zs : List ℕ) → Reached cfg s xs rows s1 ys → next_record cfg s1 [] [] ys ≡ None → Reached cfg s xs others s2 zs → next_record cfg s2 [] [] zs ≡ None → rows ≡ others
unfolding Reached
one cfg s xs [] [] s1 s2 ys zs a an b bn = refl
one cfg s xs [] (r ∷ rs) s1 s2 ys zs a an b bn =
    let end : next_record cfg s [] [] xs ≡ None = (λ i. next_record cfg (a.0 i) [] [] (a.1 i)) ∙ an in
    absurd (no_read (next_record cfg s [] [] xs) b.0 end b.1)
one cfg s xs (r ∷ rs) [] s1 s2 ys zs a an b bn =
    let end : next_record cfg s [] [] xs ≡ None = (λ i. next_record cfg (b.0 i) [] [] (b.1 i)) ∙ bn in
    absurd (no_read (next_record cfg s [] [] xs) a.0 end a.1)
one cfg s xs (r ∷ rs) (q ∷ qs) s1 s2 ys zs a an b bn =
    let same = same_read (next_record cfg s [] [] xs) a.0 b.0 a.1 b.1 in
    let rest : Reached cfg a.0.1 a.0.2 qs s2 zs = subst (λ (p : Read). Reached cfg p.1 p.2 qs s2 zs) (sym same) b.3 in
    let head : r ≡ q = a.2 ∙ ap (λ (p : Read). p.0) same ∙ sym b.2 in
    let tail : rs ≡ qs = one cfg a.0.1 a.0.2 rs qs s1 s2 ys zs a.3 an rest bn in
    λ i. head i ∷ tail i

pub one_table : OneTable
one_table input rows others (s1, ys, a, an) (s2, zs, b, bn) = one _ _ _ rows others s1 s2 ys zs a an b bn

-- the first of them is the first record of any beginning
first_is : (cfg : Config) (s : State) (xs : List ℕ) (first row : List (List ℕ)) (rows : Records) (s1 s2 : State) (ys zs : List ℕ) → Reached cfg s xs (first ∷ []) s1 ys → Reached cfg s xs (row ∷ rows) s2 zs → first ≡ row
unfolding Reached
first_is cfg s xs first row rows s1 s2 ys zs a b =
    let same = same_read (next_record cfg s [] [] xs) a.0 b.0 a.1 b.1 in
    a.2 ∙ ap (λ (p : Read). p.0) same ∙ sym b.2

pub header_or_rows : HeaderOrRows
header_or_rows input rows (inl none) table = let clash : [] ≡ header ∷ rows = one_table input [] (header ∷ rows) none table in cc
header_or_rows input rows (inr (first, (s1, ys, a), other)) (s2, zs, b, bn) = other (first_is _ _ _ first header rows s1 s2 ys zs a b)

-- what ends at once has no first record
no_first : (cfg : Config) (s : State) (xs : List ℕ) (row : List (List ℕ)) (rows : Records) (s1 s2 : State) (ys zs : List ℕ) → Reached cfg s xs [] s1 ys → next_record cfg s1 [] [] ys ≡ None → Reached cfg s xs (row ∷ rows) s2 zs → ⊥
unfolding Reached
no_first cfg s xs row rows s1 s2 ys zs a an b =
    let end : next_record cfg s [] [] xs ≡ None = (λ i. next_record cfg (a.0 i) [] [] (a.1 i)) ∙ an in
    no_read (next_record cfg s [] [] xs) b.0 end b.1

-- an input that lacks its header doesn't begin with it
pub begins_or_lacks : (input : List ℕ) (rows : Records) → LacksHeader input → BeginsTable input (header ∷ rows) → ⊥
begins_or_lacks input rows (inl (s1, ys, a, an)) (s2, zs, b) = no_first _ _ _ header rows s1 s2 ys zs a an b
begins_or_lacks input rows (inr (first, (s1, ys, a), other)) (s2, zs, b) = other (first_is _ _ _ first header rows s1 s2 ys zs a b)
