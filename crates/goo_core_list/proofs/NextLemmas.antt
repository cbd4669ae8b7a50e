-- The first row that a look-up is for and that ends at a number or after it, over lists one after another.
use Rattle.std.proofs.Common.{◌≡◌, ◌∙◌, ℕ, ◌<◌, nat_le, List, [], ◌∷◌, ◌++◌, Bool, true, false, cond, Some, None, refl, ap, sym, ◌+◌, length, get_or, take, drop, take-append-drop}
use Rattle.std.proofs.lemmas.List.{take_more}
use Rattle.std.specs.List.{filter}
use Rattle.goo_types.specs.declared.piece.Piece.{Piece}
use Rattle.goo_types.specs.Piece.{IsRising}
use Rattle.goo_core_shelf.specs.Rows.{EndsFrom}
use Rattle.goo_spec_runs.proofs.Next.{first_above, first_some}
use Rattle.goo_ranges_rows.proofs.Near.{filter-rising}
use Rattle.goo_spec_runs.specs.NextRun.{ending_from, first_of}

abbrev pub next_from : (Piece → Bool) → ℕ → List Piece → List Piece
next_from test from rows = ending_from from (filter test rows)

pub next-append : (test : Piece → Bool) (from : ℕ) (xs ys : List Piece) → next_from test from (xs ++ ys) ≡ next_from test from xs ++ next_from test from ys
next-append test from [] ys = refl
next-append test from (p ∷ xs) ys = elim (test p) as (λ a. ending_from from (cond a (p ∷ filter test (xs ++ ys)) (filter test (xs ++ ys))) ≡ ending_from from (cond a (p ∷ filter test xs) (filter test xs)) ++ next_from test from ys) [
  | true ↦ elim (nat_le from p.last) as (λ b. cond b (p ∷ next_from test from (xs ++ ys)) (next_from test from (xs ++ ys)) ≡ cond b (p ∷ next_from test from xs) (next_from test from xs) ++ next_from test from ys) [
    | true ↦ ap (λ l. p ∷ l) (next-append test from xs ys)
    | false ↦ next-append test from xs ys
  ]
  | false ↦ next-append test from xs ys
]

-- a row that passes is the only one of itself
pub next-here : (test : Piece → Bool) (from : ℕ) (p : Piece) → test p ≡ true → nat_le from p.last ≡ true → next_from test from (p ∷ []) ≡ p ∷ []
next-here test from p names ends = rw (names, ends) refl

pub next-not : (test : Piece → Bool) (from : ℕ) (p : Piece) → test p ≡ false → next_from test from (p ∷ []) ≡ []
next-not test from p names = rw names refl

pub next-past : (test : Piece → Bool) (from : ℕ) (p : Piece) → test p ≡ true → nat_le from p.last ≡ false → next_from test from (p ∷ []) ≡ []
next-past test from p names ends = rw (names, ends) refl

-- nothing before, and this first
pub first-behind : (xs ys : List Piece) → xs ≡ [] → first_of (xs ++ ys) ≡ first_of ys
first-behind xs ys none = ap (λ l. first_of (l ++ ys)) none

pub first-before : (ps qs : List Piece) (p : Piece) → Some p ≡ first_of ps → Some p ≡ first_of (ps ++ qs)
first-before [] qs p is = absurd (cc)
first-before (q ∷ ps) qs p is = is

pub none-first : (ps : List Piece) → None ≡ first_of ps → ps ≡ []
none-first [] is = refl
none-first (p ∷ ps) is = absurd (cc)

pub first_hit : (test : Piece → Bool) (from : ℕ) (rows : List Piece) (i : ℕ) (p : Piece) → i < length rows → p ≡ get_or rows i p → test p ≡ true → nat_le from p.last ≡ true → next_from test from (take i rows) ≡ []
    → Some p ≡ first_of (next_from test from rows)
first_hit test from rows i p lt is names ends none =
    let more : take (i + 1) rows ≡ take i rows ++ p ∷ [] = take_more rows i p lt ∙ ap (λ q. take i rows ++ q ∷ []) (sym is) in
    let front : next_from test from (take (i + 1) rows) ≡ p ∷ [] = ap (next_from test from) more ∙ next-append test from (take i rows) (p ∷ []) ∙ (λ k. none k ++ next-here test from p names ends k) in
    let whole : next_from test from rows ≡ next_from test from (take (i + 1) rows) ++ next_from test from (drop (i + 1) rows) =
    ap (next_from test from) (sym (take-append-drop (i + 1) rows)) ∙ next-append test from (take (i + 1) rows) (drop (i + 1) rows) in
    sym (ap first_of (whole ∙ ap (λ l. l ++ next_from test from (drop (i + 1) rows)) front))

pub next_more : (test : Piece → Bool) (from : ℕ) (xs page whole rest : List Piece) → next_from test from xs ≡ [] → (xs ++ page) ++ rest ≡ whole → (p : Piece) → Some p ≡ first_of (next_from test from page) → Some p ≡ first_of (next_from test from whole)
next_more test from xs page whole rest none is p hit =
    let split : next_from test from whole ≡ (next_from test from xs ++ next_from test from page) ++ next_from test from rest =
    ap (next_from test from) (sym is) ∙ next-append test from (xs ++ page) rest ∙ ap (λ l. l ++ next_from test from rest) (next-append test from xs page) in
    let gone : next_from test from whole ≡ next_from test from page ++ next_from test from rest = split ∙ ap (λ l. (l ++ next_from test from page) ++ next_from test from rest) none in
    first-before (next_from test from page) (next_from test from rest) p hit ∙ sym (ap first_of gone)

pub next_none : (test : Piece → Bool) (from : ℕ) (xs page whole : List Piece) → next_from test from xs ≡ [] → xs ++ page ≡ whole → None ≡ first_of (next_from test from page) → next_from test from whole ≡ []
next_none test from xs page whole none is miss = ap (next_from test from) (sym is) ∙ next-append test from xs page ∙ (λ k. none k ++ none-first (next_from test from page) miss k)

pub next_ahead : (test : Piece → Bool) (from : ℕ) (rows : List Piece) (p : Piece) → IsRising rows → Some p ≡ first_of (next_from test from rows) → EndsFrom from p
next_ahead test from rows p rising hit =
    let sought : IsRising (filter test rows) = filter-rising test 0 rows rising in
    let split = first_some (next_from test from rows) p hit in
    let of = first_above from 0 (filter test rows) p split.0 sought split.1 in
    (of.ends, of.forward)
