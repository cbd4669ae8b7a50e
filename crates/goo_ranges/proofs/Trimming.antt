-- Pieces at the ends of a block that stay as they are.
use Rattle.std.proofs.Common.{◌≡◌, ℕ, suc, ◌+◌, ◌-◌, ◌<◌, ◌≤◌, List, [], ◌∷◌, ◌++◌, length, get_or, take, drop, refl, ap, sym, ◌∙◌, arith, append_assoc}
use Rattle.std.specs.List.{remove}
use Rattle.std.proofs.lemmas.List.{length-take, length-take-le, length-drop}
use Rattle.goo_types.specs.declared.piece.Piece.{Piece}
use Rattle.goo_ranges_pieces.specs.Touching.{IsTrimmed}
use Rattle.goo_ranges_pieces.proofs.Joining.{take-piece}
use Rattle.goo_ranges_pieces.proofs.Rest.{drop-piece}

pub head-is : (xs : List Piece) (x : Piece) → 0 < length xs → x ≡ get_or xs 0 x → xs ≡ x ∷ remove xs 0
head-is [] x some is = absurd (omega arith)
head-is (y ∷ xs) x some is = ap (λ p. p ∷ xs) (sym is)

pub last-is : (xs : List Piece) (x : Piece) → 0 < length xs → x ≡ get_or xs (length xs - 1) x → xs ≡ take (length xs - 1) xs ++ x ∷ []
last-is xs x some is =
    let e : length xs - 1 + 1 ≡ length xs = omega arith in
    let whole : take (length xs) xs ≡ xs = all xs in
    sym whole ∙ ap (λ (i : ℕ). take i xs) (sym e) ∙ take-piece xs (length xs - 1) x (omega arith) is
  where
    all : (xs : List Piece) → take (length xs) xs ≡ xs
    all [] = refl
    all (y ∷ xs) = ap (λ l. y ∷ l) (all xs)

pub untrimmed : (ps : List Piece) (from to : ℕ) (insert : List Piece) → from ≤ to → IsTrimmed ps from to insert from to insert
untrimmed ps from to insert up = record { same = refl; starts = omega arith; order = up; ends = omega arith; few = omega arith }

pub trimmed-first : (ps : List Piece) (from to : ℕ) (insert : List Piece) (x y : Piece) → from < to → to ≤ length ps → 0 < length insert → x ≡ get_or insert 0 x → y ≡ get_or ps from y → x ≡ y
    → IsTrimmed ps from to insert (from + 1) to (remove insert 0)
trimmed-first ps from to insert x y lt bound some here there same =
    let e : insert ≡ x ∷ remove insert 0 = head-is insert x some here in
    let size : length insert ≡ suc (length (remove insert 0)) = ap length e in
    record {
      same =
          ap (λ l. l ++ (remove insert 0 ++ drop to ps)) (take-piece ps from y (omega arith) there)
          ∙ append_assoc (take from ps) (y ∷ []) (remove insert 0 ++ drop to ps)
          ∙ ap (λ p. take from ps ++ (p ∷ (remove insert 0 ++ drop to ps))) (sym same)
          ∙ ap (λ l. take from ps ++ (l ++ drop to ps)) (sym e);
      starts = omega arith;
      order = omega arith;
      ends = omega arith;
      few = omega arith;
    }

pub trimmed-last : (ps : List Piece) (from to : ℕ) (insert : List Piece) (x y : Piece) → from < to → to ≤ length ps → 0 < length insert → x ≡ get_or insert (length insert - 1) x → y ≡ get_or ps (to - 1) y → x ≡ y
    → IsTrimmed ps from to insert from (to - 1) (take (length insert - 1) insert)
trimmed-last ps from to insert x y lt bound some here there same =
    let left = take (length insert - 1) insert in
    let e : insert ≡ left ++ x ∷ [] = last-is insert x some here in
    let next : to - 1 + 1 ≡ to = omega arith in
    let rest : drop (to - 1) ps ≡ y ∷ drop to ps = drop-piece ps (to - 1) y (omega arith) there ∙ ap (λ (i : ℕ). y ∷ drop i ps) next in
    let size : length left ≡ length insert - 1 = length-take-le (length insert - 1) insert (omega arith) in
    record {
      same =
          ap (λ l. take from ps ++ (left ++ l)) rest
          ∙ ap (λ p. take from ps ++ (left ++ p ∷ drop to ps)) (sym same)
          ∙ ap (λ l. take from ps ++ l) (sym (append_assoc left (x ∷ []) (drop to ps)))
          ∙ ap (λ l. take from ps ++ (l ++ drop to ps)) (sym e);
      starts = omega arith;
      order = omega arith;
      ends = omega arith;
      few = omega arith;
    }

-- fewer indices have fewer pieces
pub length-between : (ps : List Piece) (from to begin end : ℕ) → to ≤ length ps → from ≤ begin → end ≤ to → length (take (end - begin) (drop begin ps)) ≤ length (take (to - from) (drop from ps))
length-between ps from to begin end bound starts ends =
    let long = length-take (to - from) (drop from ps) in
    let size = length-drop from ps in
    let short = length-take (end - begin) (drop begin ps) in
    let less = length-drop begin ps in
    omega arith
