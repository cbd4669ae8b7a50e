-- What was issued, row by row, and what is due.
use Rattle.std.proofs.Common.{◌≡◌, ◌+◌, ◌/◌, ◌&&◌, ℕ, pos, Bool, true, false, cond, List, [], ◌∷◌, map, Option, Some, None, option_map, inl, inr, refl, sym, ap, ◌∙◌, arith}
use Rattle.std.specs.Prelude.{sum_by, ◌⊎◌}
use Rattle.std.specs.List.{list_all, cons_option}
use Rattle.std.specs.BTreeMap.{BTreeMap, is_at, keys}
use Rattle.std.specs.Map.{keys_of, lookup}
use Rattle.std.specs.Cmp.Lexicographic.{texts_ties}
use Rattle.std.proofs.lemmas.Bool.{eq-eqb, eqb-true}
use Rattle.std.proofs.lemmas.List.Sums.{sum_by-cons}
use Rattle.std.proofs.lemmas.Slice.Eq.{bytes_eq-Decides}
use Rattle.sqlite_keyed.specs.Keyed.{get_by}
use Rattle.sqlite_keyed.proofs.RuleLemmas.{first_of_both, second_of_both}
use Rattle.goo_types.specs.declared.command.Declare.{Declare}
use Rattle.goo_types.specs.declared.piece.Piece.{Piece}
use Rattle.goo_spec.specs.Energy.{certificate, is_taken_back}
use Rattle.goo_spec.specs.State.{Correction, text_cmp}
use Rattle.goo_ranges_rows.specs.Certificates.{issued_in, corrected_in}
use Rattle.goo_tables_rows.specs.Beside.{beside}
use Rattle.goo_tables_rows.specs.Rows.{Lot, lot_key}
use Rattle.goo_tables_rows.specs.declared.piece.PieceRow.{PieceRow}
use Rattle.goo_spec_tables.specs.Places.{piece_of}
use Rattle.goo_store_rules.specs.Production.{standing_in, standing_of, standing_by, left_by, is_due, AreIssuedWhenDue}
use Rattle.goo_store_rules.specs.Summing.{amount, sum_at, left_at}
use Rattle.goo_store_rules.specs.declared.energy.Energy.{Energy}

-- ---- all rows

pub standing_rows : (own : ℕ) (lots : List Lot) (cs : List Correction) (q : List ℕ) (rows : List PieceRow) → sum_by (standing_by own lots cs q) rows ≡ sum_by (standing_in own q cs) (map piece_of (beside lots rows))
standing_rows own lots cs q [] = refl
standing_rows own lots cs q (p ∷ ps) = sum_by-cons (standing_by own lots cs q) p ps ∙ ap (λ n. standing_by own lots cs q p + n) (standing_rows own lots cs q ps) ∙ go (get_by lot_key lots (pos p.lot))
  where
    go : (o : Option Lot) → standing_of own q cs p o + sum_by (standing_in own q cs) (map piece_of (beside lots ps)) ≡ sum_by (standing_in own q cs) (map piece_of (cons_option (option_map (λ l. (p, l)) o) (beside lots ps)))
    go None = omega arith
    go (Some l) = sym (sum_by-cons (standing_in own q cs) (piece_of (p, l)) (map piece_of (beside lots ps)))

-- those that corrections withdrew are the others of those that were issued
pub issued_parts : (own : ℕ) (q : List ℕ) (cs : List Correction) (ps : List Piece) → sum_by (issued_in own q) ps ≡ sum_by (standing_in own q cs) ps + sum_by (corrected_in own q cs) ps
issued_parts own q cs [] = refl
issued_parts own q cs (p ∷ ps) =
    let here = two_parts (is_taken_back q cs p.place) (issued_in own q p) in
    let rest = issued_parts own q cs ps in
    omega (arith, here, rest, sum_by-cons (issued_in own q) p ps, sum_by-cons (standing_in own q cs) p ps, sum_by-cons (corrected_in own q cs) p ps)
  where
    two_parts : (b : Bool) (n : ℕ) → n ≡ cond b 0 n + cond b n 0
    two_parts true n = omega arith
    two_parts false n = omega arith

-- ---- what is due

all_so : {X : Type 0} (p : X → Bool) (xs : List X) → ((x : X) → p x ≡ true) → list_all p xs ≡ true
all_so p [] so = refl
all_so p (x ∷ xs) so = λ i. so x i && all_so p xs so i

-- where each device that has a sum was issued what is due, another one has none
due_there : (due : List ℕ → Bool) (q : List ℕ) (es : List (List ℕ × ℕ)) → list_all due (keys_of es) ≡ true → (amount (lookup (is_at (text_cmp q)) es) ≡ 0) ⊎ (due q ≡ true)
due_there due q [] all = inl refl
due_there due q (e ∷ es) all = go (is_at (text_cmp q) e.0) refl (due_there due q es (second_of_both _ _ all))
  where
    go : (b : Bool) → is_at (text_cmp q) e.0 ≡ b → (amount (lookup (is_at (text_cmp q)) es) ≡ 0) ⊎ (due q ≡ true) → (amount (lookup (is_at (text_cmp q)) (e ∷ es)) ≡ 0) ⊎ (due q ≡ true)
    go true same rest = inr (ap due ((bytes_eq-Decides q e.0).0 (texts_ties q e.0 ∙ same)) ∙ first_of_both _ _ all)
    go false other (inr hit) = inr hit
    go false other (inl none) = inl (ap (λ b. amount (cond b (Some e.1) (lookup (is_at (text_cmp q)) es))) other ∙ none)

module _ (own : ℕ) (lots : List Lot) (xs : List Declare) (cs : List Correction) (rows : List PieceRow) (counts : BTreeMap (List ℕ) ℕ) (energy : Energy) (counted : (q : List ℕ) → sum_at counts q ≡ sum_by (standing_by own lots cs q) rows) (energies : (q : List ℕ) → left_at energy q ≡ left_by xs cs q) where
  abbrev due : List ℕ → Bool
  due = is_due (sum_at counts) (left_at energy)

  due_of : (q : List ℕ) → (sum_at energy.declared q ≡ 0) ⊎ (due q ≡ true) → (sum_at counts q ≡ 0) ⊎ (due q ≡ true) → sum_at counts q ≡ left_at energy q / certificate
  due_of q (inr hit) other = eqb-true _ _ hit
  due_of q (inl none) (inr hit) = eqb-true _ _ hit
  due_of q (inl none) (inl nothing) = let nothing_left : left_at energy q ≡ 0 = omega (arith, none) in nothing ∙ ap (λ n. n / certificate) (sym nothing_left)

  -- where each device that has a sum was issued what is due, all were
  pub all_due : list_all due (keys energy.declared) ≡ true → list_all due (keys counts) ≡ true → AreIssuedWhenDue own xs cs (map piece_of (beside lots rows))
  all_due declared issued q =
      sym (counted q ∙ standing_rows own lots cs q rows) ∙ due_of q (due_there due q energy.declared.entries declared) (due_there due q counts.entries issued) ∙ ap (λ n. n / certificate) (energies q)

  -- and back
  pub due_so : AreIssuedWhenDue own xs cs (map piece_of (beside lots rows)) → (ks : List (List ℕ)) → list_all due ks ≡ true
  due_so when ks = all_so due ks (λ q. eq-eqb _ _ (counted q ∙ standing_rows own lots cs q rows ∙ when q ∙ ap (λ n. n / certificate) (sym (energies q))))
