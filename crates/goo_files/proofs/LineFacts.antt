-- A line each, one more.
use Rattle.std.proofs.Common.{◌≡◌, ◌∙◌, ℕ, ◌+◌, ◌<◌, true, false, cond, List, [], ◌∷◌, ◌++◌, flat_map, length, get_or, take, drop, Option, refl, ap, sym, subst, take-append-drop}
use Rattle.std.proofs.lemmas.List.{append-nil, take_more}
use Rattle.std.proofs.lemmas.List.Concat.{flat_map-append}
use Rattle.std.specs.Io.KnownBytes.{Appends}
use Rattle.goo_files_streams.specs.Streams.{AppendsPrefix}
use Rattle.goo_files_streams.proofs.AppendsFacts.{appends-more, prefix-more, prefix-front}
use Rattle.goo_types.specs.declared.piece.Piece.{Piece}
use Rattle.goo_files_csv.specs.Holdings.{holding_row}
use Rattle.goo_files_documents.specs.Counts.{with_run, with_runs}
use Rattle.goo_files_documents.specs.declared.counts.Counts.{Counts}
use Rattle.goo_spec.specs.Lots.{is_held}
use Rattle.goo_files.specs.Lines.{held_row}
use Rattle.goo_files.specs.Texts.{held_runs}

pub lines-last : {A : Type 0} (line : A → List ℕ) (xs : List A) (x : A) → flat_map line (xs ++ x ∷ []) ≡ flat_map line xs ++ line x
lines-last line xs x = flat_map-append line xs (x ∷ []) ∙ ap (λ t. flat_map line xs ++ t) (append-nil (line x))

lines-next : {A : Type 0} (line : A → List ℕ) (xs : List A) (i : ℕ) (x : A) → i < length xs → x ≡ get_or xs i x → flat_map line (take (i + 1) xs) ≡ flat_map line (take i xs) ++ line x
lines-next line xs i x lt is = ap (flat_map line) (take_more xs i x lt ∙ ap (λ y. take i xs ++ y ∷ []) (sym is)) ∙ lines-last line (take i xs) x

lines-front : {A : Type 0} (line : A → List ℕ) (xs : List A) (i : ℕ) → flat_map line xs ≡ flat_map line (take i xs) ++ flat_map line (drop i xs)
lines-front line xs i = ap (flat_map line) (sym (take-append-drop i xs)) ∙ flat_map-append line (take i xs) (drop i xs)

module _ {A : Type 0} (line : A → List ℕ) (xs : List A) (i : ℕ) (x : A) (lt : i < length xs) (is : x ≡ get_or xs i x) (old mid new : Option (List ℕ)) (so : Appends old mid (flat_map line (take i xs))) where
  -- one more line was written
  pub lines_on : Appends mid new (line x) → Appends old new (flat_map line (take (i + 1) xs))
  lines_on wrote = subst (Appends old new) (sym (lines-next line xs i x lt is)) (appends-more old mid new (flat_map line (take i xs)) (line x) so wrote)

  -- a beginning of it, and so of all
  pub lines_part : AppendsPrefix mid new (line x) → AppendsPrefix old new (flat_map line xs)
  lines_part part =
      subst (AppendsPrefix old new) (sym (lines-front line xs (i + 1)))
      (prefix-front old new (flat_map line (take (i + 1) xs)) _ (subst (AppendsPrefix old new) (sym (lines-next line xs i x lt is)) (prefix-more old mid new (flat_map line (take i xs)) (line x) so part)))

-- the rows of holdings are those of the runs that are held
pub held-rows : (ps : List Piece) → flat_map holding_row (held_runs ps) ≡ flat_map held_row ps
held-rows [] = refl
held-rows (p ∷ ps) = elim (is_held p.place) as (λ b. flat_map holding_row (cond b (p ∷ held_runs ps) (held_runs ps)) ≡ cond b (holding_row p) [] ++ flat_map held_row ps) [
  | true ↦ ap (λ t. holding_row p ++ t) (held-rows ps)
  | false ↦ held-rows ps
]

pub counts-last : (c : Counts) (ps : List Piece) (p : Piece) → with_runs c (ps ++ p ∷ []) ≡ with_run (with_runs c ps) p
counts-last c [] p = refl
counts-last c (q ∷ ps) p = counts-last (with_run c q) ps p
