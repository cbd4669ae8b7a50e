-- Changes that join cut pieces, made one after another.
use Rattle.std.proofs.Common.{◌≡◌, ◌∙◌, ◌<ℤ◌, ◌+◌, ◌-◌, ◌<◌, ◌≤◌, ℕ, zero, suc, ℤ, pos, length, get_or, drop, List, [], ◌∷◌, ◌++◌, append_assoc, All, Bool, true, false, not, cond, Option, Some, None, refl, ap, sym, subst, arith}
use Rattle.std.specs.List.{AllByRecursion}
use Rattle.std.specs.declared.cmp.Ordering.TheVariants.{Greater}
use Rattle.std.specs.Ordering.{int_eq, int_cmp, match_ordering}
use Rattle.std.proofs.lemmas.Cmp.{int_eq_equiv}
use Rattle.std.proofs.lemmas.Int.{ints}
use Rattle.std.proofs.lemmas.List.{drop_more}
use Rattle.std.proofs.lemmas.List.Elements.{All-nil, All-cons, All-append}
use Rattle.std.proofs.lemmas.List.Sums.{fold-append}
use Rattle.sqlite_keyed.specs.Keyed.{IsKeyedBy, insert_by, get_by}
use Rattle.sqlite_keyed.specs.Lists.{delete_where}
use Rattle.sqlite_keyed.proofs.KeyedLemmas.{Less-from_lt, none_past}
use Rattle.goo_tables_rows.specs.Rows.{Tables, piece_key}
use Rattle.goo_tables_rows.specs.declared.piece.PieceRow.{PieceRow}
use Rattle.goo_spec_tables.specs.Renewed.{goes_on, join_before, joined_pieces}
use Rattle.goo_store_changes.specs.Changes.{made, made_all, IsFor, IsFree, AreFree, HasRoom}
use Rattle.goo_store_changes.specs.declared.table_change.TableChange.{TableChange}
use Rattle.goo_store_changes.specs.declared.table_change.TableChange.TheVariants.{DeletePiece, InsertPiece}
use Rattle.goo_store_plans.specs.JoiningChanges.{step_changes, step_of, wide_of, first_of, changes_to_join, JoinsPieces}
use Rattle.goo_store_plans.proofs.InTurn.{none_in_turn, first_in_turn, both_in_turn, always_in_turn}

abbrev Above : ℕ → List PieceRow → Type 0
Above k = AllByRecursion (λ p. pos k <ℤ piece_key p)

abbrev IsKeyed : List PieceRow → Type 0
IsKeyed = IsKeyedBy piece_key

not_same : (a b : ℤ) → a <ℤ b → int_eq b a ≡ false
not_same a b low = grind (arith, ints)

not_equal : (a b : ℤ) → a <ℤ b → int_eq a b ≡ false
not_equal a b low = grind (arith, ints)

-- those above a number stay where it is taken out
stay : (k : ℕ) (ps : List PieceRow) → Above k ps → delete_where (λ p. int_eq (piece_key p) (pos k)) ps ≡ ps
stay k [] above = refl
stay k (p ∷ ps) above = (λ i. cond (not (not_same (pos k) (piece_key p) above.0 i)) (p ∷ stay k ps above.1 i) (stay k ps above.1 i))

-- the first of a front is below what stands behind
before : (x : PieceRow) (front : List PieceRow) (p : PieceRow) (back : List PieceRow) → AllByRecursion (λ y. piece_key x <ℤ piece_key y) (front ++ p ∷ back) → piece_key x <ℤ piece_key p
before x [] p back above = above.0
before x (y ∷ front) p back above = before x front p back above.1

without_one : (x : PieceRow) (front : List PieceRow) (p : PieceRow) (back : List PieceRow) → AllByRecursion (λ y. piece_key x <ℤ piece_key y) (front ++ p ∷ back) → AllByRecursion (λ y. piece_key x <ℤ piece_key y) (front ++ back)
without_one x [] p back above = above.1
without_one x (y ∷ front) p back above = (above.0, without_one x front p back above.1)

with_another : (x : PieceRow) (front : List PieceRow) (p q : PieceRow) (back : List PieceRow) → p.first ≡ q.first → AllByRecursion (λ y. piece_key x <ℤ piece_key y) (front ++ p ∷ back) → AllByRecursion (λ y. piece_key x <ℤ piece_key y) (front ++ q ∷ back)
with_another x [] p q back same above = (subst (λ n. piece_key x <ℤ pos n) same above.0, above.1)
with_another x (y ∷ front) p q back same above = (above.0, with_another x front p q back same above.1)

keyed_without : (front : List PieceRow) (p : PieceRow) (back : List PieceRow) → IsKeyed (front ++ p ∷ back) → IsKeyed (front ++ back)
keyed_without [] p back keyed = keyed.1
keyed_without (x ∷ front) p back keyed = (without_one x front p back keyed.0, keyed_without front p back keyed.1)

keyed_other : (front : List PieceRow) (p q : PieceRow) (back : List PieceRow) → p.first ≡ q.first → IsKeyed (front ++ p ∷ back) → IsKeyed (front ++ q ∷ back)
keyed_other [] p q back same keyed = (subst (λ n. AllByRecursion (λ y. pos n <ℤ piece_key y) back) same keyed.0, keyed.1)
keyed_other (x ∷ front) p q back same keyed = (with_another x front p q back same keyed.0, keyed_other front p q back same keyed.1)

removed : (front : List PieceRow) (p : PieceRow) (back : List PieceRow) → IsKeyed (front ++ p ∷ back) → delete_where (λ x. int_eq (piece_key x) (pos p.first)) (front ++ p ∷ back) ≡ front ++ back
removed [] p back keyed = (λ i. cond (not (int_eq_equiv.refl (piece_key p) i)) (p ∷ stay p.first back keyed.0 i) (stay p.first back keyed.0 i))
removed (x ∷ front) p back keyed = (λ i. cond (not (not_equal (piece_key x) (piece_key p) (before x front p back keyed.0) i)) (x ∷ removed front p back keyed.1 i) (removed front p back keyed.1 i))

greater : (a b : ℤ) → b <ℤ a → int_cmp a b ≡ Greater
greater a b low = grind (arith, ints)

inserted : (front : List PieceRow) (p : PieceRow) (back : List PieceRow) → IsKeyed (front ++ p ∷ back) → insert_by piece_key (front ++ back) p ≡ front ++ p ∷ back
inserted [] p [] keyed = refl
inserted [] p (q ∷ back) keyed = ap (λ r. match_ordering r (q ∷ insert_by piece_key back p) (p ∷ back) (p ∷ q ∷ back)) (greater (piece_key q) (piece_key p) keyed.0.0)
inserted (x ∷ front) p back keyed =
    ap (λ r. match_ordering r (x ∷ insert_by piece_key (front ++ back) p) (p ∷ (front ++ back)) (p ∷ x ∷ (front ++ back))) (Less-from_lt (piece_key x) (piece_key p) (before x front p back keyed.0))
    ∙ ap (λ l. x ∷ l) (inserted front p back keyed.1)

none_there : (front : List PieceRow) (p : PieceRow) (back : List PieceRow) → IsKeyed (front ++ p ∷ back) → get_by piece_key (front ++ back) (pos p.first) ≡ None
none_there [] p back keyed = none_past piece_key back (pos p.first) keyed.0
none_there (x ∷ front) p back keyed =
    ap (λ b. cond b (Some x) (get_by piece_key (front ++ back) (pos p.first))) (not_equal (piece_key x) (piece_key p) (before x front p back keyed.0)) ∙ none_there front p back keyed.1

-- ---- what changes leave

pub record LeavePieces (t : Tables) (changes : List TableChange) (ps : List PieceRow) : Type 0 where
  pub tables : made_all t changes ≡ record t { pieces = ps }
  pub free : AreFree t changes
  pub keyed : IsKeyed ps

nothing_made : (t : Tables) → IsKeyed t.pieces → LeavePieces t [] t.pieces
nothing_made t keyed = record { tables = refl; free = none_in_turn IsFree t; keyed = keyed }

-- two neighbours as one
pair_made : (t : Tables) (front : List PieceRow) (p q : PieceRow) (back : List PieceRow) → IsKeyed (front ++ p ∷ q ∷ back)
    → LeavePieces (record t { pieces = front ++ p ∷ q ∷ back }) (DeletePiece q.first ∷ DeletePiece p.first ∷ InsertPiece (record p { last = q.last }) ∷ []) (front ++ record p { last = q.last } ∷ back)
pair_made t front p q back keyed =
    let wide : PieceRow = record p { last = q.last } in
    let split : front ++ p ∷ q ∷ back ≡ (front ++ p ∷ []) ++ q ∷ back = sym (append_assoc front (p ∷ []) (q ∷ back)) in
    let apart : IsKeyed ((front ++ p ∷ []) ++ q ∷ back) = subst IsKeyed split keyed in
    let whole : (front ++ p ∷ []) ++ back ≡ front ++ p ∷ back = append_assoc front (p ∷ []) back in
    let one : delete_where (λ x. int_eq (piece_key x) (pos q.first)) (front ++ p ∷ q ∷ back) ≡ front ++ p ∷ back =
    ap (delete_where (λ x. int_eq (piece_key x) (pos q.first))) split ∙ removed (front ++ p ∷ []) q back apart ∙ whole in
    let after : IsKeyed (front ++ p ∷ back) = subst IsKeyed whole (keyed_without (front ++ p ∷ []) q back apart) in
    let two : delete_where (λ x. int_eq (piece_key x) (pos p.first)) (front ++ p ∷ back) ≡ front ++ back = removed front p back after in
    let both = ap (delete_where (λ x. int_eq (piece_key x) (pos p.first))) one ∙ two in
    let wide_keyed : IsKeyed (front ++ wide ∷ back) = keyed_other front p wide back refl after in
    record {
      tables = (λ i. record t { pieces = (ap (λ l. insert_by piece_key l wide) both ∙ inserted front wide back wide_keyed) i });
      free =
          first_in_turn IsFree (record t { pieces = front ++ p ∷ q ∷ back }) (DeletePiece q.first) (DeletePiece p.first ∷ InsertPiece wide ∷ []) tt
          (first_in_turn IsFree _ (DeletePiece p.first) (InsertPiece wide ∷ []) tt
          (first_in_turn IsFree _ (InsertPiece wide) [] (ap (λ l. get_by piece_key l (pos p.first)) both ∙ none_there front wide back wide_keyed) (none_in_turn IsFree _)));
      keyed = wide_keyed;
    }

step_made : (t : Tables) (front : List PieceRow) (p : PieceRow) (qs : List PieceRow) → IsKeyed (front ++ p ∷ qs)
    → LeavePieces (record t { pieces = front ++ p ∷ qs }) (step_changes p qs) (front ++ join_before p qs)
step_made t front p [] keyed = nothing_made (record t { pieces = front ++ p ∷ [] }) keyed
step_made t front p (q ∷ qs) keyed = go (goes_on p q)
  where
    go : (b : Bool) → LeavePieces (record t { pieces = front ++ p ∷ q ∷ qs }) (cond b (DeletePiece q.first ∷ DeletePiece p.first ∷ InsertPiece (record p { last = q.last }) ∷ []) []) (front ++ cond b (record p { last = q.last } ∷ qs) (p ∷ q ∷ qs))
    go true = pair_made t front p q qs keyed
    go false = nothing_made (record t { pieces = front ++ p ∷ q ∷ qs }) keyed

both_made : (t : Tables) (xs ys : List TableChange) (ps qs : List PieceRow) → LeavePieces t xs ps → LeavePieces (record t { pieces = ps }) ys qs → LeavePieces t (xs ++ ys) qs
both_made t xs ys ps qs a b = record {
  tables = fold-append made t xs ys ∙ ap (λ u. made_all u ys) a.tables ∙ b.tables;
  free = both_in_turn IsFree t xs ys a.free (subst (λ u. AreFree u ys) (sym a.tables) b.free);
  keyed = b.keyed;
}

all_made : (t : Tables) (front ps : List PieceRow) → IsKeyed (front ++ ps) → LeavePieces (record t { pieces = front ++ ps }) (changes_to_join ps) (front ++ joined_pieces ps)
all_made t front [] keyed = nothing_made (record t { pieces = front ++ [] }) keyed
all_made t front (p ∷ ps) keyed =
    let split : front ++ p ∷ ps ≡ (front ++ p ∷ []) ++ ps = sym (append_assoc front (p ∷ []) ps) in
    let whole : (front ++ p ∷ []) ++ joined_pieces ps ≡ front ++ p ∷ joined_pieces ps = append_assoc front (p ∷ []) (joined_pieces ps) in
    let rest = subst (λ l. LeavePieces (record t { pieces = l }) (changes_to_join ps) (front ++ p ∷ joined_pieces ps)) (sym split)
    (subst (LeavePieces (record t { pieces = (front ++ p ∷ []) ++ ps }) (changes_to_join ps)) whole (all_made t (front ++ p ∷ []) ps (subst IsKeyed split keyed))) in
    both_made (record t { pieces = front ++ p ∷ ps }) (changes_to_join ps) (step_changes p (joined_pieces ps)) (front ++ p ∷ joined_pieces ps) (front ++ join_before p (joined_pieces ps)) rest
    (step_made t front p (joined_pieces ps) rest.keyed)

-- ---- of pieces alone

module _ (P : TableChange → Type 0) (deletes : (k : ℕ) → P (DeletePiece k)) (inserts : (x : PieceRow) → P (InsertPiece x)) where
  each_step : (p : PieceRow) (qs : List PieceRow) → All P (step_changes p qs)
  each_step p [] = All-nil P
  each_step p (q ∷ qs) = go (goes_on p q)
    where
      go : (b : Bool) → All P (cond b (DeletePiece q.first ∷ DeletePiece p.first ∷ InsertPiece (record p { last = q.last }) ∷ []) [])
      go true = All-cons P (DeletePiece q.first) (DeletePiece p.first ∷ InsertPiece (record p { last = q.last }) ∷ []) (deletes q.first) (All-cons P (DeletePiece p.first) (InsertPiece (record p { last = q.last }) ∷ []) (deletes p.first) (All-cons P (InsertPiece (record p { last = q.last })) [] (inserts (record p { last = q.last })) (All-nil P)))
      go false = All-nil P

  each_change : (ps : List PieceRow) → All P (changes_to_join ps)
  each_change [] = All-nil P
  each_change (p ∷ ps) = All-append P (changes_to_join ps) (step_changes p (joined_pieces ps)) (each_change ps) (each_step p (joined_pieces ps))

-- so the changes join the pieces of tables in their order
pub pieces_joined : (t : Tables) → IsKeyedBy piece_key t.pieces → JoinsPieces t (changes_to_join t.pieces)
pieces_joined t keyed =
    let it = all_made t [] t.pieces keyed in
    record {
      for = always_in_turn IsFor t (changes_to_join t.pieces) (each_change (λ d. (u : Tables) → IsFor u d) (λ k u. tt) (λ x u. tt) t.pieces);
      free = it.free;
      room = always_in_turn HasRoom t (changes_to_join t.pieces) (each_change (λ d. (u : Tables) → HasRoom u d) (λ k u. tt) (λ x u. omega arith) t.pieces);
      made = it.tables;
    }

-- ---- by the first of those behind

pub step_is : (p : PieceRow) (qs : List PieceRow) → step_of p (first_of qs) ≡ step_changes p qs
step_is p [] = refl
step_is p (q ∷ qs) = refl

pub first_is : (p : PieceRow) (qs : List PieceRow) → first_of (join_before p qs) ≡ Some (wide_of p (first_of qs))
first_is p [] = refl
first_is p (q ∷ qs) = go (goes_on p q)
  where
    go : (b : Bool) → first_of (cond b (record p { last = q.last } ∷ qs) (p ∷ q ∷ qs)) ≡ Some (cond b (record p { last = q.last }) p)
    go true = refl
    go false = refl

-- one piece more, from the end
module _ (xs : List PieceRow) (k : ℕ) (row : PieceRow) (low : k < length xs) (here : get_or xs (length xs - 1 - k) row ≡ row) where
  one_more : drop (length xs - (k + 1)) xs ≡ row ∷ drop (length xs - k) xs
  one_more =
      let at : length xs - (k + 1) ≡ length xs - 1 - k = omega (arith, low) in
      let next : length xs - 1 - k + 1 ≡ length xs - k = omega (arith, low) in
      let inside : length xs - 1 - k < length xs = omega (arith, low) in
      ap (λ n. drop n xs) at ∙ drop_more xs (length xs - 1 - k) row inside ∙ (λ i. here i ∷ drop (next i) xs)

  pub changes_more : (old new : List TableChange) (next : Option PieceRow) → old ≡ changes_to_join (drop (length xs - k) xs) → next ≡ first_of (joined_pieces (drop (length xs - k) xs)) → new ≡ old ++ step_of row next
      → new ≡ changes_to_join (drop (length xs - (k + 1)) xs)
  changes_more old new next before first is =
      is ∙ (λ i. before i ++ step_of row (first i)) ∙ ap (λ s. changes_to_join (drop (length xs - k) xs) ++ s) (step_is row (joined_pieces (drop (length xs - k) xs))) ∙ ap changes_to_join (sym one_more)

  pub next_more : (next : Option PieceRow) (wide : PieceRow) → next ≡ first_of (joined_pieces (drop (length xs - k) xs)) → wide ≡ wide_of row next → Some wide ≡ first_of (joined_pieces (drop (length xs - (k + 1)) xs))
  next_more next wide first is =
      ap (λ w. Some w) is ∙ (λ i. Some (wide_of row (first i))) ∙ sym (first_is row (joined_pieces (drop (length xs - k) xs))) ∙ ap (λ l. first_of (joined_pieces l)) (sym one_more)

-- all pieces are those from the first on
pub all_of_them : (t : Tables) (xs : List PieceRow) (changes : List TableChange) (k : ℕ) → length xs ≤ k → changes ≡ changes_to_join (drop (length xs - k) xs) → t.pieces ≡ xs → IsKeyedBy piece_key t.pieces → JoinsPieces t changes
all_of_them t xs changes k high is same keyed =
    let none : length xs - k ≡ 0 = omega (arith, high) in
    subst (JoinsPieces t) (sym (is ∙ ap (λ n. changes_to_join (drop n xs)) none ∙ ap changes_to_join (sym same))) (pieces_joined t keyed)

-- an element that is there is the same by any default
pub by_any : (xs : List PieceRow) (i : ℕ) (d e : PieceRow) → i < length xs → get_or xs i d ≡ get_or xs i e
by_any [] i d e low = absurd (omega (arith, low))
by_any (x ∷ xs) zero d e low = refl
by_any (x ∷ xs) (suc i) d e low = by_any xs i d e (omega (arith, low))
