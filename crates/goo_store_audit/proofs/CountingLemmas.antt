-- The rows are counted page by page.
use Rattle.std.proofs.Common.{◌≡◌, ◌≤◌, ◌+◌, ◌-◌, ◌++◌, ◌==◌, ◌&&◌, ℕ, Bool, true, false, cond, nat_le, List, [], ◌∷◌, map, take, Some, None, refl, sym, ap, subst, ◌∙◌, arith}
use Rattle.std.specs.Prelude.{sum_by}
use Rattle.std.specs.BTreeSet.{BTreeSet}
use Rattle.std.specs.List.{filter, list_any}
use Rattle.std.specs.Str.{bytes_eq}
use Rattle.std.proofs.lemmas.Bool.{eqb-true}
use Rattle.std.proofs.lemmas.List.{take-map}
use Rattle.std.proofs.lemmas.List.Sums.{sum_by-cons, sum_by-append}
use Rattle.std.proofs.lemmas.Slice.Eq.{bytes_eq-Decides}
use Rattle.sqlite_keyed.proofs.ListLemmas.{filter-map, map-map}
use Rattle.goo_types.specs.Number.{code_of}
use Rattle.goo_types.specs.Piece.{IsRising, IsRisingFrom}
use Rattle.goo_types.specs.declared.piece.Piece.{Piece}
use Rattle.goo_types.specs.declared.place.Place.{Place}
use Rattle.goo_types.specs.declared.place.Place.TheVariants.{Held, Cancelled, Expired, Withdrawn, Exported}
use Rattle.goo_ranges_rows.specs.Certificates.{issued_in, corrected_in}
use Rattle.goo_spec.specs.Energy.{is_taken_back, withdrew}
use Rattle.goo_spec.specs.State.{Correction}
use Rattle.goo_spec_tables.specs.Places.{piece_of, place_of, rows_of}
use Rattle.goo_store_audit.specs.Counting.{Share, share_of, share_in, shares_of, took, withdrawal_in, issued_by, corrected_by, end_of, IsBelow, AreAdded, rows_from, IsPageAdded, IsCountedTo, IsTallyOf}
use Rattle.goo_store_audit.specs.declared.tallies.DeviceTally.{DeviceTally}
use Rattle.goo_store_audit.proofs.Paging.{IsSpacedFrom, above, ending, none_left, page_sum, sum_by-map}
use Rattle.goo_store_rules.specs.Correcting.{AreTakenBack}
use Rattle.goo_store_rules.specs.Summing.{sum_at}
use Rattle.goo_tables_pages.specs.DevicePieces.{of_device, device_piece_in}
use Rattle.goo_tables_pages.specs.declared.device_pieces.DevicePieceRow.{DevicePieceRow}
use Rattle.goo_tables_rows.specs.Beside.{pieces_beside}
use Rattle.goo_tables_rows.specs.Rows.{Tables, Lot}
use Rattle.goo_tables_rows.specs.declared.piece.PieceRow.{PieceRow}

-- ---- one share

pub cond_most : (b : Bool) (n : ℕ) → cond b n 0 ≤ n
cond_most true n = omega arith
cond_most false n = omega arith

-- a count that is below the first number is below the number after the last, once the certificates between are added
pub still_below : (old new first count next : ℕ) (b : Bool) → old ≤ first → first + count ≤ next → new ≡ old + cond b count 0 → new ≤ next
still_below old new first count next b before most is = let few = cond_most b count in omega (arith, before, most, is, few)

pub weaker_below : (low next : ℕ) (tally : DeviceTally) → low ≤ next → next ≤ 100000000000000 → IsBelow low tally → IsBelow next tally
weaker_below low next tally up most it = record {
  most = most;
  issued = λ q. let few = it.issued q in omega (arith, up, few);
  corrected = λ q. let few = it.corrected q in omega (arith, up, few);
}

both_cond : (a b : Bool) (n : ℕ) → cond b (cond a n 0) 0 ≡ cond (a && b) n 0
both_cond true true n = refl
both_cond true false n = refl
both_cond false true n = refl
both_cond false false n = refl

alone : (f : Share → ℕ) (s : Share) → sum_by f (s ∷ []) ≡ f s
alone f s = let one = sum_by-cons f s [] in omega (arith, one)

pub issued_alone : (own : ℕ) (s : Share) (q : List ℕ) (old new count : ℕ) → count ≡ cond (code_of s.first == own) (s.last + 1 - s.first) 0 → new ≡ old + cond (bytes_eq s.device q) count 0
    → new ≡ old + sum_by (issued_by own q) (s ∷ [])
issued_alone own s q old new count counts is =
    is ∙ ap (λ n. old + n) (ap (λ n. cond (bytes_eq s.device q) n 0) counts ∙ both_cond (code_of s.first == own) (bytes_eq s.device q) (s.last + 1 - s.first) ∙ sym (alone (issued_by own q) s))

none : (back own : Bool) (n : ℕ) → cond back (cond (own && false) n 0) 0 ≡ 0
none true true n = refl
none true false n = refl
none false own n = refl

-- it counts for its own device, and for no other
back_for : (own : ℕ) (cs : List Correction) (s : Share) (q : List ℕ) → cond (bytes_eq s.device q) (corrected_by own s.device cs s) 0 ≡ corrected_by own q cs s
back_for own cs s q = go (bytes_eq s.device q) refl
  where
    go : (b : Bool) → bytes_eq s.device q ≡ b → cond b (corrected_by own s.device cs s) 0 ≡ corrected_by own q cs s
    go true is = ap (λ d. corrected_by own d cs s) ((bytes_eq-Decides s.device q).0 is)
    go false is =
        sym (ap (λ b. cond (took q cs s.withdrawal) (cond ((code_of s.first == own) && b) (s.last + 1 - s.first) 0) 0) is
        ∙ none (took q cs s.withdrawal) (code_of s.first == own) (s.last + 1 - s.first))

took_same : (k : Bool) (device : List ℕ) (act : ℕ) (cs : List Correction) → k && list_any (withdrew device act) cs ≡ took device cs (cond k (Some act) None)
took_same true device act cs = refl
took_same false device act cs = refl

and_true : (a : Bool) → a ≡ (a && true)
and_true true = refl
and_true false = refl

-- what is counted of a row that corrections took back
pub back_counts : (own : ℕ) (cs : List Correction) (a : PieceRow × List ℕ) (count next : ℕ) → next ≡ a.0.last + 1
    → count ≡ cond ((a.0.kind == 4) && list_any (withdrew a.1 a.0.act) cs) (cond (code_of a.0.first == own) (next - a.0.first) 0) 0 → count ≡ corrected_by own a.1 cs (share_of a)
back_counts own cs a count next end is =
    let its_own : (code_of a.0.first == own) ≡ ((code_of a.0.first == own) && bytes_eq a.1 a.1) = and_true (code_of a.0.first == own) ∙ ap (λ b. (code_of a.0.first == own) && b) (sym ((bytes_eq-Decides a.1 a.1).1 refl)) in
    is ∙ (λ i. cond (took_same (a.0.kind == 4) a.1 a.0.act cs i) (cond (its_own i) (end i - a.0.first) 0) 0)

pub issued_counts : (own : ℕ) (a : PieceRow × List ℕ) (count next : ℕ) → next ≡ a.0.last + 1 → count ≡ cond (code_of a.0.first == own) (next - a.0.first) 0 → count ≡ cond (code_of a.0.first == own) (a.0.last + 1 - a.0.first) 0
issued_counts own a count next end is = is ∙ ap (λ n. cond (code_of a.0.first == own) (n - a.0.first) 0) end

pub corrected_alone : (own : ℕ) (cs : List Correction) (s : Share) (q : List ℕ) (old new count : ℕ) → count ≡ corrected_by own s.device cs s → new ≡ old + cond (bytes_eq s.device q) count 0
    → new ≡ old + sum_by (corrected_by own q cs) (s ∷ [])
corrected_alone own cs s q old new count counts is =
    is ∙ ap (λ n. old + n) (ap (λ n. cond (bytes_eq s.device q) n 0) counts ∙ back_for own cs s q ∙ sym (alone (corrected_by own q cs) s))

-- ---- rows, one after another

shares_push : (rows : List DevicePieceRow) (row : DevicePieceRow) → shares_of (rows ++ row ∷ []) ≡ shares_of rows ++ share_of (device_piece_in row) ∷ []
shares_push [] row = refl
shares_push (x ∷ rows) row = ap (λ l. share_of (device_piece_in x) ∷ l) (shares_push rows row)

module _ (own : ℕ) (withdrawals : BTreeSet (List ℕ × ℕ)) where
  pub none_added : (tally : DeviceTally) → AreAdded own withdrawals [] tally tally
  none_added tally = record { issued = λ q. omega arith; corrected = λ cs are q. omega arith }

  pub added_push : (rows : List DevicePieceRow) (row : DevicePieceRow) (old mid new : DeviceTally) → AreAdded own withdrawals (shares_of rows) old mid → AreAdded own withdrawals (share_of (device_piece_in row) ∷ []) mid new
      → AreAdded own withdrawals (shares_of (rows ++ row ∷ [])) old new
  added_push rows row old mid new first second = subst (λ l. AreAdded own withdrawals l old new) (sym (shares_push rows row)) (record {
    issued = λ q.
        let both = sum_by-append (issued_by own q) (shares_of rows) (share_of (device_piece_in row) ∷ []) in
        let one = first.issued q in
        let two = second.issued q in
        omega (arith, both, one, two);
    corrected = λ cs are q.
        let both = sum_by-append (corrected_by own q cs) (shares_of rows) (share_of (device_piece_in row) ∷ []) in
        let one = first.corrected cs are q in
        let two = second.corrected cs are q in
        omega (arith, both, one, two);
  })

-- ---- the rows of a page, and those that begin after it

abbrev pub from_first : Piece → ℕ
from_first p = p.first

abbrev pub to_last : Piece → ℕ
to_last p = p.last

pub spaced : (low : ℕ) (ps : List Piece) → IsRisingFrom low ps → IsSpacedFrom from_first to_last low ps
spaced low [] rising = tt
spaced low (p ∷ ps) rising = (rising.0, rising.1.0, spaced (p.last + 1) ps rising.2)

ends_same : (low : ℕ) (ps : List Piece) → end_of low (map share_in ps) ≡ ending from_first to_last low ps
ends_same low [] = refl
ends_same low (p ∷ ps) = ends_same (p.last + 1) ps

taken_same : (q : List ℕ) (cs : List Correction) (place : Place) → is_taken_back q cs place ≡ took q cs (withdrawal_in place)
taken_same q cs (Held account) = refl
taken_same q cs (Cancelled account act) = refl
taken_same q cs (Expired account) = refl
taken_same q cs (Withdrawn account act) = refl
taken_same q cs (Exported account act) = refl

corrected_sum : (own : ℕ) (q : List ℕ) (cs : List Correction) (ps : List Piece) → sum_by (corrected_in own q cs) ps ≡ sum_by (λ p. corrected_by own q cs (share_in p)) ps
corrected_sum own q cs ps = λ i. sum_by (λ (p : Piece). cond (taken_same q cs p.place i) (issued_in own q p) 0) ps

module _ (rows : List Piece) (rising : IsRising rows) (low : ℕ) where
  abbrev shown : List Piece
  shown = take 256 (rows_from low rows)

  abbrev next : ℕ
  next = ending from_first to_last low shown

  sums : (f : Share → ℕ) → sum_by (λ p. f (share_in p)) (rows_from low rows) ≡ sum_by f (map share_in shown) + sum_by (λ p. f (share_in p)) (rows_from next rows)
  sums f =
      let g = λ (p : Piece). f (share_in p) in
      page_sum from_first to_last low rows (spaced 0 rows rising) g ∙ ap (λ n. n + sum_by g (rows_from next rows)) (sym (sum_by-map f share_in shown))

  module _ (own : ℕ) (withdrawals : BTreeSet (List ℕ × ℕ)) (old new : DeviceTally) where
    page_is_added : AreAdded own withdrawals (map share_in shown) old new → IsPageAdded own withdrawals rows low next old new
    page_is_added it = record {
      issued = λ q.
          let parts = sums (issued_by own q) in
          let more = it.issued q in
          omega (arith, parts, more);
      corrected = λ cs are q.
          let parts = sums (corrected_by own q cs) in
          let more = it.corrected cs are q in
          let here = corrected_sum own q cs (rows_from low rows) in
          let left = corrected_sum own q cs (rows_from next rows) in
          omega (arith, parts, more, here, left);
      none_left = none_left from_first to_last low rows (spaced 0 rows rising);
    }

    pub page_added : (shares : List Share) (last : ℕ) → shares ≡ map share_in shown → last ≡ end_of low shares → AreAdded own withdrawals shares old new → IsPageAdded own withdrawals rows low last old new
    page_added shares last are is it =
        subst (λ n. IsPageAdded own withdrawals rows low n old new) (sym (is ∙ ap (end_of low) are ∙ ends_same low shown)) (page_is_added (subst (λ l. AreAdded own withdrawals l old new) are it))

-- ---- the page that the statement shows

abbrev pub begins : ℕ → PieceRow × Lot → Bool
begins low a = nat_le low a.0.first

no_withdrawal : (account act : ℕ) (a b c : Bool) → None ≡ withdrawal_in (cond a (Held account) (cond b (Cancelled account act) (cond c (Expired account) (Exported account act))))
no_withdrawal account act true b c = refl
no_withdrawal account act false true c = refl
no_withdrawal account act false false true = refl
no_withdrawal account act false false false = refl

withdrawal_same : (kind account act : ℕ) → cond (kind == 4) (Some act) None ≡ withdrawal_in (place_of kind account act)
withdrawal_same kind account act = go (kind == 4) refl
  where
    go : (b : Bool) → (kind == 4) ≡ b → cond b (Some act) None ≡ withdrawal_in (place_of kind account act)
    go true is = subst (λ k. Some act ≡ withdrawal_in (place_of k account act)) (sym (eqb-true kind 4 is)) refl
    go false is =
        no_withdrawal account act (kind == 1) (kind == 2) (kind == 3)
        ∙ sym (ap (λ d. withdrawal_in (cond (kind == 1) (Held account) (cond (kind == 2) (Cancelled account act) (cond (kind == 3) (Expired account) (cond d (Withdrawn account act) (Exported account act)))))) is)

share_same : (a : PieceRow × Lot) → share_of (of_device a) ≡ share_in (piece_of a)
share_same a = λ i. record { first = a.0.first; last = a.0.last; device = a.1.device; withdrawal = withdrawal_same a.0.kind a.0.account a.0.act i }

pub shares_shown : (t : Tables) (low : ℕ) (rows : List DevicePieceRow) → map device_piece_in rows ≡ map of_device (take 256 (filter (begins low) (pieces_beside t))) → shares_of rows ≡ map share_in (take 256 (rows_from low (rows_of t)))
unfolding rows_of
shares_shown t low rows is =
    let all = filter (begins low) (pieces_beside t) in
    ap (map share_of) is ∙ map-map share_of of_device (take 256 all) ∙ (λ i. map (λ (a : PieceRow × Lot). share_same a i) (take 256 all)) ∙ sym (map-map share_in piece_of (take 256 all))
    ∙ ap (map share_in) (sym (take-map piece_of 256 all) ∙ ap (take 256) (sym (filter-map (λ p. nat_le low p.first) piece_of (pieces_beside t))))

-- ---- page after page

module _ (own : ℕ) (withdrawals : BTreeSet (List ℕ × ℕ)) (rows : List Piece) where
  pub counting_begins : (rising : IsRising rows) (next : ℕ) (old new : DeviceTally) → ((q : List ℕ) → sum_at old.issued q ≡ 0) → ((q : List ℕ) → sum_at old.corrected q ≡ 0) → IsPageAdded own withdrawals rows 0 next old new
      → IsCountedTo own withdrawals rows 0 next new
  counting_begins rising next old new none_issued none_corrected it =
      let all = above from_first to_last 0 0 rows (omega arith) (spaced 0 rows rising) in record {
        issued = λ q.
            let more = it.issued q in
            let nothing = none_issued q in
            let whole = ap (sum_by (issued_in own q)) all in
            omega (arith, more, nothing, whole);
        corrected = λ cs are q.
            let more = it.corrected cs are q in
            let nothing = none_corrected q in
            let whole = ap (sum_by (corrected_in own q cs)) all in
            omega (arith, more, nothing, whole);
        none_left = it.none_left;
      }

  pub counting_goes : (before low next : ℕ) (old new : DeviceTally) → IsCountedTo own withdrawals rows before low old → IsPageAdded own withdrawals rows low next old new → IsCountedTo own withdrawals rows low next new
  counting_goes before low next old new so it = record {
    issued = λ q.
        let more = it.issued q in
        let until = so.issued q in
        omega (arith, more, until);
    corrected = λ cs are q.
        let more = it.corrected cs are q in
        let until = so.corrected cs are q in
        omega (arith, more, until);
    none_left = it.none_left;
  }

  pub counting_ends : (low next : ℕ) (tally : DeviceTally) → next ≤ low → IsCountedTo own withdrawals rows low next tally → (cs : List Correction) → AreTakenBack cs withdrawals → IsTallyOf own cs rows tally
  counting_ends low next tally few so cs are =
      let nothing = so.none_left few in record {
        issued = λ q.
            let until = so.issued q in
            let rest = ap (sum_by (issued_in own q)) nothing in
            omega (arith, until, rest);
        corrected = λ q.
            let until = so.corrected cs are q in
            let rest = ap (sum_by (corrected_in own q cs)) nothing in
            omega (arith, until, rest);
      }
