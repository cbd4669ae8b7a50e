-- The lots, the numbers and the places of rows are those of each certificate.
use Rattle.std.proofs.Common.{◌≡◌, ℕ, zero, suc, ◌<◌, ◌≤◌, ◌==◌, ◌&&◌, ◌||◌, not, List, Bool, true, false, cond, map, Some, refl, sym, ap, ◌∙◌, arith, true≢false}
use Rattle.std.specs.Prelude.{nat_le, nat_lt}
use Rattle.std.specs.List.{list_all}
use Rattle.std.specs.Option.{option_map_or}
use Rattle.std.specs.Ordering.{nat_cmp, eq_by_cmp}
use Rattle.std.specs.Cmp.{nat_cmp_total}
use Rattle.std.specs.FinMap.{get, contains_key, from_entries}
use Rattle.std.proofs.lemmas.Bool.{and_parts, leb-true, eqb-true, eq-eqb, ltb-true, lt-ltb}
use Rattle.goo_types.specs.Number.{code_of, serial_of}
use Rattle.goo_types.specs.Piece.{IsRising}
use Rattle.goo_types.specs.Place.{account_of}
use Rattle.goo_spec.specs.Lots.{key_of}
use Rattle.goo_spec.specs.Sound.{is_act_there}
use Rattle.goo_tables_rows.specs.Rows.{Tables, Lot, lot_key, lot_row}
use Rattle.goo_tables_rows.specs.Stands.{Keeps}
use Rattle.goo_tables_rows.specs.declared.piece.PieceRow.{PieceRow}
use Rattle.goo_spec_tables.specs.Places.{place_of, lot_of, rows_of}
use Rattle.goo_spec_tables.specs.Readable.{is_between, is_act, are_ends, names_act, is_piece}
use Rattle.goo_spec_tables.specs.States.{state_of, known_account, known_cancellation, known_withdrawal, known_sent}
use Rattle.goo_spec_tables.proofs.RowsFound.{place_account}
use Rattle.goo_store_receipts.specs.Judged.{judged_cancellation}
use Rattle.goo_store_rules.specs.WellKept.{has_account, has_cancellation, has_withdrawal, has_sent}
use Rattle.goo_store_rules.proofs.EachRow.{list_any-map}
use Rattle.goo_store_rules.proofs.RowsByKey.{row_under, there}
use Rattle.goo_store_rules.proofs.KeptCertificates.{HasItsCertificates, have_lots, judged, judged_back}
use Rattle.goo_store_rules.proofs.KeptPieces.{row_ends, of_origin}
use Rattle.goo_store_rules.proofs.PieceRules.{is_given, has_its_account, has_its_act, has_its_lot, KnowsLots, HasPlaces}

-- ---- serials

issued_so : (own next n : ℕ) (p : PieceRow) → (p.first ≤ p.last) × (code_of p.first ≡ code_of p.last) → p.first ≤ n → n ≤ p.last → (b : Bool) → (code_of p.last == own) ≡ b
    → not b || nat_lt (serial_of p.last) next ≡ true → code_of n ≡ own → serial_of n < next
issued_so own next n p ends from to true is below own_one =
    let code = ends.1 in
    let less = ltb-true (serial_of p.last) next below in
    omega (arith, code, from, to, less)
issued_so own next n p ends from to false other below own_one =
    let code = ends.1 in
    let same : code_of p.last ≡ own = omega (arith, code, from, to, own_one) in
    absurd (true≢false (sym (eq-eqb (code_of p.last) own same) ∙ other))

issued_below : (own next : ℕ) (p : PieceRow) → (code_of p.last ≡ own → serial_of p.last < next) → (b : Bool) → (code_of p.last == own) ≡ b → not b || nat_lt (serial_of p.last) next ≡ true
issued_below own next p below true is = lt-ltb (serial_of p.last) next (below (eqb-true (code_of p.last) own is))
issued_below own next p below false is = refl

-- ---- acts

kind_within : (kind act : ℕ) → names_act kind act ≡ true → (1 ≤ kind) × (kind ≤ 5)
kind_within kind act named = go (kind == 1) (kind == 3) refl refl named
  where
    go : (a c : Bool) → (kind == 1) ≡ a → (kind == 3) ≡ c → cond (a || c) (act == 0) (is_between 2 5 kind && is_act act) ≡ true → (1 ≤ kind) × (kind ≤ 5)
    go true c one e is = let k = eqb-true kind 1 one in (omega (arith, k), omega (arith, k))
    go false true e three is = let k = eqb-true kind 3 three in (omega (arith, k), omega (arith, k))
    go false false e f is =
        let ends = and_parts (nat_le 2 kind) (nat_le kind 5) (and_parts (is_between 2 5 kind) (is_act act) is).0 in
        let low = leb-true 2 kind ends.0 in
        let high = leb-true kind 5 ends.1 in
        (omega (arith, low), high)

by_kind : (Q : ℕ → Type 0) → Q 1 → Q 2 → Q 3 → Q 4 → Q 5 → (kind : ℕ) → 1 ≤ kind → kind ≤ 5 → Q kind
by_kind Q a b c d e zero low high = absurd (omega (arith, low))
by_kind Q a b c d e (suc zero) low high = a
by_kind Q a b c d e (suc (suc zero)) low high = b
by_kind Q a b c d e (suc (suc (suc zero))) low high = c
by_kind Q a b c d e (suc (suc (suc (suc zero)))) low high = d
by_kind Q a b c d e (suc (suc (suc (suc (suc zero))))) low high = e
by_kind Q a b c d e (suc (suc (suc (suc (suc (suc n)))))) low high = absurd (omega (arith, high))

module _ (t : Tables) where
  -- the act of a row is there where that of its place is
  act_same : (p : PieceRow) → is_piece p ≡ true
      → has_its_act t p
      ≡ is_act_there (from_entries (map known_cancellation t.cancellations)) (from_entries (map known_withdrawal t.withdrawals)) (from_entries (map known_sent t.notices_out)) (place_of p.kind p.account p.act)
  act_same p good =
      let kinds = kind_within p.kind p.act ((and_parts (is_act p.account) (names_act p.kind p.act) (and_parts (are_ends p.first p.last) (is_act p.account && names_act p.kind p.act) good).1).1) in
      by_kind (λ kind. cond (kind == 2) (has_cancellation (map judged_cancellation t.cancellations) p.act) (cond (kind == 4) (has_withdrawal t.withdrawals p.act) (cond (kind == 5) (has_sent t.notices_out p.act) true))
      ≡ is_act_there (from_entries (map known_cancellation t.cancellations)) (from_entries (map known_withdrawal t.withdrawals)) (from_entries (map known_sent t.notices_out)) (place_of kind p.account p.act))
      refl (list_any-map (λ c. eq_by_cmp nat_cmp p.act c.number) judged_cancellation t.cancellations ∙ there nat_cmp_total known_cancellation p.act t.cancellations) refl (there nat_cmp_total known_withdrawal p.act t.withdrawals) (there nat_cmp_total known_sent p.act t.notices_out)
      p.kind kinds.0 kinds.1

  account_same : (p : PieceRow) → has_account t.accounts p.account ≡ contains_key (from_entries {R = nat_cmp} (map known_account t.accounts)) (account_of (place_of p.kind p.account p.act))
  account_same p =
      there nat_cmp_total known_account p.account t.accounts ∙ ap (contains_key (from_entries {R = nat_cmp} (map known_account t.accounts))) (sym (place_account p.kind p.account p.act))

  module _ (has_its : HasItsCertificates t) (good : list_all is_piece t.pieces ≡ true) (up : IsRising (rows_of t)) where
    module _ (rows : List _) (keeps : Keeps rows lot_row lot_key t.lots) where
      origin_same : (p : PieceRow) (l : Lot) → row_under lot_key t.lots p.lot ≡ Some l → has_its_lot t p ≡ (code_of p.first == l.origin)
      origin_same p l found = of_origin rows t.lots keeps (code_of p.first) p.lot ∙ ap (λ o. option_map_or (λ (k : Lot). code_of p.first == k.origin) o false) found

      -- each certificate's lot is known and of its code, and own serials were given
      pub known_from : ((id : ℕ) (l : Lot) → row_under lot_key t.lots id ≡ Some l → get (state_of t).lots (key_of (lot_of l)) ≡ Some (lot_of l))
          → list_all (has_its_lot t) t.pieces ≡ true → list_all (is_given t) t.pieces ≡ true → KnowsLots t
      unfolding state_of
      known_from keyed lots issued = record {
        known = judged t has_its good up (λ n lot place. get (state_of t).lots (key_of lot) ≡ Some lot) is_piece (λ p l reads found passes n from to. keyed p.lot l found) good;
        code = judged t has_its good up (λ n lot place. lot.origin ≡ code_of n) (has_its_lot t)
            (λ p l reads found passes n from to.
            let code = (row_ends p reads).1 in
            let origin = eqb-true (code_of p.first) l.origin (sym (origin_same p l found) ∙ passes) in
            omega (arith, code, origin, from, to))
            lots;
        below = judged t has_its good up (λ n lot place. code_of n ≡ t.meta.code → serial_of n < t.meta.next_serial) (is_given t)
            (λ p l reads found passes n from to. issued_so t.meta.code t.meta.next_serial n p (row_ends p reads) from to (code_of p.last == t.meta.code) refl passes)
            issued;
      }

      pub lots_back : have_lots t.lots t.pieces ≡ true → KnowsLots t → list_all (has_its_lot t) t.pieces ≡ true
      lots_back lots_there known =
          judged_back t has_its good up (λ n lot place. lot.origin ≡ code_of n) (has_its_lot t)
          (λ p l reads found of. origin_same p l found ∙ eq-eqb (code_of p.first) l.origin (sym (of p.first (omega arith) (row_ends p reads).0)))
          lots_there known.code

    pub issued_back : have_lots t.lots t.pieces ≡ true → KnowsLots t → list_all (is_given t) t.pieces ≡ true
    unfolding state_of
    issued_back lots_there known =
        judged_back t has_its good up (λ n lot place. code_of n ≡ t.meta.code → serial_of n < t.meta.next_serial) (is_given t)
        (λ p l reads found of. issued_below t.meta.code t.meta.next_serial p (of p.last (row_ends p reads).0 (omega arith)) (code_of p.last == t.meta.code) refl)
        lots_there known.below

    -- each certificate's account and act are there
    pub places_from : list_all (has_its_account t) t.pieces ≡ true → list_all (has_its_act t) t.pieces ≡ true → HasPlaces t
    unfolding state_of
    places_from accounts acts = record {
      account = judged t has_its good up (λ n lot place. contains_key (state_of t).accounts (account_of place) ≡ true) (has_its_account t)
          (λ p l reads found passes n from to. sym (account_same p) ∙ passes)
          accounts;
      act = judged t has_its good up (λ n lot place. is_act_there (state_of t).cancellations (state_of t).withdrawals (state_of t).sent place ≡ true) (has_its_act t)
          (λ p l reads found passes n from to. sym (act_same p reads) ∙ passes)
          acts;
    }

    module _ (lots_there : have_lots t.lots t.pieces ≡ true) (places : HasPlaces t) where
      pub accounts_back : list_all (has_its_account t) t.pieces ≡ true
      unfolding state_of
      accounts_back =
          judged_back t has_its good up (λ n lot place. contains_key (state_of t).accounts (account_of place) ≡ true) (has_its_account t)
          (λ p l reads found of. account_same p ∙ of p.first (omega arith) (row_ends p reads).0)
          lots_there places.account

      pub acts_back : list_all (has_its_act t) t.pieces ≡ true
      unfolding state_of
      acts_back =
          judged_back t has_its good up (λ n lot place. is_act_there (state_of t).cancellations (state_of t).withdrawals (state_of t).sent place ≡ true) (has_its_act t)
          (λ p l reads found of. act_same p reads ∙ of p.first (omega arith) (row_ends p reads).0)
          lots_there places.act
