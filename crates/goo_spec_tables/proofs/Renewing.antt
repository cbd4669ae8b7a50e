-- Pieces joined have the map that they had, and no neighbours are left to join.
use Rattle.std.proofs.Common.{◌≡◌, ◌∙◌, ℕ, pos, ◌+◌, ◌≤◌, ◌==◌, ◌&&◌, ◌||◌, List, [], ◌∷◌, Bool, true, false, cond, map, is_some, Option, Some, None, option_map, refl, ap, sym, subst, arith, true≢false}
use Rattle.std.specs.Prelude.{nat_le}
use Rattle.std.specs.List.{list_all, cons_option}
use Rattle.std.proofs.lemmas.Bool.{and_parts, and_from, leb-true, le-leb, eqb-true, eq-eqb}
use Rattle.std.proofs.lemmas.Bool.Decides.{nat_tests}
use Rattle.sqlite_keyed.specs.Keyed.{get_by, has_key}
use Rattle.goo_types.specs.Number.{is_number, code_of, serial_of}
use Rattle.goo_types.specs.Piece.{label_of, Follows}
use Rattle.goo_types.specs.Place.{account_of}
use Rattle.goo_types.specs.declared.piece.Piece.{Piece}
use Rattle.goo_types.specs.declared.place.Place.{Place}
use Rattle.goo_types.specs.declared.place.Place.TheVariants.{Held, Cancelled, Expired, Withdrawn, Exported}
use Rattle.goo_spec.specs.Runs.{IsNotFollowed, IsApart}
use Rattle.goo_spec_runs.specs.Joined.{kind_of, act_of}
use Rattle.goo_ranges_pieces.specs.Joining.{IsJoining}
use Rattle.goo_ranges_pieces.proofs.Joining.{joining-self, joining-then, joining-append, joining-prepend, joining-pair}
use Rattle.goo_tables_rows.specs.Beside.{beside}
use Rattle.goo_tables_rows.specs.Rows.{Lot, lot_key}
use Rattle.goo_tables_rows.specs.declared.piece.PieceRow.{PieceRow}
use Rattle.goo_spec_tables.specs.Places.{place_of, lot_of, piece_of}
use Rattle.goo_spec_tables.specs.Readable.{is_between, is_act, names_act, is_piece}
use Rattle.goo_spec_tables.specs.Renewed.{goes_on, join_before, joined_pieces, HaveOwnFields}

-- ---- what goes on

pub record GoesOn (p q : PieceRow) : Type 0 where
  pub next : p.last + 1 ≡ q.first
  pub lot : p.lot ≡ q.lot
  pub kind : p.kind ≡ q.kind
  pub account : p.account ≡ q.account
  pub act : p.act ≡ q.act

pub on_from : (p q : PieceRow) → goes_on p q ≡ true → GoesOn p q
on_from p q is =
    let next = and_parts (p.last + 1 == q.first) _ is in
    let lot = and_parts (p.lot == q.lot) _ next.1 in
    let kind = and_parts (p.kind == q.kind) _ lot.1 in
    let account = and_parts (p.account == q.account) (p.act == q.act) kind.1 in
    record { next = eqb-true (p.last + 1) q.first next.0; lot = eqb-true p.lot q.lot lot.0; kind = eqb-true p.kind q.kind kind.0; account = eqb-true p.account q.account account.0; act = eqb-true p.act q.act account.1 }

pub on_so : (p q : PieceRow) → GoesOn p q → goes_on p q ≡ true
on_so p q on =
    and_from (p.last + 1 == q.first) _ (eq-eqb (p.last + 1) q.first on.next) (and_from (p.lot == q.lot) _ (eq-eqb p.lot q.lot on.lot)
    (and_from (p.kind == q.kind) _ (eq-eqb p.kind q.kind on.kind) (and_from (p.account == q.account) (p.act == q.act) (eq-eqb p.account q.account on.account) (eq-eqb p.act q.act on.act))))

-- ---- a place tells the kind, the account and the act

pub record Tells (place : Place) (kind account act : ℕ) : Type 0 where
  pub its_kind : kind_of place ≡ kind
  pub its_account : account_of place ≡ account
  pub its_act : act_of place ≡ act

pub tells : (kind account act : ℕ) → names_act kind act ≡ true → Tells (place_of kind account act) kind account act
tells kind account act named = go (kind == 1) (kind == 2) (kind == 3) (kind == 4) refl refl refl refl named
  where
    go : (a b c d : Bool) → (kind == 1) ≡ a → (kind == 2) ≡ b → (kind == 3) ≡ c → (kind == 4) ≡ d → cond (a || c) (act == 0) (is_between 2 5 kind && is_act act) ≡ true
        → Tells (cond a (Held account) (cond b (Cancelled account act) (cond c (Expired account) (cond d (Withdrawn account act) (Exported account act))))) kind account act
    go true b c d one two three four is = record { its_kind = sym (eqb-true kind 1 one); its_account = refl; its_act = sym (eqb-true act 0 is) }
    go false true c d one two three four is = record { its_kind = sym (eqb-true kind 2 two); its_account = refl; its_act = refl }
    go false false true d one two three four is = record { its_kind = sym (eqb-true kind 3 three); its_account = refl; its_act = sym (eqb-true act 0 is) }
    go false false false true one two three four is = record { its_kind = sym (eqb-true kind 4 four); its_account = refl; its_act = refl }
    go false false false false one two three four is =
        let ends = and_parts (nat_le 2 kind) (nat_le kind 5) (and_parts (is_between 2 5 kind) (is_act act) is).0 in
        let low = leb-true 2 kind ends.0 in
        let high = leb-true kind 5 ends.1 in
        record { its_kind = grind (arith, nat_tests); its_account = refl; its_act = refl }

-- ---- the ends of a row

pub record HasEnds (p : PieceRow) : Type 0 where
  pub first : is_number p.first ≡ true
  pub last : is_number p.last ≡ true
  pub order : p.first ≤ p.last
  pub code : code_of p.first ≡ code_of p.last
  pub rest : (is_act p.account && names_act p.kind p.act) ≡ true

pub ends_of : (p : PieceRow) → is_piece p ≡ true → HasEnds p
ends_of p good =
    let all = and_parts (is_number p.first && (is_number p.last && (nat_le p.first p.last && (code_of p.first == code_of p.last)))) (is_act p.account && names_act p.kind p.act) good in
    let first = and_parts (is_number p.first) _ all.0 in
    let last = and_parts (is_number p.last) _ first.1 in
    let order = and_parts (nat_le p.first p.last) (code_of p.first == code_of p.last) last.1 in
    record { first = first.0; last = last.0; order = leb-true p.first p.last order.0; code = eqb-true (code_of p.first) (code_of p.last) order.1; rest = all.1 }

pub named_act : (p : PieceRow) → is_piece p ≡ true → names_act p.kind p.act ≡ true
named_act p good = (and_parts (is_act p.account) (names_act p.kind p.act) (ends_of p good).rest).1

third : (a b c : Bool) → a && b && c ≡ true → c ≡ true
third true true c e = e
third true false c e = absurd (true≢false (sym e))
third false b c e = absurd (true≢false (sym e))

serial_from : (n : ℕ) → is_number n ≡ true → 1 ≤ serial_of n
serial_from n is = leb-true 1 (serial_of n) (third (nat_le 1 (code_of n)) (nat_le (code_of n) 99) (nat_le 1 (serial_of n)) is)

-- the two as one
abbrev pub longer : PieceRow → PieceRow → PieceRow
longer p q = record p { last = q.last }

same_code : (p q : PieceRow) → p.last + 1 ≡ q.first → 1 ≤ serial_of q.first → code_of p.first ≡ code_of p.last → code_of q.first ≡ code_of q.last → code_of p.first ≡ code_of q.last
same_code p q next valid a b = omega arith

pub longer_reads : (p q : PieceRow) → is_piece p ≡ true → is_piece q ≡ true → goes_on p q ≡ true → is_piece (longer p q) ≡ true
longer_reads p q good well on =
    let a = ends_of p good in
    let b = ends_of q well in
    let next = (on_from p q on).next in
    let up = a.order in
    let more = b.order in
    and_from _ (is_act p.account && names_act p.kind p.act)
    (and_from (is_number p.first) _ a.first (and_from (is_number q.last) _ b.last (and_from (nat_le p.first q.last) (code_of p.first == code_of q.last) (le-leb p.first q.last (omega (arith, next, up, more)))
    (eq-eqb (code_of p.first) (code_of q.last) (same_code p q next (serial_from q.first b.first) a.code b.code)))))
    a.rest

module _ (lots : List Lot) where
  abbrev pub rows : List PieceRow → List Piece
  rows ps = map piece_of (beside lots ps)

  abbrev pub have_lots : List PieceRow → Bool
  have_lots ps = list_all (λ p. has_key lot_key lots (pos p.lot)) ps

  abbrev pub IsOf : PieceRow → Lot → Type 0
  IsOf p l = get_by lot_key lots (pos p.lot) ≡ Some l

  pub the_lot : (p : PieceRow) → has_key lot_key lots (pos p.lot) ≡ true → (l : Lot) × IsOf p l
  the_lot p has = go (get_by lot_key lots (pos p.lot)) refl has
    where
      go : (o : Option Lot) → get_by lot_key lots (pos p.lot) ≡ o → is_some o ≡ true → (l : Lot) × IsOf p l
      go None found some = absurd (true≢false (sym some))
      go (Some l) found some = (l, found)

  pub rows_found : (p : PieceRow) (l : Lot) → IsOf p l → (ps : List PieceRow) → rows (p ∷ ps) ≡ piece_of (p, l) ∷ rows ps
  rows_found p l found ps = ap (λ o. map piece_of (cons_option (option_map (λ l. (p, l)) o) (beside lots ps))) found

  same_lots : (p q : PieceRow) (l m : Lot) → IsOf p l → IsOf q m → p.lot ≡ q.lot → l ≡ m
  same_lots p q l m mine theirs same =
      let both : Some l ≡ Some m = sym mine ∙ ap (λ n. get_by lot_key lots (pos n)) same ∙ theirs in
      cc

  pub follows_on : (p q : PieceRow) (l m : Lot) → IsOf p l → IsOf q m → goes_on p q ≡ true → Follows (piece_of (p, l)) (piece_of (q, m))
  follows_on p q l m mine theirs is =
      let on = on_from p q is in
      let one = same_lots p q l m mine theirs on.lot in
      (on.next, λ i. (lot_of (one i), place_of (on.kind i) (on.account i) (on.act i)))

  -- a piece that goes on, joined
  pair_joined : (p q : PieceRow) (l m : Lot) → IsOf p l → IsOf q m → is_piece q ≡ true → goes_on p q ≡ true → (qs : List PieceRow) → IsJoining (rows (p ∷ q ∷ qs)) (rows (longer p q ∷ qs))
  pair_joined p q l m mine theirs well is qs =
      let long : rows (p ∷ q ∷ qs) ≡ piece_of (p, l) ∷ piece_of (q, m) ∷ rows qs = rows_found p l mine (q ∷ qs) ∙ ap (λ ps. piece_of (p, l) ∷ ps) (rows_found q m theirs qs) in
      let short : rows (longer p q ∷ qs) ≡ piece_of (longer p q, l) ∷ rows qs = rows_found (longer p q) l mine qs in
      let made : IsJoining (piece_of (p, l) ∷ piece_of (q, m) ∷ rows qs) (piece_of (longer p q, l) ∷ rows qs) =
      joining-append (piece_of (p, l) ∷ piece_of (q, m) ∷ []) (piece_of (longer p q, l) ∷ []) (rows qs) (joining-pair (piece_of (p, l)) (piece_of (q, m)) (follows_on p q l m mine theirs is) (serial_from q.first (ends_of q well).first)) in
      subst (λ ps. IsJoining ps (rows (longer p q ∷ qs))) (sym long) (subst (IsJoining (piece_of (p, l) ∷ piece_of (q, m) ∷ rows qs)) (sym short) made)

  -- what holds of joined pieces all along
  pub record AreJoined (old new : List PieceRow) : Type 0 where
    pub joining : IsJoining (rows old) (rows new)
    pub good : list_all is_piece new ≡ true
    pub have : have_lots new ≡ true

  put_joined : (p : PieceRow) (qs : List PieceRow) → list_all is_piece (p ∷ qs) ≡ true → have_lots (p ∷ qs) ≡ true → AreJoined (p ∷ qs) (join_before p qs)
  put_joined p [] good have = record { joining = joining-self (rows (p ∷ [])); good = good; have = have }
  put_joined p (q ∷ qs) good have = go (goes_on p q) refl
    where
      go : (b : Bool) → goes_on p q ≡ b → AreJoined (p ∷ q ∷ qs) (cond b (longer p q ∷ qs) (p ∷ q ∷ qs))
      go true is =
          let first = and_parts (is_piece p) (list_all is_piece (q ∷ qs)) good in
          let second = and_parts (is_piece q) (list_all is_piece qs) first.1 in
          let mine = and_parts (has_key lot_key lots (pos p.lot)) (have_lots (q ∷ qs)) have in
          let theirs = and_parts (has_key lot_key lots (pos q.lot)) (have_lots qs) mine.1 in
          let l = the_lot p mine.0 in
          let m = the_lot q theirs.0 in record {
            joining = pair_joined p q l.0 m.0 l.1 m.1 second.0 is qs;
            good = and_from (is_piece (longer p q)) (list_all is_piece qs) (longer_reads p q first.0 second.0 is) second.1;
            have = and_from (has_key lot_key lots (pos p.lot)) (have_lots qs) mine.0 theirs.1;
          }
      go false is = record { joining = joining-self (rows (p ∷ q ∷ qs)); good = good; have = have }

  pub all_joined : (ps : List PieceRow) → list_all is_piece ps ≡ true → have_lots ps ≡ true → AreJoined ps (joined_pieces ps)
  all_joined [] good have = record { joining = joining-self []; good = refl; have = refl }
  all_joined (p ∷ ps) good have =
      let reads = and_parts (is_piece p) (list_all is_piece ps) good in
      let some = and_parts (has_key lot_key lots (pos p.lot)) (have_lots ps) have in
      let rest = all_joined ps reads.1 some.1 in
      let l = the_lot p some.0 in
      let front : IsJoining (rows (p ∷ ps)) (rows (p ∷ joined_pieces ps)) =
      subst (λ xs. IsJoining xs (rows (p ∷ joined_pieces ps))) (sym (rows_found p l.0 l.1 ps))
      (subst (IsJoining (piece_of (p, l.0) ∷ rows ps)) (sym (rows_found p l.0 l.1 (joined_pieces ps))) (joining-prepend (piece_of (p, l.0) ∷ []) (rows ps) (rows (joined_pieces ps)) rest.joining)) in
      let put = put_joined p (joined_pieces ps) (and_from (is_piece p) (list_all is_piece (joined_pieces ps)) reads.0 rest.good) (and_from (has_key lot_key lots (pos p.lot)) (have_lots (joined_pieces ps)) some.0 rest.have) in
      record { joining = joining-then (rows (p ∷ ps)) (rows (p ∷ joined_pieces ps)) (rows (join_before p (joined_pieces ps))) front put.joining; good = put.good; have = put.have }

  -- ---- where no two lots agree in all fields, what follows goes on

  pub on_where : HaveOwnFields lots → (p q : PieceRow) (l m : Lot) → IsOf p l → IsOf q m → is_piece p ≡ true → is_piece q ≡ true → Follows (piece_of (p, l)) (piece_of (q, m)) → goes_on p q ≡ true
  on_where own p q l m mine theirs good well f =
      let id : pos p.lot ≡ pos q.lot = own (pos p.lot) (pos q.lot) l m mine theirs (ap (λ k. k.0) f.1) in
      let place : place_of p.kind p.account p.act ≡ place_of q.kind q.account q.act = ap (λ k. k.1) f.1 in
      let a = tells p.kind p.account p.act (named_act p good) in
      let b = tells q.kind q.account q.act (named_act q well) in
      on_so p q (record {
        next = f.0;
        lot = cc;
        kind = sym a.its_kind ∙ ap kind_of place ∙ b.its_kind;
        account = sym a.its_account ∙ ap account_of place ∙ b.its_account;
        act = sym a.its_act ∙ ap act_of place ∙ b.its_act;
      })

  -- what doesn't follow a piece doesn't follow it with more numbers before
  not_followed_on : (x y : Piece) → x.last ≡ y.last → label_of x ≡ label_of y → (zs : List Piece) → IsNotFollowed y zs → IsNotFollowed x zs
  not_followed_on x y last label [] free = tt
  not_followed_on x y last label (z ∷ zs) free = λ f. free (ap (λ n. n + 1) (sym last) ∙ f.0, sym label ∙ f.1)

  put_apart : HaveOwnFields lots → (p : PieceRow) (qs : List PieceRow) → list_all is_piece (p ∷ qs) ≡ true → have_lots (p ∷ qs) ≡ true → IsApart (rows qs) → IsApart (rows (join_before p qs))
  put_apart own p [] good have apart =
      let l = the_lot p (and_parts (has_key lot_key lots (pos p.lot)) true have).0 in
      subst IsApart (sym (rows_found p l.0 l.1 [])) (tt, tt)
  put_apart own p (q ∷ qs) good have apart = go (goes_on p q) refl
    where
      go : (b : Bool) → goes_on p q ≡ b → IsApart (rows (cond b (longer p q ∷ qs) (p ∷ q ∷ qs)))
      go b is =
          let first = and_parts (is_piece p) (list_all is_piece (q ∷ qs)) good in
          let second = and_parts (is_piece q) (list_all is_piece qs) first.1 in
          let mine = and_parts (has_key lot_key lots (pos p.lot)) (have_lots (q ∷ qs)) have in
          let theirs = and_parts (has_key lot_key lots (pos q.lot)) (have_lots qs) mine.1 in
          let l = the_lot p mine.0 in
          let m = the_lot q theirs.0 in
          let behind : IsApart (piece_of (q, m.0) ∷ rows qs) = subst IsApart (rows_found q m.0 m.1 qs) apart in
          told b is l.0 m.0 l.1 m.1 first.0 second.0 behind
        where
          told : (b : Bool) → goes_on p q ≡ b → (l m : Lot) → IsOf p l → IsOf q m → is_piece p ≡ true → is_piece q ≡ true → IsApart (piece_of (q, m) ∷ rows qs) → IsApart (rows (cond b (longer p q ∷ qs) (p ∷ q ∷ qs)))
          told true is l m mine theirs good_p good_q behind =
              let f = follows_on p q l m mine theirs is in
              subst IsApart (sym (rows_found (longer p q) l mine qs)) (not_followed_on (piece_of (longer p q, l)) (piece_of (q, m)) refl f.1 (rows qs) behind.0, behind.1)
          told false is l m mine theirs good_p good_q behind =
              subst IsApart (sym (rows_found p l mine (q ∷ qs) ∙ ap (λ ps. piece_of (p, l) ∷ ps) (rows_found q m theirs qs)))
              ((λ f. true≢false (sym (on_where own p q l m mine theirs good_p good_q f) ∙ is)), behind)

  pub joined_apart : HaveOwnFields lots → (ps : List PieceRow) → list_all is_piece ps ≡ true → have_lots ps ≡ true → IsApart (rows (joined_pieces ps))
  joined_apart own [] good have = tt
  joined_apart own (p ∷ ps) good have =
      let reads = and_parts (is_piece p) (list_all is_piece ps) good in
      let some = and_parts (has_key lot_key lots (pos p.lot)) (have_lots ps) have in
      let rest = all_joined ps reads.1 some.1 in
      put_apart own p (joined_pieces ps) (and_from (is_piece p) (list_all is_piece (joined_pieces ps)) reads.0 rest.good) (and_from (has_key lot_key lots (pos p.lot)) (have_lots (joined_pieces ps)) some.0 rest.have)
      (joined_apart own ps reads.1 some.1)
