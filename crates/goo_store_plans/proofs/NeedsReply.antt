-- A receipt can keep the numbers of an accepted command's reply.
use Rattle.std.proofs.Common.{◌≡◌, ◌≤◌, ◌<◌, ◌^◌, ◌+◌, ◌-◌, ℕ, pos, zero, suc, get_or, List, [], ◌∷◌, length, map, All, Bool, true, false, cond, Option, Some, None, option_map, refl, ap, ◌∙◌, arith}
use Rattle.std.specs.Prelude.{nat_le, is_some, count_by}
use Rattle.std.specs.FinMap.{get, insert, entries}
use Rattle.std.specs.Ordering.{nat_cmp}
use Rattle.std.specs.List.{list_all, cons_option}
use Rattle.std.proofs.lemmas.Bool.{and_parts, and_from, leb-true, leb-false, le-leb}
use Rattle.std.proofs.lemmas.List.Sums.{sum_by-le}
use Rattle.sqlite_keyed.specs.Keyed.{get_by}
use Rattle.goo_types.specs.Number.{code_of, is_number}
use Rattle.goo_types.specs.Obeys.{Obeys}
use Rattle.goo_types.specs.Piece.{Label, label_of, covers, at_of, IsRisingFrom}
use Rattle.goo_types.specs.Range.{Numbers, IsRange}
use Rattle.goo_types.specs.declared.command.Command.{Command}
use Rattle.goo_types.specs.declared.command.Command.TheVariants.{OpenHolder, OpenAccount, CloseAccount, RegisterDevice, Declare, Correct, Transfer, Cancel, Withdraw, Advance, AddPeer, Export, Import}
use Rattle.goo_types.specs.declared.lot_fields.LotFields.{LotFields}
use Rattle.goo_types.specs.declared.part.Part.{Part}
use Rattle.goo_types.specs.declared.piece.Piece.{Piece}
use Rattle.goo_types.specs.declared.place.Place.{Place}
use Rattle.goo_types.specs.declared.refusal.Refusal.{Refusal}
use Rattle.goo_spec.specs.Checks.{naming}
use Rattle.goo_spec.specs.Energy.{carry}
use Rattle.goo_spec.specs.Import.{numbered, import_reply}
use Rattle.goo_spec.specs.Lots.{Certificates, is_absent}
use Rattle.goo_spec.specs.Maps.{each, count_of, is_within, give_each, numbers_from, least_absent}
use Rattle.goo_spec.specs.State.{State, serials}
use Rattle.goo_spec.specs.Step.{refusal, reply_to}
use Rattle.goo_spec.specs.OpenHolder.{open_holder_reply}
use Rattle.goo_spec.specs.OpenAccount.{open_account_reply}
use Rattle.goo_spec.specs.CloseAccount.{close_account_reply}
use Rattle.goo_spec.specs.RegisterDevice.{register_device_reply}
use Rattle.goo_spec.specs.AddPeer.{add_peer_reply}
use Rattle.goo_spec.specs.Advance.{advance_reply, expires}
use Rattle.goo_spec.specs.Correct.{correct_checks, correct_refusal, correct_reply, count_in, numbers_in}
use Rattle.goo_spec.specs.Declare.{declare_reply, with_declaration}
use Rattle.goo_spec.specs.Transfer.{transfer_checks, transfer_refusal, transfer_reply}
use Rattle.goo_spec.specs.Cancel.{cancel_checks, cancel_refusal, cancel_reply}
use Rattle.goo_spec.specs.Withdraw.{withdraw_checks, withdraw_refusal, withdraw_reply}
use Rattle.goo_spec.specs.Export.{export_checks, export_refusal, export_reply}
use Rattle.goo_spec.proofs.Checking.{none_fail, unfound}
use Rattle.goo_spec.proofs.Counting.{count-insert}
use Rattle.goo_spec.proofs.Creating.{no_entries}
use Rattle.goo_spec.proofs.Naming.{length_numbered}
use Rattle.goo_spec.proofs.Numbers.{one_within}
use Rattle.goo_spec.proofs.Placing.{passed_over}
use Rattle.goo_ranges_rows.specs.Certificates.{numbers_of, certificates_of}
use Rattle.goo_ranges_rows.proofs.CertificateLemmas.{certificates-rows}
use Rattle.goo_tables_rows.specs.Beside.{beside}
use Rattle.goo_tables_rows.specs.Rows.{Tables, Lot, lot_key}
use Rattle.goo_tables_rows.specs.declared.piece.PieceRow.{PieceRow}
use Rattle.goo_spec_tables.specs.Kept.{AreKept}
use Rattle.goo_spec_tables.specs.Places.{piece_of, rows_of}
use Rattle.goo_spec_tables.specs.Readable.{is_piece}
use Rattle.goo_spec_tables.specs.States.{state_of}
use Rattle.goo_store_plans.specs.Acted.{HasKeptNumbers}

-- one above the last number that there can be
abbrev above_all : ℕ
above_all = 100000000000000

-- ---- rows end below it

abbrev AreLow : List Piece → Type 0
AreLow [] = Unit {0}
AreLow (p ∷ ps) = (p.last < above_all) × AreLow ps

few : (n : ℕ) → code_of n ≤ 99 → n < above_all
few n code = omega (arith, code)

is_low : (p : PieceRow) → is_piece p ≡ true → p.last < above_all
is_low p is =
    let number : is_number p.last ≡ true = (and_parts _ _ (and_parts _ _ (and_parts _ _ is).0).1).0 in
    few p.last (leb-true (code_of p.last) 99 (and_parts _ _ (and_parts _ _ number).0).1)

low_rows : (lots : List Lot) (ps : List PieceRow) → list_all is_piece ps ≡ true → AreLow (map piece_of (beside lots ps))
low_rows lots [] all = tt
low_rows lots (p ∷ ps) all =
    let parts = and_parts (is_piece p) (list_all is_piece ps) all in
    go (get_by lot_key lots (pos p.lot)) (low_rows lots ps parts.1) (is_low p parts.0)
  where
    go : (o : Option Lot) → AreLow (map piece_of (beside lots ps)) → p.last < above_all → AreLow (map piece_of (cons_option (option_map (λ l. (p, l)) o) (beside lots ps)))
    go None rest low = rest
    go (Some l) rest low = (low, rest)

at_low : (ps : List Piece) (n : ℕ) → AreLow ps → is_some (at_of ps n) ≡ true → n < above_all
at_low [] n low there = absurd (cc)
at_low (p ∷ ps) n low there = go (covers p n) (λ is. let up = leb-true n p.last (and_parts (nat_le p.first n) (nat_le n p.last) is).1 in omega (arith, up, low.0)) (at_low ps n low.1) there
  where
    go : (b : Bool) → (b ≡ true → n < above_all) → (is_some (at_of ps n) ≡ true → n < above_all) → is_some (cond b (Some (label_of p)) (at_of ps n)) ≡ true → n < above_all
    go true here rest is = here refl
    go false here rest is = rest is

-- ---- how many certificates there are

one_most : (b : Bool) → cond b 1 0 ≤ 1
one_most true = omega arith
one_most false = omega arith

length_from : (count first : ℕ) → length (numbers_from first count) ≡ count
length_from zero first = refl
length_from (suc count) first = ap suc (length_from count (first + 1))

module _ (p : ℕ × Label → Bool) where
  given_most : (lot : LotFields) (place : Place) (ns : List ℕ) (at : Certificates) → count_by p (entries (give_each ns lot place at)) ≤ count_by p (entries at) + length ns
  given_most lot place [] at = omega arith
  given_most lot place (n ∷ ns) at = omega (arith, given_most lot place ns (insert at n (lot, place)), count-insert p at n (lot, place), one_most (p (n, (lot, place))))

  counted_most : (low : ℕ) (ps : List Piece) → IsRisingFrom low ps → AreLow ps → low ≤ above_all → count_by p (entries (certificates_of ps)) + low ≤ above_all
  unfolding certificates_of
  counted_most low [] rising are up = let none : count_by p (entries (certificates_of [])) ≡ 0 = ap (count_by p) (no_entries Label nat_cmp) in omega (arith, none, up)
  counted_most low (q ∷ ps) rising are up =
      let rest = counted_most (q.last + 1) ps rising.2 are.1 (omega (arith, are.0)) in
      let more = given_most q.lot q.place (each (numbers_of q)) (certificates_of ps) in
      omega (arith, rest, more, length_from (suc q.last - q.first) q.first, rising.0, rising.1.0)

module _ (t : Tables) (kept : AreKept t) where
  abbrev s : State
  s = state_of t

  low : AreLow (rows_of t)
  unfolding rows_of
  low = low_rows t.lots t.pieces kept.readable.pieces

  known_low : (n : ℕ) → is_some (get s.at n) ≡ true → n < above_all
  unfolding state_of
  known_low n there = at_low (rows_of t) n low (ap is_some ((certificates-rows (rows_of t) kept.rising).same n) ∙ there)

  all_counted : (p : ℕ × Label → Bool) → count_by p (entries s.at) < 2 ^ 63
  unfolding state_of
  all_counted p = let few = counted_most p 0 (rows_of t) kept.rising low (omega arith) in omega (arith, few)

  there_so : (o : Option Label) → is_absent o ≡ false → is_some o ≡ true
  there_so None is = absurd (cc)
  there_so (Some known) is = refl

  -- the numbers of a range that are there are as few
  range_counted : (f : ℕ → Refusal) (range : Numbers) → naming f (least_absent (get s.at) (each range)) ≡ None → count_of range < 2 ^ 63
  range_counted f range none = go (nat_le range.first range.last) refl
    where
      go : (b : Bool) → nat_le range.first range.last ≡ b → count_of range < 2 ^ 63
      go false is = let back = leb-false range.first range.last is in omega (arith, back)
      go true is =
          let within : is_within range range.last ≡ true = and_from (nat_le range.first range.last) (nat_le range.last range.last) is (le-leb range.last range.last (omega arith)) in
          let there = there_so (get s.at range.last) (passed_over (λ n. is_absent (get s.at n)) (each range) range.last (unfound f _ none) (one_within range range.last ∙ within)) in
          let last = known_low range.last there in
          omega (arith, last)

  -- so are those of a range that may be absent
  range_counted_if_any : (f : ℕ → Refusal) (range : Option Numbers) → naming f (least_absent (get s.at) (numbers_in range)) ≡ None → count_in range < 2 ^ 63
  range_counted_if_any f None none = omega arith
  range_counted_if_any f (Some range) none = range_counted f range none

-- a part has the numbers of one code at most
part_counted : (r : Numbers) → IsRange r → count_of r ≤ serials
part_counted r is = let code = is.one_code in let up = is.rising in omega (arith, code, up)

parts_counted : (ps : List Part) → length ps ≤ 100 → All (λ p. IsRange p.range) ps → length (numbered ps) < 2 ^ 63
parts_counted ps few are =
    let all = sum_by-le (λ p. count_of p.range) serials ps (λ k d low. part_counted (get_or ps k d).range (are k d low)) in
    omega (arith, few, all, length_numbered ps)

carry_kept : (s : State) (device : List ℕ) → carry s device ≤ 999999
unfolding carry
carry_kept s device = omega arith

pub kept_numbers : (t : Tables) → AreKept t → (caller : List ℕ) (c : Command) → Obeys c → refusal (state_of t) caller c ≡ None → HasKeptNumbers (reply_to (state_of t) c)
unfolding open_holder_reply open_account_reply close_account_reply register_device_reply add_peer_reply advance_reply declare_reply correct_refusal correct_reply transfer_refusal transfer_reply cancel_refusal cancel_reply withdraw_refusal withdraw_reply export_refusal export_reply import_reply
kept_numbers t kept caller (OpenHolder x) obeys none = tt
kept_numbers t kept caller (OpenAccount x) obeys none = tt
kept_numbers t kept caller (CloseAccount x) obeys none = tt
kept_numbers t kept caller (RegisterDevice x) obeys none = tt
kept_numbers t kept caller (Declare x) obeys none = carry_kept (with_declaration (state_of t) x) x.device
kept_numbers t kept caller (Correct x) obeys none = (omega arith, range_counted_if_any t kept _ x.range (none_fail (correct_checks (state_of t) caller x) none).1.1.1.1.0)
kept_numbers t kept caller (Transfer x) obeys none = range_counted t kept _ x.range (none_fail (transfer_checks (state_of t) caller x) none).1.1.1.0
kept_numbers t kept caller (Cancel x) obeys none = range_counted t kept _ x.range (none_fail (cancel_checks (state_of t) caller x) none).1.1.0
kept_numbers t kept caller (Withdraw x) obeys none = range_counted t kept _ x.range (none_fail (withdraw_checks (state_of t) caller x) none).1.0
kept_numbers t kept caller (Advance x) obeys none = all_counted t kept (λ e. expires x.day e.1.0 e.1.1)
kept_numbers t kept caller (AddPeer x) obeys none = tt
kept_numbers t kept caller (Export x) obeys none = range_counted t kept _ x.range (none_fail (export_checks (state_of t) caller x) none).1.1.0
kept_numbers t kept caller (Import x) obeys none = parts_counted x.notice.parts obeys.notice.count.1 obeys.ranges
