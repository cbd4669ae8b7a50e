-- What an audit counts of the rows, device by device, a page at a time.
use Rattle.std.specs.Prelude.{◌≡◌, ℕ, ◌+◌, ◌-◌, ◌≤◌, ◌<◌, ◌==◌, ◌&&◌, nat_le, cond, Bool, false, List, [], ◌∷◌, map, sum_by, IsTrue, Option, Some, None}
use Rattle.std.specs.List.{filter, list_any}
use Rattle.std.specs.Str.{bytes_eq}
use Rattle.std.specs.BTreeSet.{BTreeSet}
use Rattle.goo_types.specs.Gsrn.{gsrn_reading}
use Rattle.goo_types.specs.Number.{code_of}
use Rattle.goo_types.specs.declared.piece.Piece.{Piece}
use Rattle.goo_types.specs.declared.place.Place.{Place}
use Rattle.goo_types.specs.declared.place.Place.TheVariants.{Withdrawn}
use Rattle.goo_spec.specs.Energy.{withdrew}
use Rattle.goo_spec.specs.State.{Correction}
use Rattle.goo_ranges_rows.specs.Certificates.{issued_in, corrected_in}
use Rattle.goo_spec_tables.specs.Readable.{reads}
use Rattle.goo_store_rules.specs.Correcting.{AreTakenBack}
use Rattle.goo_store_rules.specs.Summing.{sum_at}
use Rattle.goo_store_audit.specs.declared.tallies.DeviceTally.{DeviceTally}
use Rattle.goo_tables_pages.specs.DevicePieces.{device_piece_in}
use Rattle.goo_tables_pages.specs.declared.device_pieces.DevicePieceRow.{DevicePieceRow}
use Rattle.goo_tables_rows.specs.declared.piece.PieceRow.{PieceRow}

-- ---- what is counted of a row

pub record Share : Type 0 where
  pub first : ℕ
  pub last : ℕ
  pub device : List ℕ
  -- the number of the withdrawal, where they are withdrawn
  pub withdrawal : Option ℕ

abbrev pub share_of : PieceRow × List ℕ → Share
share_of a = record { first = a.0.first; last = a.0.last; device = a.1; withdrawal = cond (a.0.kind == 4) (Some a.0.act) None }

abbrev pub withdrawal_in : Place → Option ℕ
withdrawal_in (Withdrawn account act) = Some act
withdrawal_in _ = None

abbrev pub share_in : Piece → Share
share_in p = record { first = p.first; last = p.last; device = p.lot.device; withdrawal = withdrawal_in p.place }

abbrev pub shares_of : List DevicePieceRow → List Share
shares_of rows = map share_of (map device_piece_in rows)

-- how many of its certificates are own ones of the device
abbrev pub issued_by : ℕ → List ℕ → Share → ℕ
issued_by own device s = cond (code_of s.first == own && bytes_eq s.device device) (s.last + 1 - s.first) 0

-- whether the device's corrections made the withdrawal
abbrev pub took : List ℕ → List Correction → Option ℕ → Bool
took device cs None = false
took device cs (Some act) = list_any (withdrew device act) cs

-- how many of them the device's corrections withdrew
abbrev pub corrected_by : ℕ → List ℕ → List Correction → Share → ℕ
corrected_by own device cs s = cond (took device cs s.withdrawal) (issued_by own device s) 0

-- ---- rows that can be counted

-- no certificate has a number so high
abbrev pub all_numbers : ℕ
all_numbers = 100000000000000

-- it is of a device, and a range that begins at `low` or later
abbrev pub IsShare : ℕ → PieceRow × List ℕ → Type 0
IsShare low a = IsTrue (reads (gsrn_reading a.1)) × (low ≤ a.0.first) × (a.0.first ≤ a.0.last) × (a.0.last < all_numbers)

-- each is, and they rise
abbrev pub AreCountable : ℕ → List (PieceRow × List ℕ) → Type 0
AreCountable low [] = Unit {0}
AreCountable low (a ∷ rest) = IsShare low a × AreCountable (a.0.last + 1) rest

-- ---- a page

-- the number after the last of these rows, or `low` where there are none
abbrev pub end_of : ℕ → List Share → ℕ
end_of low [] = low
end_of low (s ∷ rest) = end_of (s.last + 1) rest

-- no device has more certificates in the tally than there are numbers below `low`
pub record IsBelow (low : ℕ) (tally : DeviceTally) : Type 0 where
  pub most : low ≤ all_numbers
  pub issued : (q : List ℕ) → sum_at tally.issued q ≤ low
  pub corrected : (q : List ℕ) → sum_at tally.corrected q ≤ low

-- these rows were added to the tally
pub record AreAdded (own : ℕ) (withdrawals : BTreeSet (List ℕ × ℕ)) (shares : List Share) (old new : DeviceTally) : Type 0 where
  pub issued : (q : List ℕ) → sum_at new.issued q ≡ sum_at old.issued q + sum_by (issued_by own q) shares
  pub corrected : (cs : List Correction) → AreTakenBack cs withdrawals → (q : List ℕ) → sum_at new.corrected q ≡ sum_at old.corrected q + sum_by (corrected_by own q cs) shares

-- ---- all pages

-- the rows that begin at a number or later
abbrev pub rows_from : ℕ → List Piece → List Piece
rows_from low = filter (λ p. nat_le low p.first)

-- with the rows that are left the tally comes to what it came to before, and where none was counted none is left
pub record IsPageAdded (own : ℕ) (withdrawals : BTreeSet (List ℕ × ℕ)) (rows : List Piece) (low next : ℕ) (old new : DeviceTally) : Type 0 where
  pub issued : (q : List ℕ) → sum_at new.issued q + sum_by (issued_in own q) (rows_from next rows) ≡ sum_at old.issued q + sum_by (issued_in own q) (rows_from low rows)
  pub corrected : (cs : List Correction) → AreTakenBack cs withdrawals → (q : List ℕ)
      → sum_at new.corrected q + sum_by (corrected_in own q cs) (rows_from next rows) ≡ sum_at old.corrected q + sum_by (corrected_in own q cs) (rows_from low rows)
  pub none_left : next ≤ low → rows_from next rows ≡ []

-- with the rows that are left the tally comes to all rows, and where the last page was empty none is left
pub record IsCountedTo (own : ℕ) (withdrawals : BTreeSet (List ℕ × ℕ)) (rows : List Piece) (low next : ℕ) (tally : DeviceTally) : Type 0 where
  pub issued : (q : List ℕ) → sum_at tally.issued q + sum_by (issued_in own q) (rows_from next rows) ≡ sum_by (issued_in own q) rows
  pub corrected : (cs : List Correction) → AreTakenBack cs withdrawals → (q : List ℕ) → sum_at tally.corrected q + sum_by (corrected_in own q cs) (rows_from next rows) ≡ sum_by (corrected_in own q cs) rows
  pub none_left : next ≤ low → rows_from next rows ≡ []

-- the tally has each device's certificates in these rows
pub record IsTallyOf (own : ℕ) (cs : List Correction) (rows : List Piece) (tally : DeviceTally) : Type 0 where
  pub issued : (q : List ℕ) → sum_at tally.issued q ≡ sum_by (issued_in own q) rows
  pub corrected : (q : List ℕ) → sum_at tally.corrected q ≡ sum_by (corrected_in own q cs) rows
