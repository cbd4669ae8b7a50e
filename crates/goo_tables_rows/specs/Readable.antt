-- Which rows of an answer can be read: enough columns, each of the right kind and size. An error of a read for another cause
-- than memory is one of four, and comes of a row that can't.
use Rattle.std.specs.Prelude.{◌≡◌, ◌⊎◌, ◌≤◌, ◌<◌, ◌^◌, ◌+◌, ℕ, pos, List, length, IsUtf8, IsTrue, Bool, true, false}
use Rattle.sqlite.specs.declared.types.Value.TheVariants.{Null, Int, Text}
use Rattle.sqlite.specs.declared.types.Value.{Value}
use Rattle.sqlite.specs.Order.{Row, column}
use Rattle.sqlite.specs.declared.error.ErrorCode.TheVariants.{OutOfMemory}
use Rattle.sqlite.specs.declared.error.Error.{Error}
use Rattle.sqlite.specs.declared.error.Error.TheVariants.{SqliteFailure, InvalidColumnIndex, InvalidColumnType, IntegralValueOutOfRange, Utf8Error}
use Rattle.goo_tables_rows.specs.Reads.{IsOctets}

-- ---- values

abbrev pub IsSmall : Value → Type 0
IsSmall v = (n : ℕ) × (v ≡ Int (pos n)) × (n < 2 ^ 32)

abbrev pub IsNumber : Value → Type 0
IsNumber v = (n : ℕ) × (v ≡ Int (pos n))

abbrev pub IsText : Value → Type 0
IsText v = (t : List ℕ) × (v ≡ Text t) × IsUtf8 t

abbrev pub IsMaybeText : Value → Type 0
IsMaybeText v = (v ≡ Null) ⊎ IsText v

abbrev pub IsBytes : Value → Type 0
IsBytes v = (b : List ℕ) × IsOctets v b

-- ---- rows

abbrev pub plant_readable : ℕ → Row → Type 0
plant_readable i r =
    (i + 7 ≤ length r)
    × IsText (column r (i + 0))
    × IsText (column r (i + 1))
    × IsText (column r (i + 2))
    × IsText (column r (i + 3))
    × IsNumber (column r (i + 4))
    × IsText (column r (i + 5))
    × IsText (column r (i + 6))

abbrev pub meta_readable : Row → Type 0
meta_readable r =
    (8 ≤ length r)
    × IsSmall (column r 0)
    × IsSmall (column r 1)
    × IsText (column r 2)
    × IsNumber (column r 3)
    × IsSmall (column r 4)
    × IsSmall (column r 5)
    × IsSmall (column r 6)
    × IsSmall (column r 7)

abbrev pub holder_readable : Row → Type 0
holder_readable r =
    (2 ≤ length r)
    × IsText (column r 0)
    × IsText (column r 1)

abbrev pub account_readable : Row → Type 0
account_readable r =
    (3 ≤ length r)
    × IsSmall (column r 0)
    × IsText (column r 1)
    × IsSmall (column r 2)

abbrev pub device_readable : Row → Type 0
device_readable r =
    (12 ≤ length r)
    × IsText (column r 0)
    × IsSmall (column r 1)
    × plant_readable 2 r
    × IsMaybeText (column r 9)
    × IsNumber (column r 10)
    × IsMaybeText (column r 11)

abbrev pub declaration_readable : Row → Type 0
declaration_readable r =
    (6 ≤ length r)
    × IsNumber (column r 0)
    × IsText (column r 1)
    × IsText (column r 2)
    × IsText (column r 3)
    × IsNumber (column r 4)
    × IsNumber (column r 5)

abbrev pub lot_readable : ℕ → Row → Type 0
lot_readable i r =
    (i + 15 ≤ length r)
    × IsNumber (column r (i + 0))
    × IsSmall (column r (i + 1))
    × IsText (column r (i + 2))
    × plant_readable (i + 3) r
    × IsText (column r (i + 10))
    × IsText (column r (i + 11))
    × IsMaybeText (column r (i + 12))
    × IsText (column r (i + 13))
    × IsMaybeText (column r (i + 14))

abbrev pub piece_readable : Row → Type 0
piece_readable r =
    (6 ≤ length r)
    × IsNumber (column r 0)
    × IsNumber (column r 1)
    × IsNumber (column r 2)
    × IsSmall (column r 3)
    × IsSmall (column r 4)
    × IsSmall (column r 5)

abbrev pub peer_readable : Row → Type 0
peer_readable r =
    (1 ≤ length r)
    × IsSmall (column r 0)

abbrev pub receipt_readable : Row → Type 0
receipt_readable r =
    (7 ≤ length r)
    × IsText (column r 0)
    × IsText (column r 1)
    × IsBytes (column r 2)
    × IsSmall (column r 3)
    × IsNumber (column r 4)
    × IsNumber (column r 5)
    × IsNumber (column r 6)

abbrev pub cancellation_readable : Row → Type 0
cancellation_readable r =
    (8 ≤ length r)
    × IsSmall (column r 0)
    × IsSmall (column r 1)
    × IsNumber (column r 2)
    × IsNumber (column r 3)
    × IsText (column r 4)
    × IsText (column r 5)
    × IsText (column r 6)
    × IsText (column r 7)

abbrev pub withdrawal_readable : Row → Type 0
withdrawal_readable r =
    (5 ≤ length r)
    × IsSmall (column r 0)
    × IsNumber (column r 1)
    × IsNumber (column r 2)
    × IsText (column r 3)
    × IsText (column r 4)

abbrev pub notice_out_readable : Row → Type 0
notice_out_readable r =
    (3 ≤ length r)
    × IsSmall (column r 0)
    × IsSmall (column r 1)
    × IsBytes (column r 2)

abbrev pub notice_in_readable : Row → Type 0
notice_in_readable r =
    (3 ≤ length r)
    × IsSmall (column r 0)
    × IsSmall (column r 1)
    × IsBytes (column r 2)

abbrev pub correction_readable : Row → Type 0
correction_readable r =
    (5 ≤ length r)
    × IsNumber (column r 0)
    × IsText (column r 1)
    × IsText (column r 2)
    × IsNumber (column r 3)
    × IsSmall (column r 4)

abbrev pub device_carrier_readable : Row → Type 0
device_carrier_readable r =
    (2 ≤ length r)
    × IsText (column r 0)
    × IsText (column r 1)

abbrev pub lot_carrier_readable : Row → Type 0
lot_carrier_readable r =
    (2 ≤ length r)
    × IsNumber (column r 0)
    × IsText (column r 1)

abbrev pub numbered_meta_readable : Row → Type 0
numbered_meta_readable r =
    (9 ≤ length r)
    × IsNumber (column r 0)
    × IsSmall (column r 1)
    × IsSmall (column r 2)
    × IsText (column r 3)
    × IsNumber (column r 4)
    × IsSmall (column r 5)
    × IsSmall (column r 6)
    × IsSmall (column r 7)
    × IsSmall (column r 8)

abbrev pub joined_readable : Row → Type 0
joined_readable r = piece_readable r × lot_readable 6 r

-- ---- errors

abbrev pub is_read_error : Error → Bool
is_read_error (InvalidColumnIndex at) = true
is_read_error (InvalidColumnType at kind) = true
is_read_error (IntegralValueOutOfRange at) = true
is_read_error (Utf8Error at) = true
is_read_error _ = false

-- an error of reading: for want of memory, or of a row that can't be read
abbrev pub IsUnread : Type 0 → Error → Type 0
IsUnread IsReadable e = (e ≡ SqliteFailure OutOfMemory) ⊎ (IsTrue (is_read_error e) × ¬ IsReadable)
