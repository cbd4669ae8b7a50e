-- Which errors a statement may answer.
use Rattle.std.specs.Prelude.{[], ◌≡◌, ◌⊎◌, ◌+◌, ◌^◌, ◌≤◌, sum_by, true, false, Bool, ◌&&◌, nat_le, nat_eq, is_none, None, Ok, Err, ℕ, List, length, Result, IfErr, IsTrue}
use Rattle.sqlite_disk.specs.Disk.{MoreFaults}
use Rattle.sqlite.specs.Order.{Row, bytes}
use Rattle.sqlite.specs.Tree.{rowid}
use Rattle.sqlite.specs.Edit.{id_in}
use Rattle.sqlite.specs.Ops.{fits_i64}
use Rattle.sqlite_keyed.specs.Keyed.{next_key}
use Rattle.sqlite.specs.Query.{Query, has_no_fold}
use Rattle.sqlite.specs.Schema.{Schema}
use Rattle.sqlite_resolve.specs.declared.compiled.Compiled.{Compiled}
use Rattle.sqlite_resolve.specs.declared.error.CompileError.{CompileError}
use Rattle.sqlite_typing.specs.Types.{accepts_over}
use Rattle.sqlite.specs.Listing.{understood}
use Rattle.sqlite.specs.State.{State, HasCleanDisk, IsLive}
use Rattle.sqlite.specs.declared.error.ErrorCode.TheVariants.{OutOfMemory, SystemIoFailure, DatabaseCorrupt, DiskFull, Closed, TooBig, NoRowid}
use Rattle.sqlite.specs.declared.error.Error.{Error}
use Rattle.sqlite.specs.declared.error.Error.TheVariants.{SqliteFailure}
use Rattle.goo_tables_rows.specs.Columns.{registry_schema}
use Rattle.goo_tables_rows.specs.Readable.{is_read_error}
use Rattle.goo_tables_rows.specs.Rows.{Tables, Kept, kept_key}
use Rattle.goo_tables_rows.specs.Stands.{Stands, Sees}

-- an error that a store tells of its disk
abbrev pub is_store_error : Error → Bool
is_store_error (SqliteFailure SystemIoFailure) = true
is_store_error (SqliteFailure DatabaseCorrupt) = true
is_store_error (SqliteFailure DiskFull) = true
is_store_error (SqliteFailure Closed) = true
is_store_error _ = false

-- memory failed, or the store told that the disk did in this call, or that an earlier failure shut the connection
abbrev pub IsFault : State → State → Error → Type 0
IsFault old new e = (e ≡ SqliteFailure OutOfMemory) ⊎ (IsTrue (is_store_error e) × (MoreFaults old.faults new.faults ⊎ (old.is_open ≡ false)))

-- A look-up on our tables fails for such a fault, or since it showed a row that can't be read: never for its text, its values
-- or a table that is missing. A limit on steps would add its own error.
abbrev pub FailsByFault : {T : Type 0} → State → State → Result T Error → Type 0
FailsByFault old new result =
    HasCleanDisk new → old.now.schema ≡ registry_schema → old.step_limit ≡ None → IfErr result (λ e. IsFault old new e ⊎ IsTrue (is_read_error e))

-- the same where each row that the query has to show can be read: then an error is such a fault
abbrev pub FailsOnlyByFault : {T : Type 0} → State → State → Result T Error → (Tables → Type 0) → Type 0
FailsOnlyByFault old new result IsReadable =
    HasCleanDisk new → old.step_limit ≡ None → (t : Tables) → Stands old.now t → IsReadable t → IfErr result (IsFault old new)

-- The row and what an index takes of it can be stored: it has at most 10 ^ 9 bytes, with 18 for each value, the rowid among them.
abbrev pub IsSmall : Row → Type 0
IsSmall row = sum_by (λ v. 18 + length (bytes v)) row ≤ 10 ^ 9

-- the row is small, and its rowid is one that a table can give: below 2 ^ 63
abbrev pub CanBeKept : Row → Type 0
CanBeKept row = IsSmall row × (fits_i64 (id_in (rowid row)) ≡ true)

-- so is the row that comes under the next rowid of these
abbrev pub HasRoomFor : {X : Type 0} → (Kept X → Row) → List (Kept X) → X → Type 0
HasRoomFor to_row ks x = CanBeKept (to_row (next_key kept_key ks, x))

-- A change inside a transaction, where `Fits` of the tables says that it breaks no rule of theirs: an error is such a fault, or what `May` says,
-- and that comes only where the tables have no `Room` for the change. `IsLive` is what each connection says of itself (`Connection::schema`).
abbrev pub ChangeFailsBy : {T : Type 0} → (Error → Type 0) → (Tables → Type 0) → State → State → Result T Error → (Tables → Type 0) → Type 0
ChangeFailsBy May Room old new result Fits =
    HasCleanDisk new → IsLive old → old.step_limit ≡ None → (t : Tables) → Sees old t → Fits t → IfErr result (λ e. IsFault old new e ⊎ (May e × (Room t → ⊥)))

-- the row is too big to be stored
abbrev pub IsTooBig : Error → Type 0
IsTooBig e = e ≡ SqliteFailure TooBig

-- the row is too big, or the table has a row with the last rowid that there is
abbrev pub IsTooBigOrFull : Error → Type 0
IsTooBigOrFull e = IsTooBig e ⊎ (e ≡ SqliteFailure NoRowid)

-- ---- a test of a text, which computes

abbrev pub is_whole : ℕ → ℕ → Result Compiled CompileError → Bool
is_whole size given (Ok c) = nat_le size c.tail && nat_eq given (length c.names)
is_whole size given (Err e) = false

-- the text is one statement with so many parameters, whose types suit the query, and nothing in it adds up
abbrev pub is_suited : Schema → List ℕ → Query → Row → Bool
is_suited schema sql q params =
    is_whole (length sql) (length params) (understood schema sql) && (accepts_over schema [] q params && (has_no_fold q.from && is_none q.group))
