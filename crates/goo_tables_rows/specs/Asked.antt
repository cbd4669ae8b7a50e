-- What was asked, and what came of it.
use Rattle.std.specs.Prelude.{◌≡◌, ◌⊎◌, ℕ, List, [], ◌∷◌, All, Option, Some, None, ⊤, IsTrue, Result, Ok, Err, Vec}
use Rattle.std.specs.List.{AllZip}
use Rattle.std.specs.declared.alloc.Global.{Global}
use Rattle.sqlite.specs.Given.{IsPlain}
use Rattle.sqlite.specs.Listing.{understood}
use Rattle.sqlite.specs.Order.{Row}
use Rattle.sqlite.specs.State.{State, IsUnchanged, Shown, FailsToQuery}
use Rattle.sqlite.specs.declared.error.Error.{Error}
use Rattle.sqlite.specs.declared.error.Error.TheVariants.{SqliteFailure}
use Rattle.sqlite.specs.declared.error.ErrorCode.TheVariants.{OutOfMemory}
use Rattle.goo_tables_rows.specs.Readable.{IsUnread, is_read_error}

-- the relation holds of the first element and what was found, and there is none where nothing was found
abbrev pub FirstZip : {A B : Type 0} → (A → B → Type 0) → List A → Option B → Type 0
FirstZip R [] None = ⊤
FirstZip R [] (Some y) = ⊥
FirstZip R (x ∷ xs) None = ⊥
FirstZip R (x ∷ xs) (Some y) = R x y

-- the text showed rows of which this holds
abbrev pub Answered : List ℕ → Row → State → State → (List Row → Type 0) → Type 0
Answered sql params old new P = (rows : List Row) × Shown sql params old new rows × P rows

-- the query showed rows, or it failed
abbrev pub IsRead : List ℕ → Row → State → State → Type 0
IsRead sql params old new = Answered sql params old new (λ _. ⊤) ⊎ ((e : Error) × FailsToQuery sql params old new e)

-- the query failed, or memory did, or it showed a row that can't be read
abbrev pub FailsToAsk : List ℕ → Row → State → State → (Row → Type 0) → Error → Type 0
FailsToAsk sql params old new readable e = FailsToQuery sql params old new e ⊎ Answered sql params old new (λ rows. IsUnread (All readable rows) e)

-- what was read of rows, or why it was not
abbrev pub AreRead : {T : Type 0} → (Row → T → Type 0) → (Row → Type 0) → List Row → Result (Vec T Global) Error → Type 0
AreRead reads readable rows (Ok found) = AllZip reads rows found.items
AreRead reads readable rows (Err e) = IsUnread (All readable rows) e

-- ---- row by row: of a text that only reads, which shows nothing of a write

-- the connection works, and a text that only reads showed rows of which this holds
abbrev pub Gave : List ℕ → Row → State → State → (List Row → Type 0) → Type 0
Gave sql params old new P = IsTrue new.is_open × (IsPlain (understood old.now.schema sql) → Answered sql params old new P)

-- a text that only reads left the database as it was, or the query failed
abbrev pub IsReadThrough : List ℕ → Row → State → State → Type 0
IsReadThrough sql params old new =
    (IsTrue new.is_open → IsTrue old.is_open) × (IsPlain (understood old.now.schema sql) → IsUnchanged old new ⊎ ((e : Error) × FailsToQuery sql params old new e))

-- memory was refused, or a query of such a text failed or showed a row that can't be read
abbrev pub FailsToGive : List ℕ → Row → State → State → (Row → Type 0) → Error → Type 0
FailsToGive sql params old new readable e =
    IsPlain (understood old.now.schema sql)
    → (e ≡ SqliteFailure OutOfMemory) ⊎ (FailsToQuery sql params old new e ⊎ Answered sql params old new (λ rows. IsTrue (is_read_error e) × (All readable rows → ⊥)))
