-- What a change leaves to the next one.
use Rattle.std.specs.Prelude.{◌≡◌, IsTrue, Result, OnOk}
use Rattle.sqlite.specs.State.{State, HasCleanDisk, IsLive}
use Rattle.sqlite.specs.declared.error.Error.{Error}
use Rattle.goo_tables_rows.specs.Columns.{registry_schema}

-- the connection is open, and what it sees and what was committed last are databases
abbrev pub IsAlive : State → Type 0
IsAlive s = IsTrue s.is_open × IsLive s

-- it is alive, if it was open
abbrev pub StaysAlive : State → State → Type 0
StaysAlive old new = (IsTrue old.is_open → IsTrue new.is_open) × IsLive new

-- A change inside a transaction on our tables that succeeds leaves a database, as `ChangeFailsBy` asks of the next one.
abbrev pub LeavesLive : {T : Type 0} → State → State → Result T Error → Type 0
LeavesLive old new result = HasCleanDisk new → IsLive old → IsTrue old.in_transaction → old.now.schema ≡ registry_schema → OnOk result (IsAlive new)
