-- When the log of two files may go, and what stays of both.
use Rattle.std.specs.Prelude.{◌≡◌, ◌⊎◌, ℕ, List, [], slice_index, IsTrue}
use Rattle.sqlite_disk.specs.declared.Disk.{Ghosts}
use Rattle.sqlite_disk.specs.declared.Files.{Files}
use Rattle.sqlite_wal.specs.Files.{outcomes}
use Rattle.sqlite_wal.specs.Recovery.{Image, RecoversAs}
use Rattle.sqlite.specs.Tree.{Trees}
use Rattle.sqlite.specs.Closing.{HoldsAlone}

-- Without the log the database file recovers to the same pages. Nor does the log tell a database that was only begun from a damaged one:
-- it is empty, or the file has its first byte, an S, which is written last.
pub record IsUnused (image : Image) : Type 0 where
  pub same : (size : ℕ) → RecoversAs size image (record image { log = [] })
  pub begun : (image.log ≡ []) ⊎ (slice_index image.db 0 ≡ 83)

-- nothing of the log is used, or the database file alone holds the database of both
abbrev pub IsSpare : Image → Type 0
IsSpare image = IsUnused image ⊎ ((db : Trees) × HoldsAlone image db)

-- the log may go, whatever a crash leaves of both files
abbrev pub NeedNoLog : {D : Type 0} → Ghosts D → Files D → Type 0
NeedNoLog g files = (image : Image) → outcomes g files.log files.db image → IsSpare image

-- nothing of a file is changed: it reads as before, and a crash leaves nothing of it that it would not have left before
pub record StaysAs {D : Type 0} (g : Ghosts D) (old new : D) : Type 0 where
  pub seen : g.seen new ≡ g.seen old
  pub clean : IsTrue (g.is_clean new) → IsTrue (g.is_clean old)
  pub crash : (bytes : List ℕ) → g.may_leave new bytes → g.may_leave old bytes

-- the same of the log and of the database file
pub record StayAs {D : Type 0} (g : Ghosts D) (old : D × D) (new : Files D) : Type 0 where
  pub log : StaysAs g old.0 new.log
  pub db : StaysAs g old.1 new.db
