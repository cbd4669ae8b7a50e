-- What a system was asked to do with files, and did.
use Rattle.std.specs.Prelude.{◌≡◌, ◌⊎◌, ℕ, List, [], ◌∷◌, ◌++◌, Bool, Result, OnOk, OnErr, IsTrue}
use Rattle.sqlite_disk.specs.declared.Disk.{Ghosts}
use Rattle.sqlite_disk.specs.declared.Files.{Files}
use Rattle.sqlite_wal.specs.Reads.{AreClean}
use Rattle.sqlite_wal.specs.Recovery.{Image}
use Rattle.sqlite.specs.Files.{image_of}
use Rattle.goo_cli_disk.specs.Spare.{NeedNoLog}

-- one thing done with the files at a path
pub data Deed : Type 0 where
  -- the files of a registry that is to be there were opened
  OpenKept : List ℕ → Deed
  -- files were opened at a path at which a registry is to be made
  OpenNew : List ℕ → Deed
  -- the log beside the database file of a path was removed
  RemoveLog : List ℕ → Deed

-- one thing more was done where the call succeeded, and nothing where it failed
abbrev pub Did : {T E : Type 0} → Deed → Result T E → (old new : List Deed) → Type 0
Did deed result old new = OnOk result (new ≡ old ++ deed ∷ []) × OnErr result (new ≡ old)

-- files were let go: their log was removed at most, and only where it is said that it may go
abbrev pub LetsGo : List ℕ → Bool → (old new : List Deed) → Type 0
LetsGo path is_spare old new = (new ≡ old) ⊎ (IsTrue is_spare × (new ≡ old ++ RemoveLog path ∷ []))

module _ {D : Type 0} (g : Ghosts D) where
  -- files that can be worked with, and that hold this
  pub record AreAt (image : Image) (files : Files D) : Type 0 where
    pub log : IsTrue (g.is_usable files.log)
    pub db : IsTrue (g.is_usable files.db)
    pub here : image_of g files ≡ image

  -- the log of these files may go where that is said, whatever a crash leaves of them
  abbrev pub MayLoseLog : Bool → Files D → Type 0
  MayLoseLog is_spare files = IsTrue is_spare → AreClean g files.log files.db → NeedNoLog g files
