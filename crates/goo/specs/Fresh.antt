-- Files that were opened, before anything is done with them.
use Rattle.std.specs.Prelude.{true, false, IsTrue}
use Rattle.sqlite_disk.specs.declared.calls.Calls as calls
use Rattle.sqlite_disk.specs.declared.start.Start.{Ghosts}
use Rattle.sqlite_disk.specs.declared.modelled.Modelled.{Modelled}
use Rattle.sqlite_disk.specs.declared.Files.{Files}
use Rattle.sqlite_std_file.specs.File.{file_is_usable, IsFresh}
use Rattle.sqlite_std_file.specs.declared.host.Host.{Host}

module _ {S : Type 0} {g : calls.Ghosts Host} where
  -- a log and a database file that can be worked with, and with which nothing was done yet
  pub record AreFresh (start : Ghosts S) (files : Files (Modelled Host S g start)) : Type 0 where
    pub log : IsTrue (file_is_usable start files.log)
    pub db : IsTrue (file_is_usable start files.db)
    pub fresh_log : IsFresh true files.log
    pub fresh_db : IsFresh false files.db
