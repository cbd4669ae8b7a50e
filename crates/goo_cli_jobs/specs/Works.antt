-- What is done with a registry.
use Rattle.std.specs.Prelude.{◌≡◌, ℕ, List, Option, None}
use Rattle.std.specs.FinMap.{get}
use Rattle.std.specs.Io.KnownBytes.{Keeps}
use Rattle.sqlite_disk.specs.declared.Disk.{Ghosts}
use Rattle.goo_spec.specs.State.{State}
use Rattle.goo_spec.specs.Sound.{IsSound}
use Rattle.goo_desk_server.specs.Runs as served
use Rattle.goo_files.specs.Texts.{IsStatement, IsAuditText}
use Rattle.goo_files.specs.Writes.{Began, Wrote}
use Rattle.goo_cli.specs.Asked.{Asked, InFile, Init, Run, Declare, Statement, Audit, Serve}
use Rattle.goo_cli_ending.specs.declared.ending.Ending.{Ending}
use Rattle.goo_cli_ending.specs.Endings.{IsOfLines, status_of}
use Rattle.goo_cli_texts.specs.Endings.{IsOfImport, IsOfText}
use Rattle.goo_cli_ending.specs.Runs.{RunsInput}
use Rattle.goo_cli_registry.specs.Durable.{IfOpened, IsInFile, IsUnbegun, IsUnopened, MayOpen}
use Rattle.goo_cli_texts.specs.Declaring.{DeclaresRows}
use Rattle.goo_cli_registry.specs.declared.closing.Left.{Left}
use Rattle.goo_cli_registry.specs.Closings.{HoldsSome, IfRefused}
use Rattle.goo_cli_registry.specs.Finds.{HasState}
use Rattle.goo_desk_listener.specs.Clients.{Clients}
use Rattle.goo_cli_files.specs.ServerEndings.{IsCounted, IsOfServer}
use Rattle.goo_cli_files.specs.ServesConnections.{IsAnnounced, IsUnserved, ServesConnections}
use Rattle.goo_cli_files.specs.Durable.{IsLeftToFind}
use Rattle.goo_cli_jobs.specs.MemoryWorks.{asked_in_memory}
use Rattle.goo_cli_jobs.specs.declared.work.Job.{Job}
use Rattle.goo_cli_jobs.specs.declared.work.Job.TheVariants as job
use Rattle.goo_cli_jobs.specs.declared.work.Work.{Work}
use Rattle.goo_cli_jobs.specs.declared.work.Work.TheVariants as work

-- what a command line asks for, of which this is the job
abbrev pub asked_in : List ℕ → Work → Asked
asked_in file work.Run = Run (InFile file)
asked_in file work.Declare = Declare file
asked_in file (work.Statement account) = Statement file account
asked_in file work.Audit = Audit file
asked_in file (work.Serve serving) = Serve (InFile file) serving

abbrev pub asked_for : Job → Asked
asked_for (job.Make file opening) = Init file.now opening
asked_for (job.InFile file done) = asked_in file.now done
asked_for (job.InMemory opening done) = asked_in_memory opening done

module _ {D : Type 0} {g : Ghosts D} (s : State) (before after had has : Option (List ℕ)) (told : Ending) (rest : Left D g) where
  -- the lines of an input were answered from this state on, where a registry was opened, and the words of lines are told; else nothing was read
  pub record AreAnswered : Type 0 where
    pub runs : IfOpened rest (RunsInput told s had has (IsInFile rest) (MayOpen rest) before after)
    pub sound : IfOpened rest (IsSound s)
    pub words : IfOpened rest (IsOfLines told)
    pub refused : IfRefused rest (λ _. IsUnbegun told had has before after)

  -- the rows of a table were imported, likewise
  pub record AreImported : Type 0 where
    pub runs : IfOpened rest (DeclaresRows told s had has (IsInFile rest) (MayOpen rest) before after)
    pub sound : IfOpened rest (IsSound s)
    pub words : IfOpened rest (IsOfImport told)
    pub refused : IfRefused rest (λ _. IsUnbegun told had has before after)

  -- the statement of an account is shown, or there is no such account and nothing is written; the registry stays as it was
  pub record IsStated (account : ℕ) : Type 0 where
    pub shown : status_of told ≡ 0 → Wrote had has (IsStatement s account)
    pub unknown : status_of told ≡ 1 → get s.accounts account ≡ None
    pub silent : status_of told ≡ 1 → Keeps had has
    pub begun : status_of told ≡ 3 → Began had has (IsStatement s account)
    pub kept : HasState s rest
    pub words : IfOpened rest (IsOfText told)
    pub refused : IfRefused rest (λ _. IsUnopened told had has)

  -- the audit is shown, and the registry stays as it was
  pub record IsAudited : Type 0 where
    pub shown : status_of told ≡ 0 → Wrote had has (IsAuditText s)
    pub silent : status_of told ≡ 1 → Keeps had has
    pub begun : status_of told ≡ 3 → Began had has (IsAuditText s)
    pub kept : HasState s rest
    pub words : IfOpened rest (IsOfText told)
    pub refused : IfRefused rest (λ _. IsUnopened told had has)

  -- it was told at which port, as many connections were accepted as asked for, and what is promised holds of the requests that they left applied;
  -- what each was sent, and what the next opening finds of them
  pub record IsServed (from now : Clients) (port count : ℕ) : Type 0 where
    pub announced : status_of told ≡ 0 → IsAnnounced port now.at had has
    pub counted : IsCounted told from.accepted now.accepted count
    pub promised : HoldsSome rest (served.KeepsPromise from.sends from.accepted now.accepted s)
    pub serves : IfOpened rest (ServesConnections from now s (IsLeftToFind rest))
    pub words : IfOpened rest (IsOfServer told)
    pub refused : IfRefused rest (λ _. IsUnserved told had has from now)

  -- what this work comes to, from the state that the files held, with the connections that were accepted meanwhile
  abbrev pub IsWorked : Clients → Clients → Work → Type 0
  IsWorked from now work.Run = AreAnswered
  IsWorked from now work.Declare = AreImported
  IsWorked from now (work.Statement account) = IsStated account
  IsWorked from now work.Audit = IsAudited
  IsWorked from now (work.Serve serving) = IsServed from now serving.port serving.count
