-- What the words of a command line ask for.
use Rattle.std.specs.Prelude.{◌≡◌, ◌⊎◌, true, List, [], ◌∷◌, codes, Option, Some, None, Result, Ok, Err}
use Rattle.std.specs.Result.{result_ok}
use Rattle.clap.specs.Words.{App, IsAmong, Kinds, Row, Rule, Text, fault_of, kind_of, new_app, new_rule, subcommand_of, with_rule, with_subcommand}
use Rattle.clap.specs.declared.error.Error.{Error}
use Rattle.clap.specs.declared.builder.action.ArgAction.TheVariants.{Set, SetTrue}
use Rattle.goo_cli.specs.Asked.{Asked}
use Rattle.goo_cli.specs.Verbs.{verb_in}
use Rattle.goo_cli.specs.Options.{Values, values_in}
use Rattle.goo_cli.specs.Readings.{task_by}
use Rattle.goo_cli.specs.declared.verb.Verb.{Verb}
use Rattle.goo_cli.specs.declared.line_fault.LineFault.{LineFault}
use Rattle.goo_cli.specs.declared.line_fault.LineFault.TheVariants as fault

-- an option that takes one value, a flag that takes none, and a word that stands by itself
abbrev pub option_rule : Text → Rule
option_rule name = record (new_rule name) { long = Some name; action = Some Set }

abbrev pub flag_rule : Text → Rule
flag_rule name = record (new_rule name) { long = Some name; action = Some SetTrue }

abbrev pub word_rule : Text → Rule
word_rule name = record (new_rule name) { action = Some Set }

-- --version
abbrev pub with_version : App → App
with_version a = record a { top = record a.top { has_version = true } }

-- --code C --today D [--next-serial N]
abbrev pub with_opening : App → App
with_opening a = with_rule (with_rule (with_rule a (option_rule (codes "code"))) (option_rule (codes "today"))) (option_rule (codes "next-serial"))

-- --db FILE, or --memory with what a new registry begins with
abbrev pub with_place : App → App
with_place a = with_opening (with_rule (with_rule a (option_rule (codes "db"))) (flag_rule (codes "memory")))

unfoldable pub init_app : App
init_app = with_opening (with_rule (new_app (codes "init")) (option_rule (codes "db")))

unfoldable pub run_app : App
run_app = with_place (new_app (codes "run"))

unfoldable pub declare_app : App
declare_app = with_rule (new_app (codes "declare")) (option_rule (codes "db"))

unfoldable pub statement_app : App
statement_app = with_rule (with_rule (new_app (codes "statement")) (word_rule (codes "account"))) (option_rule (codes "db"))

unfoldable pub audit_app : App
audit_app = with_rule (new_app (codes "audit")) (option_rule (codes "db"))

unfoldable pub serve_app : App
serve_app = with_place (with_rule (with_rule (new_app (codes "serve")) (option_rule (codes "port"))) (option_rule (codes "count")))

abbrev pub with_init : App → App
with_init a = with_subcommand a init_app.top

abbrev pub with_run : App → App
with_run a = with_subcommand a run_app.top

abbrev pub with_declare : App → App
with_declare a = with_subcommand a declare_app.top

abbrev pub with_statement : App → App
with_statement a = with_subcommand a statement_app.top

abbrev pub with_audit : App → App
with_audit a = with_subcommand a audit_app.top

abbrev pub with_serve : App → App
with_serve a = with_subcommand a serve_app.top

-- the commands of the program
unfoldable pub goo_app : App
goo_app = with_serve (with_audit (with_statement (with_declare (with_run (with_init (with_version (new_app (codes "goo"))))))))

-- the task of a command and its options, or what they lack
abbrev pub task_of : Option Verb → Values → Result Asked LineFault
task_of None v = Err fault.Command
task_of (Some verb) v = task_by verb v

abbrev pub task_named : Option (Text × List Row) → Result Asked LineFault
task_named None = Err fault.Command
task_named (Some command) = task_of (verb_in command.0) (values_in command.1)

-- nothing is asked where a fault is found
abbrev pub task_unless : Kinds → Result Asked LineFault → Option Asked
task_unless [] asked = result_ok asked
task_unless (fault ∷ faults) asked = None

-- the task that the words ask for, where they keep to the program's commands
unfoldable pub task_in : List Text → Option Asked
task_in words = task_unless (fault_of goo_app words) (task_named (subcommand_of goo_app words))

-- a fault stands where there is no task, memory aside
abbrev pub NoTask : Option Asked → LineFault → Type 0
NoTask asked fault.Memory = Unit {0}
NoTask asked (fault.Words error) = asked ≡ None
NoTask asked fault.Command = asked ≡ None
NoTask asked fault.NoPlace = asked ≡ None
NoTask asked fault.TwoPlaces = asked ≡ None
NoTask asked fault.NotNew = asked ≡ None
NoTask asked (fault.Missing setting) = asked ≡ None
NoTask asked (fault.Wrong setting) = asked ≡ None

-- Which fault is told: where words break the program's rules, the parser's own of one of these kinds, and else what the command lacks.
-- Memory can fail at any time.
abbrev pub TellsFault : Kinds → Result Asked LineFault → LineFault → Type 0
TellsFault [] asked told = (told ≡ fault.Memory) ⊎ (asked ≡ Err told)
TellsFault (kind ∷ kinds) asked told = (told ≡ fault.Memory) ⊎ ((error : Error) × (told ≡ fault.Words error) × IsAmong (kind_of error) (kind ∷ kinds))

unfoldable pub FaultIn : List Text → LineFault → Type 0
FaultIn words = TellsFault (fault_of goo_app words) (task_named (subcommand_of goo_app words))
