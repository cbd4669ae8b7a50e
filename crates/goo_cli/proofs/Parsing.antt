-- What the matches of a parse state.
use Rattle.std.proofs.Common.{◌≡◌, ap, refl, sym, true, List, [], ◌∷◌, codes, inl, inr, Option, Some, None, option_map, Result, Ok, Err, IsErrAnd, IfOk, IfErr, ◌∙◌}
use Rattle.std.specs.Result.{result_ok}
use Rattle.clap.specs.Words.{App, HasKind, HasMatchesOf, is_simple, IsAmong, Kinds, Text, fault_of, first_value, found_of, kind_of, rows_of, subcommand_of}
use Rattle.std.specs.Box.{box_value}
use Rattle.clap.specs.Words.{subcommand_name_of, subcommand_rows_of}
use Rattle.clap.specs.declared.error.Error.{Error}
use Rattle.clap.specs.declared.error.kind.ErrorKind.{ErrorKind}
use Rattle.clap.specs.declared.parser.matches.ArgMatches.{ArgMatches}
use Rattle.clap.specs.declared.parser.matches.ArgMatches.TheViews.{out-ArgMatches, out-SubCommand}
use Rattle.goo_cli.specs.Faults.{TellsWords}
use Rattle.clap.specs.declared.parser.matches.Found.{Found}
use Rattle.clap.proofs.WalkLemmas.{first_value-rows}
use Rattle.goo_cli.specs.Asked.{Asked, asked, asked_by}
use Rattle.goo_cli.specs.Options.{Values, values_in, is_set}
use Rattle.goo_cli.specs.Verbs.{verb_in}
use Rattle.goo_cli.specs.Line.{goo_app, task_in, task_named, task_of, task_unless, FaultIn, NoTask, TellsFault}
use Rattle.goo_cli.specs.declared.task.Invocation.{Invocation}
use Rattle.goo_cli.specs.declared.line_fault.LineFault.{LineFault}
use Rattle.goo_cli.specs.declared.line_fault.LineFault.TheVariants as fault

abbrev pub values_found : Found → Values
values_found f = record {
  file = first_value f (codes "db");
  is_in_memory = is_set (first_value f (codes "memory"));
  code = first_value f (codes "code");
  today = first_value f (codes "today");
  next_serial = first_value f (codes "next-serial");
  account = first_value f (codes "account");
  port = first_value f (codes "port");
  count = first_value f (codes "count");
}

pub values-read : (f : Found) → values_in (rows_of f) ≡ values_found f
unfolding values_in
values-read f = rw (
  first_value-rows f (codes "db"),
  first_value-rows f (codes "memory"),
  first_value-rows f (codes "code"),
  first_value-rows f (codes "today"),
  first_value-rows f (codes "next-serial"),
  first_value-rows f (codes "account"),
  first_value-rows f (codes "port"),
  first_value-rows f (codes "count"),
) refl

-- two views of one value that may be missing
pub both-views : {B X Y : Type 0} (f : B → X) (g : B → Y) (o : Option B) (x : X) (y : Y) → Some x ≡ option_map f o → Some y ≡ option_map {T = X × Y} (λ p. p.1) (option_map {U = X × Y} (λ b. (f b, g b)) o) → option_map {U = X × Y} (λ b. (f b, g b)) o ≡ Some (x, y)
both-views f g None x y p q = cc p
both-views f g (Some b) x y p q = cc (p, q)

-- the task of a command by what the getters of its matches give
pub command-named : (m : ArgMatches) (name : Text) (f : Found) → Some name ≡ subcommand_name_of m → Some (rows_of f) ≡ option_map (λ p. p.1) (subcommand_rows_of m)
    → task_named (subcommand_rows_of m) ≡ task_of (verb_in name) (values_in (rows_of f))
command-named m name f named rows =
    let whole : subcommand_rows_of m ≡ Some (name, rows_of f) = both-views (λ b. (out-SubCommand (box_value b)).name.now) (λ b. rows_of (found_of (out-SubCommand (box_value b)).matches)) (out-ArgMatches m).subcommand name (rows_of f) named rows in
    ap task_named whole

-- the words are the program's, so the task is that of their command
taken : (kinds : Kinds) (told : Result Asked LineFault) → kinds ≡ [] → task_unless kinds told ≡ result_ok told
taken [] told e = refl
taken (k ∷ kinds) told e = cc e

pub task-taken : (a : App) (words : List Text) (m : ArgMatches) → a ≡ goo_app → fault_of a words ≡ [] → HasMatchesOf a words m → is_simple a ≡ true → task_in words ≡ result_ok (task_named (subcommand_rows_of m))
unfolding task_in
task-taken a words m same kinds found simple =
    let rows = (found simple).1 in
    taken (fault_of goo_app words) (task_named (subcommand_of goo_app words)) (rw same at kinds) ∙ ap (λ named. result_ok (task_named named)) (sym (rw same at rows))

-- words that are not the program's ask for no task
refused : (kinds : Kinds) (told : Result Asked LineFault) (k : ErrorKind) → IsAmong k kinds → task_unless kinds told ≡ None
refused [] told k among = absurd among
refused (first ∷ kinds) told k among = refl

task-told : (words : List Text) (e : Error) (told : LineFault) → HasKind (fault_of goo_app words) e → TellsWords e told → NoTask (task_in words) told
unfolding task_in
task-told words e told kinds (inl memory) = rw memory.1 tt
task-told words e told (inl memory) (inr text) = absurd (text.0 memory)
task-told words e told (inr among) (inr text) = rw text.1 (refused (fault_of goo_app words) (task_named (subcommand_of goo_app words)) (kind_of e) among)

pub task-refused : (a : App) (words : List Text) (e : Error) (r : Result Invocation LineFault) → a ≡ goo_app → HasKind (fault_of a words) e → IsErrAnd r (TellsWords e) → IfErr r (NoTask (task_in words))
task-refused a words e (Ok task) same kinds tells = tt
task-refused a words e (Err told) same kinds tells = task-told words e told (rw same at kinds) tells

-- a task, or a fault, by what the words ask for
pub task-given : (wanted : Result Asked LineFault) (r : Result Invocation LineFault) → asked r ≡ wanted → IfOk r (λ task. result_ok wanted ≡ Some (asked_by task))
task-given wanted (Ok task) e = sym (ap result_ok e)
task-given wanted (Err fault) e = tt

no-task : (given : Option Asked) (told : LineFault) → None ≡ given → NoTask given told
no-task given fault.Memory e = tt
no-task given (fault.Words error) e = sym e
no-task given fault.Command e = sym e
no-task given fault.NoPlace e = sym e
no-task given fault.TwoPlaces e = sym e
no-task given fault.NotNew e = sym e
no-task given (fault.Missing setting) e = sym e
no-task given (fault.Wrong setting) e = sym e

pub no-task-given : (wanted : Result Asked LineFault) (r : Result Invocation LineFault) → asked r ≡ wanted → IfErr r (NoTask (result_ok wanted))
no-task-given wanted (Ok task) e = tt
no-task-given wanted (Err told) e = no-task (result_ok wanted) told (ap result_ok e)

-- the fault that is told
words-told : (kinds : Kinds) (wanted : Result Asked LineFault) (e : Error) (told : LineFault) → HasKind kinds e → TellsWords e told → TellsFault kinds wanted told
words-told [] wanted e told kind (inl memory) = inl memory.1
words-told (k ∷ kinds) wanted e told kind (inl memory) = inl memory.1
words-told [] wanted e told (inl memory) (inr text) = absurd (text.0 memory)
words-told (k ∷ kinds) wanted e told (inl memory) (inr text) = absurd (text.0 memory)
words-told [] wanted e told (inr among) (inr text) = absurd among
words-told (k ∷ kinds) wanted e told (inr among) (inr text) = inr (e, text.1, among)

pub fault-refused : (a : App) (words : List Text) (e : Error) (r : Result Invocation LineFault) → a ≡ goo_app → HasKind (fault_of a words) e → IsErrAnd r (TellsWords e) → IfErr r (FaultIn words)
unfolding FaultIn
fault-refused a words e (Ok task) same kinds tells = tt
fault-refused a words e (Err told) same kinds tells = words-told (fault_of goo_app words) (task_named (subcommand_of goo_app words)) e told (rw same at kinds) tells

command-told : (kinds : Kinds) (wanted : Result Asked LineFault) (r : Result Invocation LineFault) → kinds ≡ [] → asked r ≡ wanted → IfErr r (TellsFault kinds wanted)
command-told kinds wanted (Ok task) none e = tt
command-told [] wanted (Err told) none e = inr (sym e)
command-told (k ∷ kinds) wanted (Err told) none e = absurd (cc none)

pub fault-given : (a : App) (words : List Text) (m : ArgMatches) (r : Result Invocation LineFault) → a ≡ goo_app → fault_of a words ≡ [] → HasMatchesOf a words m → is_simple a ≡ true → asked r ≡ task_named (subcommand_rows_of m) → IfErr r (FaultIn words)
unfolding FaultIn
fault-given a words m r same kinds found simple e =
    let rows = (found simple).1 in
    command-told (fault_of goo_app words) (task_named (subcommand_of goo_app words)) r (rw same at kinds) (e ∙ ap task_named (rw same at rows))

-- want of memory is told as such
pub memory-told : (kinds : Kinds) (wanted : Result Asked LineFault) → TellsFault kinds wanted fault.Memory
memory-told [] wanted = inl refl
memory-told (k ∷ kinds) wanted = inl refl

pub fault-out_of_memory : (words : List Text) (r : Result Invocation LineFault) → IsErrAnd r (λ told. told ≡ fault.Memory) → IfErr r (FaultIn words)
unfolding FaultIn
fault-out_of_memory words (Ok task) told = tt
fault-out_of_memory words (Err told) e = rw e (memory-told (fault_of goo_app words) (task_named (subcommand_of goo_app words)))
