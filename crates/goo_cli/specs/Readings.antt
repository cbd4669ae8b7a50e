-- The task of a command with its options.
use Rattle.std.specs.Prelude.{ℕ, Bool, true, false, is_some, ◌||◌, Option, Some, None, Result, Ok, Err, ok_or, if◌then◌else◌}
use Rattle.std.specs.Result.{result_ok}
use Rattle.clap.specs.Words.{Text}
use Rattle.goo_types.specs.Day.{CalendarDay, day_reading}
use Rattle.goo_cli.specs.Values.{code_in, serial_in, account_in, port_in, count_in}
use Rattle.goo_cli.specs.Options.{Values}
use Rattle.goo_cli.specs.Asked.{Asked, Where, Init, Run, Declare, Statement, Audit, Serve, InMemory, InFile}
use Rattle.goo_cli.specs.declared.task.Opening.{Opening}
use Rattle.goo_cli.specs.declared.task.Serving.{Serving}
use Rattle.goo_cli.specs.declared.setting.Setting.{Setting}
use Rattle.goo_cli.specs.declared.setting.Setting.TheVariants as setting
use Rattle.goo_cli.specs.declared.verb.Verb.{Verb}
use Rattle.goo_cli.specs.declared.verb.Verb.TheVariants as verb
use Rattle.goo_cli.specs.declared.line_fault.LineFault.{LineFault}
use Rattle.goo_cli.specs.declared.line_fault.LineFault.TheVariants as fault

-- what an option gives, or the fault that tells of it: it is missing, or its value is none that it may have
abbrev pub reading : {T : Type 0} → Setting → (Text → Option T) → Option Text → Result T LineFault
reading name read None = Err (fault.Missing name)
reading name read (Some text) = ok_or (read text) (fault.Wrong name)

abbrev pub code_reading : Option Text → Result ℕ LineFault
code_reading = reading setting.Code code_in

abbrev pub today_reading : Option Text → Result CalendarDay LineFault
today_reading = reading setting.Today (λ text. result_ok (day_reading text))

-- the serial is 1 where none is given
abbrev pub serial_reading : Option Text → Result ℕ LineFault
serial_reading None = Ok 1
serial_reading (Some text) = ok_or (serial_in text) (fault.Wrong setting.NextSerial)

abbrev pub account_reading : Option Text → Result ℕ LineFault
account_reading = reading setting.Account account_in

abbrev pub port_reading : Option Text → Result ℕ LineFault
port_reading = reading setting.Port port_in

abbrev pub count_reading : Option Text → Result ℕ LineFault
count_reading = reading setting.Count count_in

-- a new registry by its code, its date and its next serial; the first of them that is at fault is told
abbrev pub opening_of : Result ℕ LineFault → Result CalendarDay LineFault → Result ℕ LineFault → Result Opening LineFault
opening_of (Err reason) today next_serial = Err reason
opening_of (Ok code) (Err reason) next_serial = Err reason
opening_of (Ok code) (Ok today) (Err reason) = Err reason
opening_of (Ok code) (Ok today) (Ok next_serial) = Ok (record { code = code; today = today; next_serial = next_serial })

abbrev pub opening_given : Values → Result Opening LineFault
opening_given v = opening_of (code_reading v.code) (today_reading v.today) (serial_reading v.next_serial)

abbrev pub names_opening : Values → Bool
names_opening v = is_some v.code || is_some v.today || is_some v.next_serial

-- the records are in one place, and what a new registry begins with is given for one in memory alone
abbrev pub place_by : Option Text → Bool → Bool → Result Opening LineFault → Result Where LineFault
place_by None false opens opening = Err fault.NoPlace
place_by None true opens (Ok opening) = Ok (InMemory opening)
place_by None true opens (Err reason) = Err reason
place_by (Some file) true opens opening = Err fault.TwoPlaces
place_by (Some file) false true opening = Err fault.NotNew
place_by (Some file) false false opening = Ok (InFile file)

abbrev pub place_given : Values → Result Where LineFault
place_given v = place_by v.file v.is_in_memory (names_opening v) (opening_given v)

abbrev pub serving_of : Result ℕ LineFault → Result ℕ LineFault → Result Serving LineFault
serving_of (Err reason) count = Err reason
serving_of (Ok port) (Err reason) = Err reason
serving_of (Ok port) (Ok count) = Ok (record { port = port; count = count })

abbrev pub serving_given : Values → Result Serving LineFault
serving_given v = serving_of (port_reading v.port) (count_reading v.count)

-- a task that needs a file and something else; the file is asked for first
abbrev pub with_file : {T : Type 0} → (Text → T → Asked) → Option Text → Result T LineFault → Result Asked LineFault
with_file task None given = Err (fault.Missing setting.File)
with_file task (Some file) (Ok given) = Ok (task file given)
with_file task (Some file) (Err reason) = Err reason

abbrev pub init_given : Values → Result Asked LineFault
init_given v = with_file Init v.file (opening_given v)

abbrev pub statement_given : Values → Result Asked LineFault
statement_given v = with_file Statement v.file (account_reading v.account)

abbrev pub of_file : (Text → Asked) → Option Text → Result Asked LineFault
of_file task None = Err (fault.Missing setting.File)
of_file task (Some file) = Ok (task file)

abbrev pub declare_given : Values → Result Asked LineFault
declare_given v = of_file Declare v.file

abbrev pub audit_given : Values → Result Asked LineFault
audit_given v = of_file Audit v.file

abbrev pub run_at : Result Where LineFault → Result Asked LineFault
run_at (Ok place) = Ok (Run place)
run_at (Err reason) = Err reason

abbrev pub run_given : Values → Result Asked LineFault
run_given v = run_at (place_given v)

abbrev pub serve_at : Result Serving LineFault → Result Where LineFault → Result Asked LineFault
serve_at (Err reason) place = Err reason
serve_at (Ok serving) (Err reason) = Err reason
serve_at (Ok serving) (Ok place) = Ok (Serve place serving)

abbrev pub serve_given : Values → Result Asked LineFault
serve_given v = serve_at (serving_given v) (place_given v)

abbrev pub task_by : Verb → Values → Result Asked LineFault
task_by verb.Init v = init_given v
task_by verb.Run v = run_given v
task_by verb.Declare v = declare_given v
task_by verb.Statement v = statement_given v
task_by verb.Audit v = audit_given v
task_by verb.Serve v = serve_given v
