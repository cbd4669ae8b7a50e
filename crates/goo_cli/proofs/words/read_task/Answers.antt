use Rattle.std.proofs.Common.{◌≡◌, ap, map, true}
use Rattle.clap.specs.Words.{App, app_of, is_simple, is_simple_and_free, subcommand_rows_of}
use Rattle.goo_cli.specs.Line.{goo_app, init_app, run_app, declare_app, statement_app, audit_app, serve_app, task_named}
use Rattle.goo_cli.proofs.Parsing.{task-taken, task-refused, task-given, no-task-given, fault-refused, fault-given, fault-out_of_memory}
use Rattle.goo_cli.proofs.words.read_task.Goals as goal

simple : (a : App) → a ≡ goo_app → is_simple a ≡ true
unfolding goo_app init_app run_app declare_app statement_app audit_app serve_app
simple a same = ap is_simple same

free : (a : App) → a ≡ goo_app → is_simple_and_free a ≡ true
unfolding goo_app init_app run_app declare_app statement_app audit_app serve_app
free a same = ap is_simple_and_free same

pub returns-in_err-matches-clause-none : goal.returns-in_err-matches-clause-none
returns-in_err-matches-clause-none g c =
    let a = app_of c.in_ok-program_command.field-0 in
    let same : a ≡ goo_app = c.in_ok-program_command.ensures in
    task-refused a (map g.S.AsStr.text c.args.words.now) c.in_err-matches.field-0.0 c.from_residual-in_err-matches.result same
    (c.in_err-matches.ensures.kinds (free a same)) c.from_residual-in_err-matches.ensures.1

pub returns-clause-task : goal.returns-clause-task
returns-clause-task g c =
    let a = app_of c.in_ok-program_command.field-0 in
    let same : a ≡ goo_app = c.in_ok-program_command.ensures in
    let asked = task-taken a (map g.S.AsStr.text c.args.words.now) c.in_ok-matches.matches same (c.in_ok-matches.ensures.kinds (free a same)) c.in_ok-matches.ensures.matches (simple a same) in
    rw asked (task-given (task_named (subcommand_rows_of c.in_ok-matches.matches)) c.task_named.result c.task_named.ensures)

pub returns-clause-none : goal.returns-clause-none
returns-clause-none g c =
    let a = app_of c.in_ok-program_command.field-0 in
    let same : a ≡ goo_app = c.in_ok-program_command.ensures in
    let asked = task-taken a (map g.S.AsStr.text c.args.words.now) c.in_ok-matches.matches same (c.in_ok-matches.ensures.kinds (free a same)) c.in_ok-matches.ensures.matches (simple a same) in
    rw asked (no-task-given (task_named (subcommand_rows_of c.in_ok-matches.matches)) c.task_named.result c.task_named.ensures)

pub returns-in_err-matches-clause-told : goal.returns-in_err-matches-clause-told
returns-in_err-matches-clause-told g c =
    let a = app_of c.in_ok-program_command.field-0 in
    let same : a ≡ goo_app = c.in_ok-program_command.ensures in
    fault-refused a (map g.S.AsStr.text c.args.words.now) c.in_err-matches.field-0.0 c.from_residual-in_err-matches.result same
    (c.in_err-matches.ensures.kinds (free a same)) c.from_residual-in_err-matches.ensures.1

pub returns-clause-told : goal.returns-clause-told
returns-clause-told g c =
    let a = app_of c.in_ok-program_command.field-0 in
    let same : a ≡ goo_app = c.in_ok-program_command.ensures in
    fault-given a (map g.S.AsStr.text c.args.words.now) c.in_ok-matches.matches c.task_named.result same
    (c.in_ok-matches.ensures.kinds (free a same)) c.in_ok-matches.ensures.matches (simple a same) c.task_named.ensures

pub returns-in_err-program_command-clause-told : goal.returns-in_err-program_command-clause-told
returns-in_err-program_command-clause-told g c =
    fault-out_of_memory (map g.S.AsStr.text c.args.words.now) c.from_residual.result c.from_residual.ensures.1
