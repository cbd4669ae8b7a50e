-- The replies that receipts state.
use Rattle.std.specs.Prelude.{ℕ, ◌==◌, ◌&&◌, cond, if◌then◌else◌, Option, Some, None}
use Rattle.goo_types.specs.Range.{Numbers}
use Rattle.goo_types.specs.declared.command.Command.{Command}
use Rattle.goo_types.specs.declared.reply.Reply.{Reply}
use Rattle.goo_types.specs.declared.reply.Reply.TheVariants.{Done, Account, Declared, Moved, Cancelled, Withdrawn, Advanced, Exported, Imported, Corrected}
use Rattle.goo_notice.specs.Law.{command_in}
use Rattle.goo_tables_rows.specs.Rows.{Receipt}
use Rattle.goo_spec_tables.specs.Records.{act_or_none}

-- the numbers issued, if any were
abbrev pub issued_of : ℕ → ℕ → Option Numbers
issued_of first last = cond ((first == 0) && (last == 0)) None (Some (record { first = first; last = last }))

-- 1 done, 2 an account, 3 a declaration, 4 moved, 5 cancelled, 6 withdrawn, 7 advanced, 8 exported, 9 imported, 10 corrected
abbrev pub reply_of : ℕ → ℕ → ℕ → ℕ → Reply
reply_of kind n1 n2 n3 =
    if kind == 2 then Account n1
    else (if kind == 3 then Declared n1 (issued_of n2 n3)
    else (if kind == 4 then Moved n1
    else (if kind == 5 then Cancelled n1 n2
    else (if kind == 6 then Withdrawn n1 n2
    else (if kind == 7 then Advanced n1
    else (if kind == 8 then Exported n1 n2
    else (if kind == 9 then Imported n1
    else (if kind == 10 then Corrected n1 n2 (act_or_none n3) else Done))))))))

-- what a receipt states: a command, where its bytes are the text of one, and a reply
abbrev pub receipt_of : Receipt → Option Command × Reply
receipt_of r = (command_in r.command, reply_of r.kind r.n1 r.n2 r.n3)
