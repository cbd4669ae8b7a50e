use Rattle.std.proofs.Common.{inr, []}
use Rattle.sqlite.specs.Held.{state}
use Rattle.goo_tables_rows.proofs.Reading.{rests_failed}
use Rattle.goo_store_open.specs.Foreign.{version_text}
use Rattle.goo_store_open.proofs.Chaining.{no_more}
use Rattle.goo_store_open.proofs.Selecting.{version_bare, shown_rests, commits_nothing}
use Rattle.goo_store_open.proofs.foreign.ask_version.Goals as goal

pub returns-in-Ok-clause-rests : goal.returns-in-Ok-clause-rests
returns-in-Ok-clause-rests g c = λ clean settled.
    let old = state g.S.Store c.args.conn.now in
    let new = state g.S.Store c.query_all.new.self in
    shown_rests version_text [] old new (version_bare old.now.schema) _ (c.in-Ok.ensures.ok clean)

pub returns-in-Ok-clause-crash : goal.returns-in-Ok-clause-crash
returns-in-Ok-clause-crash g c =
    let old = state g.S.Store c.args.conn.now in
    let new = state g.S.Store c.query_all.new.self in
    no_more old new (commits_nothing version_text [] old new (version_bare old.now.schema) c.in-Ok.ensures.survives)

pub returns-in-Err-clause-told : goal.returns-in-Err-clause-told
returns-in-Err-clause-told g c = λ clean. inr (c.in-Err.error, c.in-Err.ensures.err clean, c.fault_of.ensures.told)

pub returns-in-Err-clause-rests : goal.returns-in-Err-clause-rests
returns-in-Err-clause-rests g c = λ clean settled.
    let old = state g.S.Store c.args.conn.now in
    let new = state g.S.Store c.query_all.new.self in
    rests_failed version_text [] old new c.in-Err.error settled (c.in-Err.ensures.err clean)

pub returns-in-Err-clause-crash : goal.returns-in-Err-clause-crash
returns-in-Err-clause-crash g c =
    let old = state g.S.Store c.args.conn.now in
    let new = state g.S.Store c.query_all.new.self in
    no_more old new (commits_nothing version_text [] old new (version_bare old.now.schema) c.in-Err.ensures.survives)
