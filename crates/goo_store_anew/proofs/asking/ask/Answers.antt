use Rattle.std.proofs.Common.{[], get_or, rules}
use Rattle.sqlite.specs.Held.{state}
use Rattle.goo_store_anew.specs.Questions.{question_texts}
use Rattle.goo_store_anew.proofs.Telling.{question_bare, told, opens, rests, commits_nothing, word}
use Rattle.goo_store_anew.proofs.asking.ask.Goals as goal

pub returns-clause-told : goal.returns-clause-told
returns-clause-told g c = λ clean.
    let old = state g.S.Store c.args.conn.now in
    let sql = get_or question_texts c.args.at [] in
    told sql old (state g.S.Store c.query_all.new.self) (question_bare old.now.schema c.args.at c.requires) c.query_all.result (rw (c.question.ensures) at (c.query_all.ensures.ok clean))

pub returns-clause-works : goal.returns-clause-works
returns-clause-works g c =
    let old = state g.S.Store c.args.conn.now in
    let sql = get_or question_texts c.args.at [] in
    search (rules, opens sql old (state g.S.Store c.query_all.new.self) (question_bare old.now.schema c.args.at c.requires) c.query_all.result, rw (c.question.ensures) at c.query_all.ensures.ok)

pub returns-clause-rests : goal.returns-clause-rests
returns-clause-rests g c = λ clean settled.
    let old = state g.S.Store c.args.conn.now in
    let sql = get_or question_texts c.args.at [] in
    rests sql old (state g.S.Store c.query_all.new.self) (question_bare old.now.schema c.args.at c.requires) c.query_all.result settled (rw (c.question.ensures) at (c.query_all.ensures.ok clean)) (rw (c.question.ensures) at (c.query_all.ensures.err clean))

pub returns-clause-survives : goal.returns-clause-survives
returns-clause-survives g c =
    let old = state g.S.Store c.args.conn.now in
    let sql = get_or question_texts c.args.at [] in
    commits_nothing sql old (state g.S.Store c.query_all.new.self) (question_bare old.now.schema c.args.at c.requires) (rw (c.question.ensures) at c.query_all.ensures.survives)

pub returns-clause-word : goal.returns-clause-word
returns-clause-word g c = λ clean.
    let old = state g.S.Store c.args.conn.now in
    let sql = get_or question_texts c.args.at [] in
    word sql old (state g.S.Store c.query_all.new.self) (question_bare old.now.schema c.args.at c.requires) c.query_all.result (rw (c.question.ensures) at (c.query_all.ensures.err clean))
