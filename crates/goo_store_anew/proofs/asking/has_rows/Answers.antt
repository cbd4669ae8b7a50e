use Rattle.std.proofs.Common.{◌≡◌, ◌∙◌, [], get_or, rules, subst}
use Rattle.sqlite.specs.Held.{state}
use Rattle.goo_store_anew.specs.Answered.{Answers}
use Rattle.goo_store_anew.specs.Questions.{question_texts}
use Rattle.goo_store_anew.proofs.Telling.{question_bare, tells, keeps, same_now}
use Rattle.goo_store_anew.proofs.asking.has_rows.Goals as goal

pub returns-clause-quiet : goal.returns-clause-quiet
returns-clause-quiet g c =
    let old = state g.S.Store c.args.tx.now.conn.now in
    let new = state g.S.Store c.query_all.new.self.conn.now in
    let sql = get_or question_texts c.args.at [] in
    record {
      uncommitted = λ clean. keeps sql old new (question_bare old.now.schema c.args.at c.requires) c.query_all.result (rw (c.question.ensures) at (c.query_all.ensures.ok clean)) (rw (c.question.ensures) at (c.query_all.ensures.err clean));
      survives = c.query_all.ensures.survives;
    }

pub returns-clause-stays : goal.returns-clause-stays
returns-clause-stays g c = λ clean.
    let old = state g.S.Store c.args.tx.now.conn.now in
    same_now (get_or question_texts c.args.at []) old (state g.S.Store c.query_all.new.self.conn.now) (question_bare old.now.schema c.args.at c.requires) c.in_ok-found.found.items (rw (c.question.ensures) at (c.in_ok-found.ensures.ok clean))

pub returns-clause-same : goal.returns-clause-same
returns-clause-same g c = λ clean it.
    let old = state g.S.Store c.args.tx.now.conn.now in
    let sql = get_or question_texts c.args.at [] in
    let found = tells sql old (state g.S.Store c.query_all.new.self.conn.now) (question_bare old.now.schema c.args.at c.requires) c.in_ok-found.found.items (rw (c.question.ensures) at (c.in_ok-found.ensures.ok clean)) in
    let lent : c.in_ok-found.found.items ≡ c.deref.result.now = search rules in
    subst (Answers old.now sql) (lent ∙ c.are_same.ensures it) found

pub returns-in_err-found-clause-quiet : goal.returns-in_err-found-clause-quiet
returns-in_err-found-clause-quiet g c =
    let old = state g.S.Store c.args.tx.now.conn.now in
    let new = state g.S.Store c.query_all.new.self.conn.now in
    let sql = get_or question_texts c.args.at [] in
    record {
      uncommitted = λ clean. keeps sql old new (question_bare old.now.schema c.args.at c.requires) c.query_all.result (rw (c.question.ensures) at (c.query_all.ensures.ok clean)) (rw (c.question.ensures) at (c.query_all.ensures.err clean));
      survives = c.query_all.ensures.survives;
    }
