use Rattle.std.proofs.Common.{◌≡◌, rules, subst, List}
use Rattle.sqlite.specs.Held.{state}
use Rattle.sqlite.proofs.StateLemmas.{survives_weaker}
use Rattle.goo_tables_rows.specs.Stands.{IsSettled}
use Rattle.goo_tables_rows.proofs.Results.{whenever}
use Rattle.goo_store_anew.specs.Answered.{AreAnswers}
use Rattle.goo_store_anew.specs.declared.answers.Answer.{Answer}
use Rattle.goo_store_adoption.specs.Judged.{count_of, IsRegistry, HoldSame}
use Rattle.goo_store_adoption.proofs.Adopted.{rests_all, rests_both, survives_looks, held_before, same_now, survives_adoption}
use Rattle.goo_store_adoption.proofs.adopting.adopt.Goals as goal

pub returns-in-Ok-clause-same : goal.returns-in-Ok-clause-same
returns-in-Ok-clause-same g c clean =
    let a = state g.S.Store c.args.conn.now in
    let b = state g.S.Store c.find_layout.new.conn in
    let d = state g.S.Store c.keep_tables.new.conn in
    let e = state g.S.Store c.write_anew.new.conn in
    let settled : IsSettled a = c.is_autocommit-settled.ensures.settled (search rules) in
    let lent : c.in_ok-kept.kept.answers.items ≡ c.deref.result.now = search rules in
    same_now a b d settled c.find_layout.ensures.survives c.find_layout.ensures.rests c.keep_tables.ensures.survives c.keep_tables.ensures.rests e c.deref.result.now c.write_anew.ensures.crash c.in_ok-layout.layout c.in_ok-kept.ensures.works
    (λ late before. subst (λ (xs : List Answer). AreAnswers (count_of c.in_ok-layout.layout) b.now xs) lent (c.in_ok-kept.ensures.told late before)) (subst (IsRegistry c.in_ok-layout.layout) lent c.in_ok-kept.ensures.judged) clean (c.in-Ok.ensures.done clean)

pub returns-in-Ok-clause-judged : goal.returns-in-Ok-clause-judged
returns-in-Ok-clause-judged g c clean =
    let a = state g.S.Store c.args.conn.now in
    let b = state g.S.Store c.find_layout.new.conn in
    let d = state g.S.Store c.keep_tables.new.conn in
    let e = state g.S.Store c.write_anew.new.conn in
    let settled : IsSettled a = c.is_autocommit-settled.ensures.settled (search rules) in
    let lent : c.in_ok-kept.kept.answers.items ≡ c.deref.result.now = search rules in
    held_before a b d settled c.find_layout.ensures.survives c.find_layout.ensures.rests c.keep_tables.ensures.survives c.keep_tables.ensures.rests e c.deref.result.now c.write_anew.ensures.crash c.in_ok-layout.layout c.in_ok-kept.ensures.works
    (λ late before. subst (λ (xs : List Answer). AreAnswers (count_of c.in_ok-layout.layout) b.now xs) lent (c.in_ok-kept.ensures.told late before)) (subst (IsRegistry c.in_ok-layout.layout) lent c.in_ok-kept.ensures.judged) clean

pub returns-in-Ok-clause-crash : goal.returns-in-Ok-clause-crash
returns-in-Ok-clause-crash g c =
    let a = state g.S.Store c.args.conn.now in
    let b = state g.S.Store c.find_layout.new.conn in
    let d = state g.S.Store c.keep_tables.new.conn in
    let e = state g.S.Store c.write_anew.new.conn in
    let settled : IsSettled a = c.is_autocommit-settled.ensures.settled (search rules) in
    let lent : c.in_ok-kept.kept.answers.items ≡ c.deref.result.now = search rules in
    survives_adoption a b d settled c.find_layout.ensures.survives c.find_layout.ensures.rests c.keep_tables.ensures.survives c.keep_tables.ensures.rests e c.deref.result.now c.write_anew.ensures.crash c.in_ok-layout.layout c.in_ok-kept.ensures.works
    (λ late before. subst (λ (xs : List Answer). AreAnswers (count_of c.in_ok-layout.layout) b.now xs) lent (c.in_ok-kept.ensures.told late before)) (subst (IsRegistry c.in_ok-layout.layout) lent c.in_ok-kept.ensures.judged)

pub returns-clause-crash : goal.returns-clause-crash
returns-clause-crash g c =
    let a = state g.S.Store c.args.conn.now in
    let b = state g.S.Store c.find_layout.new.conn in
    let d = state g.S.Store c.keep_tables.new.conn in
    let e = state g.S.Store c.write_anew.new.conn in
    let settled : IsSettled a = c.is_autocommit-settled.ensures.settled (search rules) in
    let lent : c.in_ok-kept.kept.answers.items ≡ c.deref.result.now = search rules in
    survives_adoption a b d settled c.find_layout.ensures.survives c.find_layout.ensures.rests c.keep_tables.ensures.survives c.keep_tables.ensures.rests e c.deref.result.now c.write_anew.ensures.crash c.in_ok-layout.layout c.in_ok-kept.ensures.works
    (λ late before. subst (λ (xs : List Answer). AreAnswers (count_of c.in_ok-layout.layout) b.now xs) lent (c.in_ok-kept.ensures.told late before)) (subst (IsRegistry c.in_ok-layout.layout) lent c.in_ok-kept.ensures.judged)

pub returns-clause-kept : goal.returns-clause-kept
returns-clause-kept g c clean =
    let a = state g.S.Store c.args.conn.now in
    let b = state g.S.Store c.find_layout.new.conn in
    let d = state g.S.Store c.keep_tables.new.conn in
    let e = state g.S.Store c.write_anew.new.conn in
    let settled : IsSettled a = c.is_autocommit-settled.ensures.settled (search rules) in
    rests_all a b d settled c.find_layout.ensures.survives c.find_layout.ensures.rests c.keep_tables.ensures.survives c.keep_tables.ensures.rests e c.deref.result.now c.write_anew.ensures.crash clean (c.in-Err.ensures.kept clean)

pub returns-in_err-kept-clause-kept : goal.returns-in_err-kept-clause-kept
returns-in_err-kept-clause-kept g c clean =
    let a = state g.S.Store c.args.conn.now in
    let settled : IsSettled a = c.is_autocommit-settled.ensures.settled (search rules) in
    whenever c.from_residual-in_err-kept.result
    (rests_both a (state g.S.Store c.find_layout.new.conn) (state g.S.Store c.keep_tables.new.conn) settled c.find_layout.ensures.survives c.find_layout.ensures.rests c.keep_tables.ensures.survives c.keep_tables.ensures.rests clean)

pub returns-in_err-kept-clause-crash : goal.returns-in_err-kept-clause-crash
returns-in_err-kept-clause-crash g c =
    let a = state g.S.Store c.args.conn.now in
    let d = state g.S.Store c.keep_tables.new.conn in
    let settled : IsSettled a = c.is_autocommit-settled.ensures.settled (search rules) in
    survives_weaker a d (λ _. ⊥) (HoldSame a.now) (λ _ db none. absurd none)
    (survives_looks a (state g.S.Store c.find_layout.new.conn) d settled c.find_layout.ensures.survives c.find_layout.ensures.rests c.keep_tables.ensures.survives c.keep_tables.ensures.rests)
