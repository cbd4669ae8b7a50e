use Rattle.std.proofs.Common.{rules, ◌≡◌, false, true, IsTrue, sym, subst, ◌∙◌, true≢false}
use Rattle.std.specs.List.{list_all}
use Rattle.sqlite.specs.Held.{state as view}
use Rattle.goo_spec_tables.specs.Readable.{is_piece}
use Rattle.goo_store_rules.specs.Rules.{KeepsRules}
use Rattle.goo_store_rules.proofs.AllRules.{rules_are_those}
use Rattle.goo_store_judge.proofs.Judging.{judged_right, judged_wrong, not_judged, good_pieces}
use Rattle.goo_store_judge.proofs.judge.judge.Goals as goal

pub returns-in-Ok-true-clause-judges : goal.returns-in-Ok-true-clause-judges
returns-in-Ok-true-clause-judges g c =
    let is : IsTrue c.in-Ok-true.field-0 = search rules in
    judged_right rules_are_those c.args.layout (view g.S.Store c.args.conn.now) (view g.S.Store c.find_tables.new.conn) _ c.in-Ok.found c.in-Ok.ensures c.pieces_of.result (subst (λ n. KeepsRules n c.in-Ok.found) c.version.ensures (c.in-Ok-true.ensures.0 is))
    (λ t of. subst (λ ps. ps.items ≡ t.pieces) (sym c.pieces_of.ensures) of.pieces)

pub returns-in-Ok-true-clause-readable : goal.returns-in-Ok-true-clause-readable
returns-in-Ok-true-clause-readable g c =
    let is : IsTrue c.in-Ok-true.field-0 = search rules in
    subst (λ ps. list_all is_piece ps.items ≡ true) (sym c.pieces_of.ensures) (good_pieces c.in-Ok.found (c.in-Ok-true.ensures.0 is).values.values)

pub returns-in-Ok-false-clause-judges : goal.returns-in-Ok-false-clause-judges
returns-in-Ok-false-clause-judges g c =
    let no : c.in-Ok-false.field-0 ≡ false = search rules in
    judged_wrong rules_are_those c.args.layout (view g.S.Store c.args.conn.now) (view g.S.Store c.find_tables.new.conn) _ c.in-Ok.found c.in-Ok.ensures
    (λ keeps. true≢false (sym (c.in-Ok-false.ensures.1 (subst (λ n. KeepsRules n c.in-Ok.found) (sym c.version.ensures) keeps)) ∙ no))

pub returns-in-Err-clause-judges : goal.returns-in-Err-clause-judges
returns-in-Err-clause-judges g c = not_judged rules_are_those c.args.layout (view g.S.Store c.args.conn.now) (view g.S.Store c.find_tables.new.conn) _ c.in-Err.fault c.in-Err.ensures
