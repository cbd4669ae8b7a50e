use Rattle.std.proofs.Common.{rules, ◌≡◌, ◌∙◌, false, ap, inl, inr, sym, true≢false, IsTrue}
use Rattle.sqlite.specs.Held.{state as view}
use Rattle.sqlite.specs.State.{HasCleanDisk}
use Rattle.goo_tables_rows.specs.Columns.{first_schema, registry_schema}
use Rattle.goo_spec_tables.specs.States.{state_of}
use Rattle.goo_store_open.specs.Reading.{IsMet}
use Rattle.goo_store_open.specs.declared.layout.Layout.TheVariants.{Ours}
use Rattle.goo_store_judge.specs.Holding.{is_sure, sure}
use Rattle.goo_store_judge.proofs.Judging.{met_ours, opened_well, opened_state, opened_kept}
use Rattle.goo_store_opening.proofs.HeldLemmas.{held_ours}
use Rattle.goo_store_opening.proofs.FirstTables.{first_not_ours, met_first}
use Rattle.goo_store_opening.proofs.Reopened.{listed_again, found_again, outside_again}
use Rattle.goo_store_opening.proofs.FirstRenewed.{first_up_to_date, first_not_opened}
use Rattle.goo_store_opening.proofs.up_to_date.bring_up_to_date.Goals as goal

-- ---- tables of version 1

pub renew-requires-clause-met : goal.renew-requires-clause-met
renew-requires-clause-met g c clean =
    let out : IsTrue c.is_autocommit-settled.result = search rules in
    let is : IsTrue c.has_first_schema.result = search rules in
    let schema : (view g.S.Store c.args.conn.now).now.schema ≡ first_schema = c.has_first_schema.ensures.schema.0 is in
    met_first (view g.S.Store c.args.conn.now) schema (λ live. c.has_first_schema.ensures.first is live (c.requires.ordered (is_sure (view g.S.Store c.args.conn.now) clean live))) (c.is_autocommit-settled.ensures.settled out)

pub returns-then-has_first_schema-clause-up_to_date : goal.returns-then-has_first_schema-clause-up_to_date
returns-then-has_first_schema-clause-up_to_date g c =
    let is : IsTrue c.has_first_schema.result = search rules in
    let old = view g.S.Store c.args.conn.now in
    let new = view g.S.Store c.renew.new.conn in
    let schema : old.now.schema ≡ first_schema = c.has_first_schema.ensures.schema.0 is in
    first_up_to_date old new (λ was. (c.schema-known.ensures.live was).0) schema c.renew.result c.renew.ensures

pub returns-then-has_first_schema-clause-not_opened : goal.returns-then-has_first_schema-clause-not_opened
returns-then-has_first_schema-clause-not_opened g c =
    let is : IsTrue c.has_first_schema.result = search rules in
    let old = view g.S.Store c.args.conn.now in
    let new = view g.S.Store c.renew.new.conn in
    let schema : old.now.schema ≡ first_schema = c.has_first_schema.ensures.schema.0 is in
    first_not_opened old new (λ was. (c.schema-known.ensures.live was).0) schema c.renew.result c.renew.ensures

-- ---- other tables

pub returns-then-not-has_our_schema-clause-not_opened : goal.returns-then-not-has_our_schema-clause-not_opened
returns-then-not-has_our_schema-clause-not_opened g c =
    let no : c.has_our_schema.result ≡ false = search rules in
    let never : ((view g.S.Store c.args.conn.now).now.schema ≡ registry_schema) → ⊥ = λ ours. true≢false (sym (c.has_our_schema.ensures.schema.1 ours) ∙ no) in
    record {
      refused = λ clean unlimited t stands kept. absurd (never stands.schema);
      words = λ clean unlimited t stands. absurd (never stands.schema);
      old_words = search rules;
      version = search rules;
      blames = λ ours. absurd (never ours);
      unchanged = search rules;
      clean_before = search rules;
      crash = search rules;
      left = search rules;
      never_foreign = λ was unlimited s t either clean. absurd (listed_again (view g.S.Store c.args.conn.now).now (c.schema-known.ensures.live was).0 s t either never);
    }

-- ---- tables of ours

pub returns-in-Ok-clause-up_to_date : goal.returns-in-Ok-clause-up_to_date
returns-in-Ok-clause-up_to_date g c =
    let out : IsTrue c.is_autocommit-settled.result = search rules in
    let is_ours : IsTrue c.has_our_schema.result = search rules in
    let met : HasCleanDisk (view g.S.Store c.args.conn.now) → IsMet Ours (view g.S.Store c.args.conn.now) = λ clean. met_ours (view g.S.Store c.args.conn.now) (c.has_our_schema.ensures.schema.0 is_ours) (λ live. c.has_our_schema.ensures.ours is_ours live (c.requires.ordered (is_sure (view g.S.Store c.args.conn.now) clean live))) (c.is_autocommit-settled.ensures.settled out) in
    let schema = c.has_our_schema.ensures.schema.0 is_ours in
    let judged = c.in-Ok.ensures.judges in
    let old = view g.S.Store c.args.conn.now in
    let new = view g.S.Store c.judge.new.conn in
    record {
      state = λ t stands. opened_state _ old new c.in-Ok._pieces judged met t stands;
      same_state = λ t first. absurd (first_not_ours old.now first.0 schema);
      held = λ none.
          let it = judged.kept (sure new none).0 (met (judged.clean (sure new none).0)) in
          opened_state _ old new c.in-Ok._pieces judged met it.0 it.1 none ∙ ap state_of (held_ours old.now it.0 it.1 it.2);
      kept = λ t stands clean. opened_kept _ old new c.in-Ok._pieces judged met t stands clean;
      rests = λ other clean. judged.rests clean (met (judged.clean clean));
      renewed = λ t first. absurd (first_not_ours old.now first.0 schema);
      clean = judged.clean;
      works = judged.works;
      well = λ _. opened_well _ old new c.in-Ok._pieces judged met;
      again = λ was s t either none.
          let it = judged.kept (sure new none).0 (met (judged.clean (sure new none).0)) in
          let same = opened_state _ old new c.in-Ok._pieces judged met it.0 it.1 none in
          elim (found_again old.now (c.schema-known.ensures.live was).0 s t either it.0 it.1 it.2) [ inl is ↦ inl (same ∙ is) | inr is ↦ inr (same ∙ is) ];
    }

pub returns-in-Err-clause-not_opened : goal.returns-in-Err-clause-not_opened
returns-in-Err-clause-not_opened g c =
    let out : IsTrue c.is_autocommit-settled.result = search rules in
    let is_ours : IsTrue c.has_our_schema.result = search rules in
    let met : HasCleanDisk (view g.S.Store c.args.conn.now) → IsMet Ours (view g.S.Store c.args.conn.now) = λ clean. met_ours (view g.S.Store c.args.conn.now) (c.has_our_schema.ensures.schema.0 is_ours) (λ live. c.has_our_schema.ensures.ours is_ours live (c.requires.ordered (is_sure (view g.S.Store c.args.conn.now) clean live))) (c.is_autocommit-settled.ensures.settled out) in
    let schema = c.has_our_schema.ensures.schema.0 is_ours in
    let judged = c.in-Err.ensures.judges in
    let still : HasCleanDisk (view g.S.Store c.judge.new.conn) → IsMet Ours (view g.S.Store c.args.conn.now) = λ clean. met (judged.clean clean) in
    record {
      refused = λ clean unlimited t stands kept. judged.right clean (still clean) unlimited t stands kept;
      words = λ clean unlimited t stands. judged.words clean (still clean) unlimited t stands;
      old_words = λ clean unlimited t first. absurd (first_not_ours (view g.S.Store c.args.conn.now).now first.0 schema);
      version = λ other. absurd (other schema);
      blames = λ ours. judged.blames still;
      unchanged = λ clean. judged.rests clean (still clean);
      clean_before = judged.clean;
      crash = λ other clean db may. judged.crash clean (still clean) db may;
      left = λ clean db may. inl (judged.crash clean (still clean) db may);
      never_foreign = λ was unlimited s t either clean. outside_again (view g.S.Store c.args.conn.now).now (c.schema-known.ensures.live was).0 s t either c.in-Err.fault
          (λ u stands kept. judged.right clean (still clean) unlimited u stands kept);
    }
