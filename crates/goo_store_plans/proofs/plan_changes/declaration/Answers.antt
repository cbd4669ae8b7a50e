use Rattle.sqlite.specs.Held.{state}
use Rattle.goo_store_plans.proofs.LookUps.{looks_so}
use Rattle.std.proofs.Common.{◌≡◌, ℕ, Err, Option, subst, sym, ◌∙◌}
use Rattle.goo_types.specs.Range.{Numbers}
use Rattle.goo_types.specs.declared.reply.Reply.TheVariants.{Declared}
use Rattle.goo_store_plans.specs.Declaring.{CanBeDeclared}
use Rattle.goo_store_values.specs.declared.statement_fault.StatementFault.TheVariants.{Refused}
use Rattle.goo_store_plans.proofs.Refusing.{blames_none, blames_so}
use Rattle.goo_store_plans.proofs.plan_changes.declaration.Goals as goal

pub returns-in-Declared-clause-looks : goal.returns-in-Declared-clause-looks
returns-in-Declared-clause-looks g c =
    looks_so (state g.S.Store c.args.conn.now) (state g.S.Store c.declare_changes.new.conn) c.declare_changes.result _ _ c.declare_changes.ensures.looks
    (λ t it gathered says q command meta device accepted. says q c.args.reply command c.in-Declared.is meta device accepted)

both_same : (a b : ℕ) (m n : Option Numbers) → Declared a m ≡ Declared b n → (a ≡ b) × (m ≡ n)
both_same a b m n is = (cc, cc)

pub returns-in-Declared-clause-blames : goal.returns-in-Declared-clause-blames
returns-in-Declared-clause-blames g c =
    blames_so (state g.S.Store c.args.conn.now) (state g.S.Store c.declare_changes.new.conn) c.declare_changes.result _ _ c.declare_changes.ensures.blames
    (λ t stands kept needs.
    let same = both_same needs.carry c.in-Declared.carry needs.issued c.in-Declared.issued (sym needs.reply_is ∙ c.in-Declared.is) in
    subst (λ k. CanBeDeclared t c.args.basis c.args.meta.now c.args.declared.now k c.in-Declared.issued) same.0 (subst (CanBeDeclared t c.args.basis c.args.meta.now c.args.declared.now needs.carry) same.1 needs.can))

pub returns-in_default-clause-blames : goal.returns-in_default-clause-blames
returns-in_default-clause-blames g c = blames_none (state g.S.Store c.args.conn.now) (Err Refused) _ (λ t stands kept needs. absurd (c.in_default.not-Declared needs.carry needs.issued needs.reply_is))
