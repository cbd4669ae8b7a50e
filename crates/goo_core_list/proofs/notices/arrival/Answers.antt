use Rattle.std.proofs.Common.{refl}
use Rattle.std.specs.Bool.{one_answer}
use Rattle.goo_types.specs.declared.command.Command.TheVariants.{Import}
use Rattle.goo_spec.specs.Import.{same_notice}
use Rattle.goo_spec.proofs.Same.{same_notice_is_equal, equal_is_same}
use Rattle.goo_core_list.proofs.notices.arrival.Goals as goal

pub returns-then-is : goal.returns-then-is
returns-then-is c =
    let a = c.args.kept.now in
    let b = c.args.notice.now in
    let e = one_answer c.is.result (same_notice a b) c.is.ensures (same_notice_is_equal a b, λ same. equal_is_same (Import (record { notice = a })) (Import (record { notice = b })) (λ i. Import (record { notice = same i }))) in
    rw (← e, c.if-is.true) refl

pub returns-else-is : goal.returns-else-is
returns-else-is c =
    let a = c.args.kept.now in
    let b = c.args.notice.now in
    let e = one_answer c.is.result (same_notice a b) c.is.ensures (same_notice_is_equal a b, λ same. equal_is_same (Import (record { notice = a })) (Import (record { notice = b })) (λ i. Import (record { notice = same i }))) in
    rw (← e, c.if-is.false) refl
