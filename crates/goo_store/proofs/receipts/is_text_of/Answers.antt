use Rattle.std.proofs.Common.{◌≡◌, Bool, true, false, Option, Some, None, refl, sym, ap, ◌∙◌, subst}
use Rattle.std.specs.Bool.{one_answer}
use Rattle.std.proofs.lemmas.Slice.Eq.{bytes_eq-Decides}
use Rattle.goo_types.specs.declared.command.Command.{Command}
use Rattle.goo_spec.specs.Step.{is_kept}
use Rattle.goo_spec.specs.Same.{same_command}
use Rattle.goo_spec.proofs.Same.{Decides-same_command}
use Rattle.goo_notice.specs.Law.{command_in}
use Rattle.goo_store.proofs.receipts.is_text_of.Goals as goal

kept_is : (o : Option Command) (command : Command) (b : Bool) → (b ≡ true → o ≡ Some command) → (o ≡ Some command → b ≡ true) → b ≡ is_kept o command
kept_is None command true there back = absurd (none_is (there refl))
  where
    none_is : {A : Type 0} {x : A} → None ≡ Some x → ⊥
    none_is e = absurd cc
kept_is None command false there back = refl
kept_is (Some kept) command b there back =
    one_answer b (same_command kept command) (λ is. some_is (there is), λ same. back (ap Some same)) (Decides-same_command kept command)
  where
    some_is : {A : Type 0} {x y : A} → Some x ≡ Some y → x ≡ y
    some_is e = cc

pub returns-in-Ok-clause-value : goal.returns-in-Ok-clause-value
returns-in-Ok-clause-value c =
    let bytes = c.args.bytes.now in
    let command = c.args.command.now in
    let law = c.one_text.ensures.commands bytes command in
    kept_is (command_in bytes) command c.eq.result (λ is. subst (λ b. command_in b ≡ Some command) (sym c.as_slice.ensures.value ∙ (bytes_eq-Decides c.as_slice.result.now bytes).0 (sym c.eq.ensures ∙ is)) c.in-Ok.ensures.reads_back)
    (λ known. c.eq.ensures ∙ (bytes_eq-Decides c.as_slice.result.now bytes).1 (c.as_slice.ensures.value ∙ c.in-Ok.ensures.text ∙ sym (law.0 known).1))
