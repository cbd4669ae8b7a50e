use Rattle.std.proofs.Common.{rules, ap, ◌∙◌, ◌≡◌, ◌||◌, Bool, true, false, refl}
use Rattle.std.proofs.lemmas.Result.{IfOk-weaker}
use Rattle.clap.specs.Words.{app_of, rule_of, with_rule}
use Rattle.goo_cli.specs.Line.{option_rule}
use Rattle.goo_cli.proofs.words.with_option.Goals as goal

or-false : (a b : Bool) → b ≡ false → (a || b) ≡ a
or-false true b e = refl
or-false false b e = e

pub returns : goal.returns
returns c =
    let rule : rule_of c.help.result ≡ option_rule c.args.name.now = search rules in
    record {
      app = IfOk-weaker c.arg.result _ _ (λ r adds. adds.shape (search rules) ∙ ap (with_rule (app_of c.args.command)) rule) c.arg.ensures;
      local = IfOk-weaker c.arg.result _ _ (λ r adds. adds.globals ∙ or-false _ _ (search rules)) c.arg.ensures;
    }
