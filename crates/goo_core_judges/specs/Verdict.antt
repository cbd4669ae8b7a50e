-- What the checks of a command come to.
use Rattle.std.specs.Prelude.{Option, Some, None}
use Rattle.goo_types.specs.declared.refusal.Refusal.{Refusal}
use Rattle.goo_types.specs.declared.reply.Reply.{Reply}
use Rattle.goo_core_judges.specs.declared.verdict.Verdict.{Verdict}
use Rattle.goo_core_judges.specs.declared.verdict.Verdict.TheVariants.{Fails, Passes}

abbrev pub verdict_of : Option Refusal → Reply → Verdict
verdict_of (Some refusal) reply = Fails refusal
verdict_of None reply = Passes reply
