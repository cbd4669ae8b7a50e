use Rattle.std.proofs.Common.{◌≡◌, ◌∙◌, ℕ, Option, None, Some, Ok, refl, ap}
use Rattle.std.specs.Prelude.{option_and_then, unwrap_or, ok_or, List}
use Rattle.std.proofs.lemmas.Fmt.{parse-decimal}
use Rattle.json.specs.Find.{as_number}
use Rattle.goo_log_entry.proofs.members.number_at.Goals as goal

given : (r : Option ℕ) (x : List ℕ) (n : ℕ) → ok_or r x ≡ Ok n → unwrap_or r 0 ≡ n
given (Some v) x n e = cc
given None x n e = absurd cc

pub returns-in-Some : goal.returns-in-Some
returns-in-Some c =
    λ n small e.
    let text = ap (option_and_then as_number) c.in-Some.ensures ∙ e in
    let parsed = rw text at c.as_u64.ensures in
    c.unwrap_or.ensures ∙ given c.as_u64.result _ n (parse-decimal 64 n _ _ small small refl parsed)
