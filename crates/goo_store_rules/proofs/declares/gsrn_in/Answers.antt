use Rattle.std.proofs.Common.{◌≡◌, ℕ, List, Bool, true, false, not, if◌then◌else◌, Ok, Err, length, ◌==◌, ◌%◌, sym, ◌∙◌}
use Rattle.std.specs.List.{list_all}
use Rattle.std.specs.Char.{is_ascii_digit}
use Rattle.goo_types.specs.Gsrn.{gsrn_reading, check_sum}
use Rattle.goo_types.specs.declared.gsrn.GsrnFault.TheVariants.{Length, Digit, Check}
use Rattle.goo_store_rules.proofs.declares.gsrn_in.Goals as goal

same : (a b c : Bool) (text : List ℕ) (n : List ℕ) → (if not a then Err Length else (if not b then Err Digit else (if c then Ok text else Err Check))) ≡ Ok n → n ≡ text
same true true true text n is = cc
same true true false text n is = absurd cc
same true false c text n is = absurd cc
same false b c text n is = absurd cc

pub returns-in-Ok-clause-value : goal.returns-in-Ok-clause-value
unfolding gsrn_reading
returns-in-Ok-clause-value c =
    let bytes = c.as_bytes.result.now in
    same (length bytes == 18) (list_all is_ascii_digit bytes) (check_sum bytes % 10 == 0) bytes c.in-Ok.gsrn (sym c.in-Ok.ensures) ∙ c.as_bytes.ensures.value
