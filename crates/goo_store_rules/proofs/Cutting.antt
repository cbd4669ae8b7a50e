-- Numbers that come one after another.
use Rattle.std.proofs.Common.{◌≡◌, ◌==◌, ◌&&◌, ◌+◌, ◌-◌, ℕ, arith}
use Rattle.std.specs.Prelude.{nat_lt}
use Rattle.std.proofs.lemmas.Bool.Decides.{nat_tests}

pub next_is : (a b : ℕ) → (nat_lt a b && (b - a == 1)) ≡ (a + 1 == b)
next_is a b = grind (arith, nat_tests)
