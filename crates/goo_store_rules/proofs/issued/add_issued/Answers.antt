use Rattle.std.proofs.Common.{◌≤◌, ℕ, Bool, true, false, cond, Result, Ok, Err, OnOk, arith}
use Rattle.std.specs.Str.{bytes_eq}
use Rattle.goo_store_rules.proofs.issued.add_issued.Goals as goal

so : {X E A B : Type 0} (r : Result X E) → OnOk r A → (A → B) → OnOk r B
so (Ok x) a f = f a
so (Err e) a f = tt

at_most : (b : Bool) (n : ℕ) → cond b n 0 ≤ n
at_most true n = omega arith
at_most false n = omega arith

pub returns-in-Some-clause-small : goal.returns-in-Some-clause-small
returns-in-Some-clause-small c =
    so c.add_to.result c.add_to.ensures
    (λ added q.
    let more = added q in
    let most = at_most (bytes_eq c.in-Some.device.now q) c.standing_count.result in
    omega (arith, more, most, c.standing_count.ensures.small))
