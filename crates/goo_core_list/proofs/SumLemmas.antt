-- What a declaration earns, from the sums of what its device declared and of what corrections took off.
use Rattle.std.proofs.Common.{◌≡◌, ℕ, ◌+◌, ◌-◌, ◌/◌, cond, refl, ap, arith}
use Rattle.std.proofs.lemmas.Slice.Eq.{bytes_eq-Decides}
use Rattle.goo_types.specs.declared.command.Declare.{Declare}
use Rattle.goo_spec.specs.State.{State}
use Rattle.goo_spec.specs.Energy.{certificate, net, net_of, total, lowered, remaining, due}
use Rattle.goo_spec.specs.Declare.{with_declaration, earned}
use Rattle.goo_spec.proofs.Declaring.{total_with}

own_net : (x : Declare) → net_of x.device x ≡ net x
own_net x = ap (λ b. cond b (net x) 0) ((bytes_eq-Decides x.device x.device).1 refl)

with_more : (s : State) (x : Declare) → total (with_declaration s x) x.device ≡ total s x.device + net x
with_more s x = omega (arith, total_with s x x.device, own_net x)

pub earned_from_sums : (s : State) (x : Declare) → earned s x ≡ (total s x.device + net x - lowered s x.device) / certificate - (total s x.device - lowered s x.device) / certificate
unfolding earned due remaining lowered with_declaration
earned_from_sums s x = ap (λ (n : ℕ). (n - lowered s x.device) / certificate - (total s x.device - lowered s x.device) / certificate) (with_more s x)
