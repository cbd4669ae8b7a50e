-- A server that ended well.
use Rattle.std.proofs.Common.{◌≡◌, ℕ, arith, inl, inr, refl, sym, subst, List, Option, Result, Ok, Err, OnOk}
use Rattle.goo_spec.specs.State.{State}
use Rattle.goo_cli_ending.specs.Endings.{status_of}
use Rattle.goo_cli_ending.specs.declared.ending.Ending.{Ending}
use Rattle.goo_cli_ending.specs.declared.ending.Ending.TheVariants.{Failed}
use Rattle.goo_cli_ending.specs.declared.ending.Failure.{Failure}
use Rattle.goo_desk_listener.specs.Clients.{Clients, KeepsClients}
use Rattle.goo_cli_registry.specs.Openings.{IsFault}
use Rattle.goo_cli_files.specs.ServerEndings.{ending_of_server, IsCounted, IsOfServer}
use Rattle.goo_desk_server.specs.Runs.{KeepsPromise}
use Rattle.goo_desk_server.specs.Serving as server
use Rattle.goo_desk_server.specs.declared.server_fault.ServerFault.{ServerFault}
use Rattle.goo_desk_server.specs.declared.server_fault.ServerFault.TheVariants.{Accept, Memory, Store, Write}

pub if_done : (served : Result (Unit {0}) ServerFault) (P : Type 0) → status_of (ending_of_server served) ≡ 0 → OnOk served P → P
if_done (Ok done) P status holds = holds
if_done (Err Write) P status holds = absurd (omega (arith, status))
if_done (Err Accept) P status holds = absurd (omega (arith, status))
if_done (Err Store) P status holds = absurd (omega (arith, status))
if_done (Err Memory) P status holds = absurd (omega (arith, status))

-- how many were accepted, by how the program ends
pub counted_by : (served : Result (Unit {0}) ServerFault) (was now asked : ℕ) → server.IsCounted served was now asked → IsCounted (ending_of_server served) was now asked
counted_by (Ok done) was now asked is = record { all = λ zero. is; grown = omega (arith, is); few = omega (arith, is); fewer = λ some fault any. absurd (some refl) }
counted_by (Err Write) was now asked is = record { all = λ zero. absurd (omega (arith, zero)); grown = omega (arith, is); few = omega (arith, is); fewer = λ some fault any. omega (arith, is, any) }
counted_by (Err Memory) was now asked is = record { all = λ zero. absurd (omega (arith, zero)); grown = omega (arith, is); few = omega (arith, is); fewer = λ some fault any. omega (arith, is, any) }
counted_by (Err Accept) was now asked (low, high) = record { all = λ zero. absurd (omega (arith, zero)); grown = low; few = omega (arith, high); fewer = λ some fault any. high }
counted_by (Err Store) was now asked (low, high) = record { all = λ zero. absurd (omega (arith, zero)); grown = omega (arith, low); few = high; fewer = λ some fault any. absurd (fault refl) }

-- a registry that was not made
pub of_fault : (told : Failure) → IsFault told → IsOfServer (Failed told)
of_fault told (inl is) = subst (λ (f : Failure). IsOfServer (Failed f)) (sym is) tt
of_fault told (inr is) = subst (λ (f : Failure). IsOfServer (Failed f)) (sym is) tt

-- nothing was accepted before a fault
pub none_counted : (why : Failure) (was now asked : ℕ) → now ≡ was → IsCounted (Failed why) was now asked
none_counted why was now asked is = record { all = λ zero. absurd (omega (arith, zero)); grown = omega (arith, is); few = omega (arith, is); fewer = λ some fault any. omega (arith, is, any) }

-- it began to listen first: that accepts nothing, and changes nothing of what clients send
pub kept_from : (from mid : Clients) (now : ℕ) (old new : State) → KeepsClients from mid → KeepsPromise mid.sends mid.accepted now old new → KeepsPromise from.sends from.accepted now old new
kept_from from mid now old new kept keeps = subst (λ (c : Clients). KeepsPromise c.sends c.accepted now old new) kept keeps

pub counted_from : (told : Ending) (served : Result (Unit {0}) ServerFault) (was mid now asked : ℕ) → told ≡ ending_of_server served → mid ≡ was → server.IsCounted served mid now asked → IsCounted told was now asked
counted_from told served was mid now asked ends is counted =
    subst (λ (e : Ending). IsCounted e was now asked) (sym ends) (counted_by served was now asked (subst (λ n. server.IsCounted served n now asked) is counted))
