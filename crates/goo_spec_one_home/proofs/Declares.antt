-- A declaration issues new certificates.
use Rattle.std.proofs.Common.{◌≡◌, ℕ, ◌+◌, ◌-◌, ◌*◌, ◌≤◌, ◌<◌, ◌&&◌, true, cond, leb, ltb, List, Option, Some, None, refl, sym, ap, ◌∙◌, arith}
use Rattle.std.specs.FinMap.{get}
use Rattle.std.proofs.lemmas.Nat.{div-mul-add, mod-mul-add}
use Rattle.std.proofs.lemmas.Bool.{and_parts, leb-true, ltb-true, ltb-false}
use Rattle.goo_types.specs.Number.{code_of, serial_of}
use Rattle.goo_types.specs.declared.place.Place.TheVariants.{Held}
use Rattle.goo_types.specs.declared.command.Declare.{Declare}
use Rattle.goo_spec.specs.State.{State, Device, serials}
use Rattle.goo_spec.specs.Declare.{with_declaration, earned, lot_of, device_checks, device_refusal, declare_checks, declare_refusal, next_number, issued_for, with_issue}
use Rattle.goo_spec.proofs.Mapping.{none_some}
use Rattle.goo_spec.proofs.Checking.{none_fail, passes}
use Rattle.goo_spec_one_home.specs.World.{is_home}
use Rattle.goo_spec.specs.Fate.{is_new}
use Rattle.goo_spec.proofs.Fating.{fate_issued}
use Rattle.goo_spec_one_home.proofs.Effects.{IsIssue}

-- a number of a code's serials has that code
code_from : (own n : ℕ) → own * serials ≤ n → n < own * serials + serials → code_of n ≡ own
code_from own n low high =
    let small : n - own * serials < serials = omega arith in
    let e : n ≡ own * serials + (n - own * serials) = omega arith in
    ap code_of e ∙ div-mul-add own serials (n - own * serials) small

serial_from : (own n : ℕ) → own * serials ≤ n → n < own * serials + serials → serial_of n ≡ n - own * serials
serial_from own n low high =
    let small : n - own * serials < serials = omega arith in
    let e : n ≡ own * serials + (n - own * serials) = omega arith in
    ap serial_of e ∙ mod-mul-add own serials (n - own * serials) small

record Between (first count n : ℕ) : Type 0 where
  low : first ≤ n
  high : n < first + count

between : (first count n : ℕ) → (leb first n && ltb n (first + count)) ≡ true → Between first count n
between first count n is =
    let parts = and_parts (leb first n) (ltb n (first + count)) is in
    record { low = leb-true first n parts.0; high = ltb-true n (first + count) parts.1 }

module _ (s : State) (x : Declare) (device : Device) (fits : s.next_serial + earned s x ≤ serials) where
  at_after : (n : ℕ) → get (issued_for s x (Some device)).at n ≡ cond (is_new s x n) (Some (lot_of s x device, Held device.account)) (get s.at n)
  at_after n = fate_issued s x (Some device) n

  serial_new : (n : ℕ) → is_new s x n ≡ true → serial_of n ≡ n - s.own * serials
  serial_new n is = let b = between (next_number s) (earned s x) n is in serial_from s.own n (omega (arith, b.low)) (omega (arith, b.high))

  issue_for : IsIssue s (issued_for s x (Some device)) (is_new s x)
  unfolding with_declaration
  issue_for = record {
    own = refl;
    notice = refl;
    arrived = refl;
    sent = refl;
    serial = omega arith;
    code = λ n is. let b = between (next_number s) (earned s x) n is in code_from s.own n (omega (arith, b.low)) (omega (arith, b.high));
    low = λ n is. let b = between (next_number s) (earned s x) n is in omega (arith, b.low, serial_new n is);
    high = λ n is. let b = between (next_number s) (earned s x) n is in omega (arith, b.low, b.high, serial_new n is);
    home = λ n is. ap is_home (at_after n ∙ ap (λ b. cond b (Some (lot_of s x device, Held device.account)) (get s.at n)) is);
    other = λ n is. at_after n ∙ ap (λ b. cond b (Some (lot_of s x device, Held device.account)) (get s.at n)) is;
  }

issue_known : (s : State) (x : Declare) (o : Option Device) → device_refusal s x o ≡ None → IsIssue s (issued_for s x o) (is_new s x)
issue_known s x None none = none_some _ (sym none)
issue_known s x (Some device) none =
    let passed = none_fail (device_checks s x device) none in
    issue_for s x device (ltb-false serials (s.next_serial + earned s x) (passes _ _ passed.1.1.1.1.1.1.1.1.0))

pub issue_declared : (s : State) (caller : List ℕ) (x : Declare) → declare_refusal s caller x ≡ None → IsIssue s (with_issue s x) (is_new s x)
unfolding declare_refusal with_issue
issue_declared s caller x none =
    let passed = none_fail (declare_checks s caller x) none in
    issue_known s x (get s.devices x.device) passed.1.0
