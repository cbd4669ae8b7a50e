-- A declaration that was refused stays refused over declarations.
use Rattle.std.proofs.Common.{◌≡◌, ◌∙◌, ℕ, ◌+◌, ◌-◌, ◌/◌, ◌≤◌, Bool, true, false, cond, List, [], ◌∷◌, ◌++◌, Option, Some, None, refl, sym, ap, arith, ⊎_elim, append-nil}
use Rattle.std.specs.Prelude.{not}
use Rattle.std.specs.FinMap.{FinMap, get, insert}
use Rattle.std.specs.Str.{bytes_eq}
use Rattle.std.proofs.lemmas.Bool.{true≢false, ltb-true, ltb-false, lt-ltb, le-ltb, not-false, or_parts}
use Rattle.std.proofs.lemmas.List.Elements.{All-head, All-tail, filter-append}
use Rattle.std.proofs.lemmas.List.Sums.{sum_by_push}
use Rattle.std.proofs.lemmas.Nat.{le-div}
use Rattle.std.proofs.Math.Nat.{div-mul-le_self}
use Rattle.std.proofs.lemmas.Slice.Eq.{bytes_eq-Decides}
use Rattle.goo_types.specs.Day.{CalendarDay, day_number}
use Rattle.goo_types.specs.declared.command.Command.{Command}
use Rattle.goo_types.specs.declared.command.Command.TheVariants as command
use Rattle.goo_types.specs.declared.command.Declare.{Declare}
use Rattle.goo_types.specs.declared.outcome.Outcome.{Outcome}
use Rattle.goo_types.specs.declared.outcome.Outcome.TheVariants.{Accepted, Repeated, Refused}
use Rattle.goo_types.specs.declared.refusal.Refusal.{Refusal}
use Rattle.goo_types.specs.declared.refusal.Refusal.TheVariants.{KeyReused, NumbersExhausted, PeriodOrder}
use Rattle.goo_types.specs.declared.reply.Reply.{Reply}
use Rattle.goo_types.specs.declared.request.Request.{Request}
use Rattle.goo_spec.specs.Days.{is_before}
use Rattle.goo_spec.specs.Known.{is_accepted}
use Rattle.goo_spec.specs.State.{State, Device, serials, receipt_cmp}
use Rattle.goo_spec.specs.Energy.{certificate, net, net_of, total, lowered, remaining, due}
use Rattle.goo_spec.specs.Checks.{first_refusal, when}
use Rattle.goo_spec.specs.Declare.{with_declaration, earned, declared_by, last_end, begins_too_early, device_checks, device_refusal, declare_checks, declare_refusal, declare_reply, issued_for, with_issue}
use Rattle.goo_spec.specs.Step.{outcome, next, accept, after, keyed_outcome, fresh_outcome, is_kept, refusal}
use Rattle.goo_spec.specs.Run.{final}
use Rattle.goo_spec.proofs.Allowed.{known_device}
use Rattle.goo_spec.proofs.Checking.{NoneFail, none_fail, passes}
use Rattle.goo_spec.proofs.Keys.{receipts_total, receipts_same}
use Rattle.goo_spec.proofs.Mapping.{none_some, get_inserted}
use Rattle.goo_spec.proofs.Promising.{idle_next}
use Rattle.goo_spec.proofs.Receipts.{kept_next, kept_final}
use Rattle.goo_spec.proofs.Same.{same_is_equal}
use Rattle.goo_spec.proofs.Stepping.{accepted_passes}
use Rattle.goo_spec_again.specs.Whole.{IsAgain, IsRefused, IsDeclaration, AreDeclarations, OthersStay, DeclarationsAgain}
use Rattle.goo_spec_again.proofs.Whole.{lists_again}

-- ---- the energy of two declarations

more_left : (less a b : ℕ) → a ≤ b → (a - less) / certificate ≤ (b - less) / certificate
more_left less a b le = le-div ((a - less) / certificate) (b - less) certificate (omega arith) (omega (arith, le, div-mul-le_self (a - less) certificate))

-- the certificates due to a device where so much more is declared for it
abbrev due_with : State → List ℕ → ℕ → ℕ
due_with s d more = (total s d + more - lowered s d) / certificate

due_one : (s : State) (x : Declare) (d : List ℕ) → due (with_declaration s x) d ≡ due_with s d (net_of d x)
unfolding due remaining total lowered with_declaration
due_one s x d = ap (λ (n : ℕ). (n - lowered s d) / certificate) (sum_by_push (net_of d) s.declarations x)

due_none : (s : State) (d : List ℕ) → due s d ≡ due_with s d 0
unfolding due remaining
due_none s d = ap (λ (n : ℕ). (n - lowered s d) / certificate) (let e : total s d ≡ total s d + 0 = omega arith in e)

module _ (s : State) (y : Declare) (maker : Device) (receipts : FinMap receipt_cmp (Option Command × Reply)) where
  -- the state behind an accepted declaration
  abbrev after_it : State
  after_it = record (issued_for s y (Some maker)) { receipts = receipts }

  due_two : (x : Declare) (d : List ℕ) → due (with_declaration after_it x) d ≡ due_with s d (net_of d y + net_of d x)
  unfolding due remaining total lowered with_declaration
  due_two x d =
      let first = sum_by_push (net_of d) s.declarations y in
      let both = sum_by_push (net_of d) (s.declarations ++ y ∷ []) x in
      ap (λ (n : ℕ). (n - lowered s d) / certificate) (let e : total (with_declaration after_it x) d ≡ total s d + (net_of d y + net_of d x) = omega (arith, first, both) in e)

  due_after : (d : List ℕ) → due after_it d ≡ due (with_declaration s y) d
  unfolding due remaining total lowered with_declaration
  due_after d = refl

  -- what the first declaration earned of a device's certificates
  earned_of : (d : List ℕ) → due_with s d (net_of d y) - due_with s d 0 ≤ earned s y
  unfolding earned
  earned_of d = elim (bytes_eq y.device d) as (λ b. bytes_eq y.device d ≡ b → due_with s d (net_of d y) - due_with s d 0 ≤ earned s y) [
    | true ↦ λ is.
        let same : y.device ≡ d = (bytes_eq-Decides y.device d).0 is in
        let grown : earned s y ≡ due (with_declaration s y) d - due s d = ap (λ v. due (with_declaration s y) v - due s v) same in
        omega (arith, grown, due_one s y d, due_none s d)
    | false ↦ λ is.
        let none : net_of d y ≡ 0 = ap (λ b. cond b (net y) 0) is in
        let same : due_with s d (net_of d y) ≡ due_with s d 0 = ap (due_with s d) none in
        omega (arith, same)
  ] refl

  -- the second one earns no more before the first than both together
  earned_before : (x : Declare) → earned s x ≤ earned s y + earned after_it x
  unfolding earned
  earned_before x =
      let d = x.device in
      let a = more_left (lowered s d) (total s d + net_of d x) (total s d + (net_of d y + net_of d x)) (omega arith) in
      let one = due_one s x d in
      let none = due_none s d in
      let first = due_after d ∙ due_one s y d in
      let two = due_two x d in
      let of = earned_of d in
      let own : earned s x ≡ due (with_declaration s x) d - due s d = refl in
      let later : earned after_it x ≡ due (with_declaration after_it x) d - due after_it d = refl in
      omega (arith, a, one, none, first, two, of, own, later)

  fits_before : (x : Declare) → after_it.next_serial + earned after_it x ≤ serials → s.next_serial + earned s x ≤ serials
  unfolding with_declaration
  fits_before x fits = let before = earned_before x in omega (arith, fits, before)

-- ---- the order of periods

last_end-push : (before : Option CalendarDay) (xs : List Declare) (y : Declare) → last_end before (xs ++ y ∷ []) ≡ Some y.last_day
last_end-push before [] y = refl
last_end-push before (x ∷ xs) y = last_end-push (Some x.last_day) xs y

-- what begins after a period begins after what that period began after
after_both : (before : Option CalendarDay) (y : Declare) (day : CalendarDay) → begins_too_early before y.first_day ≡ false → is_before y.last_day y.first_day ≡ false
    → begins_too_early (Some y.last_day) day ≡ false → begins_too_early before day ≡ false
after_both None y day late forward passed = refl
after_both (Some end) y day late forward passed =
    let first = ltb-true (day_number end) (day_number y.first_day) (not-false (is_before end y.first_day) late) in
    let inner = ltb-false (day_number y.last_day) (day_number y.first_day) forward in
    let last = ltb-true (day_number y.last_day) (day_number day) (not-false (is_before y.last_day day) passed) in
    ap not (lt-ltb (day_number end) (day_number day) (omega (arith, first, inner, last)))

late_before : (s : State) (y : Declare) (d : List ℕ) (day : CalendarDay) → begins_too_early (last_end None (declared_by y.device s.declarations)) y.first_day ≡ false → is_before y.last_day y.first_day ≡ false
    → begins_too_early (last_end None (declared_by d (s.declarations ++ y ∷ []))) day ≡ false → begins_too_early (last_end None (declared_by d s.declarations)) day ≡ false
late_before s y d day late forward passed = elim (bytes_eq y.device d) as (λ b. bytes_eq y.device d ≡ b → begins_too_early (last_end None (declared_by d s.declarations)) day ≡ false) [
  | true ↦ λ is.
      let same : y.device ≡ d = (bytes_eq-Decides y.device d).0 is in
      let list : declared_by d (s.declarations ++ y ∷ []) ≡ declared_by d s.declarations ++ y ∷ [] = filter-append (λ z. bytes_eq z.device d) s.declarations (y ∷ []) ∙ ap (λ b. declared_by d s.declarations ++ cond b (y ∷ []) []) is in
      let ends : last_end None (declared_by d (s.declarations ++ y ∷ [])) ≡ Some y.last_day = ap (last_end None) list ∙ last_end-push None (declared_by d s.declarations) y in
      after_both (last_end None (declared_by d s.declarations)) y day (ap (λ v. begins_too_early (last_end None (declared_by v s.declarations)) y.first_day) (sym same) ∙ late) forward
      (ap (λ o. begins_too_early o day) (sym ends) ∙ passed)
  | false ↦ λ isnt.
      let list : declared_by d (s.declarations ++ y ∷ []) ≡ declared_by d s.declarations = filter-append (λ z. bytes_eq z.device d) s.declarations (y ∷ []) ∙ ap (λ b. declared_by d s.declarations ++ cond b (y ∷ []) []) isnt ∙ append-nil (declared_by d s.declarations) in
      ap (λ l. begins_too_early (last_end None l) day) (sym list) ∙ passed
] refl

-- ---- the checks

none_fails : (checks : List (Option Refusal)) → NoneFail checks → first_refusal checks ≡ None
none_fails [] met = refl
none_fails (None ∷ checks) met = none_fails checks met.1
none_fails (Some refusal ∷ checks) met = none_some refusal (sym met.0)

when_not : (b : Bool) (refusal : Refusal) → b ≡ false → when b refusal ≡ None
when_not b refusal is = ap (λ c. when c refusal) is

-- a declaration that passes behind an accepted one would have passed before it
module _ (s : State) (y : Declare) (maker : Device) (receipts : FinMap receipt_cmp (Option Command × Reply)) where
  device_before : (x : Declare) (o : Option Device) → device_refusal s y (Some maker) ≡ None → device_refusal (after_it s y maker receipts) x o ≡ None → device_refusal s x o ≡ None
  unfolding with_declaration
  device_before x None first passed = passed
  device_before x (Some device) first passed =
      let y_met = none_fail (device_checks s y maker) first in
      let met = none_fail (device_checks (after_it s y maker receipts) x device) passed in
      let span = or_parts (is_before y.last_day y.first_day) _ (passes _ _ y_met.1.0) in
      let late = late_before s y x.device x.first_day (passes _ _ y_met.1.1.1.1.0) span.0 (passes _ _ met.1.1.1.1.0) in
      let fits = fits_before s y maker receipts x (ltb-false serials ((after_it s y maker receipts).next_serial + earned (after_it s y maker receipts) x) (passes _ _ met.1.1.1.1.1.1.1.1.0)) in
      none_fails (device_checks s x device) (
        met.0,
        (
          met.1.0,
          (
            met.1.1.0,
            (
              met.1.1.1.0,
              (
                when_not _ PeriodOrder late,
                (
                  met.1.1.1.1.1.0,
                  (
                    met.1.1.1.1.1.1.0,
                    (
                      met.1.1.1.1.1.1.1.0,
                      (when_not _ NumbersExhausted (le-ltb serials (s.next_serial + earned s x) fits), tt),
                    ),
                  ),
                ),
              ),
            ),
          ),
        ),
      )

  declare_before : (caller : List ℕ) (x : Declare) → device_refusal s y (Some maker) ≡ None → declare_refusal (after_it s y maker receipts) caller x ≡ None → declare_refusal s caller x ≡ None
  unfolding declare_refusal with_declaration
  declare_before caller x first passed =
      let met = none_fail (declare_checks (after_it s y maker receipts) caller x) passed in
      none_fails (declare_checks s caller x) (met.0, (device_before x (get s.devices x.device) first met.1.0, tt))

-- ---- requests

abbrev declares : List ℕ → List ℕ → Declare → Request
declares caller key x = record { caller = caller; key = key; command = command.Declare x }

-- what is accepted came under a new key
free_key : (o : Option (Option Command × Reply)) (c : Command) (fresh : Outcome) (reply : Reply) → keyed_outcome o c fresh ≡ Accepted reply → o ≡ None
free_key None c fresh reply is = refl
free_key (Some kept) c fresh reply is = elim (is_kept kept.0 c) as (λ b. cond b (Repeated kept.1) (Refused KeyReused) ≡ Accepted reply → Some kept ≡ None) [ true ↦ λ h. absurd (cc) | false ↦ λ h. absurd (cc) ] is

was_free : (s : State) (p : Request) (key : List ℕ × List ℕ) (o : Option (Option Command × Reply)) → get s.receipts key ≡ o → get (next s p).receipts key ≡ None → o ≡ None
was_free s p key None is free = refl
was_free s p key (Some receipt) is free = none_some receipt (sym free ∙ kept_next key receipt s p is)

accepts : (s : State) (caller key : List ℕ) (x : Declare) → get s.receipts (caller, key) ≡ None → declare_refusal s caller x ≡ None → is_accepted (outcome s (declares caller key x)) ≡ true
accepts s caller key x free none =
    ap is_accepted (ap (λ o. keyed_outcome o (command.Declare x) (fresh_outcome None (declare_refusal s caller x) (declare_reply s x))) free ∙ ap (λ o. fresh_outcome None o (declare_reply s x)) none)

-- a repeated declaration has its receipt
record HasReceipt (o : Option (Option Command × Reply)) (x : Declare) (reply : Reply) : Type 0 where
  kept : Option Command × Reply
  is : o ≡ Some kept
  same : is_kept kept.0 (command.Declare x) ≡ true
  reply_is : kept.1 ≡ reply

not_fresh : {P : Type 0} (refused : Option Refusal) (first reply : Reply) → fresh_outcome None refused first ≡ Repeated reply → P
not_fresh (Some refusal) first reply is = absurd (cc)
not_fresh None first reply is = absurd (cc)

has_receipt : (o : Option (Option Command × Reply)) (x : Declare) (refused : Option Refusal) (first reply : Reply) → keyed_outcome o (command.Declare x) (fresh_outcome None refused first) ≡ Repeated reply → HasReceipt o x reply
has_receipt None x refused first reply is = not_fresh refused first reply is
has_receipt (Some kept) x refused first reply is =
    elim (is_kept kept.0 (command.Declare x)) as (λ b. is_kept kept.0 (command.Declare x) ≡ b → cond b (Repeated kept.1) (Refused KeyReused) ≡ Repeated reply → HasReceipt (Some kept) x reply) [
      | true ↦ λ same h. record { kept = kept; is = refl; same = same; reply_is = cc }
      | false ↦ λ same h. absurd (cc)
    ] refl is

by_receipt : (s : State) (caller key : List ℕ) (x : Declare) (kept : Option Command × Reply) → get s.receipts (caller, key) ≡ Some kept → is_kept kept.0 (command.Declare x) ≡ true → outcome s (declares caller key x) ≡ Repeated kept.1
by_receipt s caller key x kept is same =
    ap (λ o. keyed_outcome o (command.Declare x) (fresh_outcome None (declare_refusal s caller x) (declare_reply s x))) is ∙ ap (λ b. cond b (Repeated kept.1) (Refused KeyReused)) same

-- an accepted declaration, and the state behind it
record Leaves (s : State) (caller key : List ℕ) (y : Declare) : Type 0 where
  maker : Device
  passes : device_refusal s y (Some maker) ≡ None
  reply : Reply
  next_is : next s (declares caller key y) ≡ after_it s y maker (insert s.receipts (caller, key) (Some (command.Declare y), reply))

leaves_by : (s : State) (caller key : List ℕ) (y : Declare) (o : Option Device) → get s.devices y.device ≡ o → device_refusal s y o ≡ None → next s (declares caller key y) ≡ accept s (declares caller key y) → Leaves s caller key y
unfolding accept with_issue
leaves_by s caller key y None is none next_is = none_some _ (sym none)
leaves_by s caller key y (Some maker) is none next_is = record {
  maker = maker;
  passes = none;
  reply = declare_reply s y;
  next_is = next_is ∙ ap (λ (o : Option Device). record (issued_for s y o) { receipts = insert s.receipts (caller, key) (Some (command.Declare y), declare_reply s y) }) is;
}

leaves : (s : State) (caller key : List ℕ) (y : Declare) (reply : Reply) → outcome s (declares caller key y) ≡ Accepted reply → Leaves s caller key y
unfolding next
leaves s caller key y reply is =
    let p = declares caller key y in
    leaves_by s caller key y (get s.devices y.device) refl (known_device s caller y (accepted_passes s p reply is)) (ap (after s p) is)

accepted_or : {P : Type 0} (o : Outcome) (refusal : Refusal) → o ≡ Refused refusal → is_accepted o ≡ true → P
accepted_or o refusal is accepted = absurd (true≢false (sym accepted ∙ ap is_accepted is))

module _ (s : State) (pc pk : List ℕ) (y : Declare) (first : Reply) (accepted : outcome s (declares pc pk y) ≡ Accepted first) (caller key : List ℕ) (x : Declare) (refusal : Refusal) (refused : outcome s (declares caller key x) ≡ Refused refusal) where
  not_accepted : {P : Type 0} (reply : Reply) → outcome (next s (declares pc pk y)) (declares caller key x) ≡ Accepted reply → P
  not_accepted reply is =
      let p = declares pc pk y in
      let q = declares caller key x in
      let t = next s p in
      let l = leaves s pc pk y first accepted in
      let fresh = fresh_outcome None (declare_refusal t caller x) (declare_reply t x) in
      let free = was_free s p (caller, key) (get s.receipts (caller, key)) refl (free_key (get t.receipts (caller, key)) (command.Declare x) fresh reply is) in
      let passes_later : declare_refusal t caller x ≡ None = accepted_passes t q reply is in
      let receipts = insert s.receipts (pc, pk) (Some (command.Declare y), l.reply) in
      let passes_before = declare_before s y l.maker receipts caller x l.passes (ap (λ u. declare_refusal u caller x) (sym l.next_is) ∙ passes_later) in
      accepted_or (outcome s q) refusal refused (accepts s caller key x free passes_before)

  not_repeated : {P : Type 0} (reply : Reply) → outcome (next s (declares pc pk y)) (declares caller key x) ≡ Repeated reply → P
  not_repeated reply is =
      let p = declares pc pk y in
      let q = declares caller key x in
      let t = next s p in
      let l = leaves s pc pk y first accepted in
      let h = has_receipt (get t.receipts (caller, key)) x (declare_refusal t caller x) (declare_reply t x) reply is in
      let there : get (insert s.receipts (pc, pk) (Some (command.Declare y), l.reply)) (caller, key) ≡ Some h.kept = ap (λ u. get u.receipts (caller, key)) (sym l.next_is) ∙ h.is in
      ⊎_elim
      (λ (new : ((caller, key) ≡ (pc, pk)) × ((Some (command.Declare y), l.reply) ≡ h.kept)).
      let same : command.Declare y ≡ command.Declare x = same_is_equal (command.Declare y) (command.Declare x) (ap (λ k. is_kept k.0 (command.Declare x)) new.1 ∙ h.same) in
      let one : q ≡ p = λ i. record { caller = (new.0 i).0; key = (new.0 i).1; command = sym same i } in
      accepted_or (outcome s q) refusal refused (ap (λ r. is_accepted (outcome s r)) one ∙ ap is_accepted accepted))
      (λ (old : get s.receipts (caller, key) ≡ Some h.kept).
      let clash : Refused refusal ≡ Repeated h.kept.1 = sym refused ∙ by_receipt s caller key x h.kept old h.same in
      absurd (cc))
      (get_inserted receipts_total receipts_same s.receipts (pc, pk) (Some (command.Declare y), l.reply) (caller, key) h.kept there)

  by_outcome : (o : Outcome) → outcome (next s (declares pc pk y)) (declares caller key x) ≡ o → IsRefused o
  by_outcome (Accepted reply) is = not_accepted reply is
  by_outcome (Repeated reply) is = not_repeated reply is
  by_outcome (Refused other) is = (other, refl)

-- refused before a declaration, it is refused behind it
refused_next : (s : State) (pc pk : List ℕ) (y : Declare) (o : Outcome) → outcome s (declares pc pk y) ≡ o → (caller key : List ℕ) (x : Declare) (refusal : Refusal) → outcome s (declares caller key x) ≡ Refused refusal
    → IsRefused (outcome (next s (declares pc pk y)) (declares caller key x))
refused_next s pc pk y (Accepted reply) is caller key x refusal refused = by_outcome s pc pk y reply is caller key x refusal refused _ refl
refused_next s pc pk y (Repeated reply) is caller key x refusal refused = (refusal, ap (λ u. outcome u (declares caller key x)) (idle_next s (declares pc pk y) (ap is_accepted is)) ∙ refused)
refused_next s pc pk y (Refused other) is caller key x refusal refused = (refusal, ap (λ u. outcome u (declares caller key x)) (idle_next s (declares pc pk y) (ap is_accepted is)) ∙ refused)

-- ---- lists

-- a declaration is sent by a caller under a key
by_declaration : (P : Request → Type 0) → ((caller key : List ℕ) (x : Declare) → P (declares caller key x)) → (caller key : List ℕ) (c : Command) → IsDeclaration c → P (record { caller = caller; key = key; command = c })
by_declaration P holds caller key (command.Declare x) is = holds caller key x
by_declaration P holds caller key (command.OpenHolder x) is = absurd is
by_declaration P holds caller key (command.OpenAccount x) is = absurd is
by_declaration P holds caller key (command.CloseAccount x) is = absurd is
by_declaration P holds caller key (command.RegisterDevice x) is = absurd is
by_declaration P holds caller key (command.Correct x) is = absurd is
by_declaration P holds caller key (command.Transfer x) is = absurd is
by_declaration P holds caller key (command.Cancel x) is = absurd is
by_declaration P holds caller key (command.Withdraw x) is = absurd is
by_declaration P holds caller key (command.Advance x) is = absurd is
by_declaration P holds caller key (command.AddPeer x) is = absurd is
by_declaration P holds caller key (command.Export x) is = absurd is
by_declaration P holds caller key (command.Import x) is = absurd is

refused_behind : (caller key : List ℕ) (x : Declare) (s : State) (p : Request) → IsDeclaration p.command → (refusal : Refusal) → outcome s (declares caller key x) ≡ Refused refusal → IsRefused (outcome (next s p) (declares caller key x))
refused_behind caller key x s p is refusal refused =
    by_declaration (λ (r : Request). IsRefused (outcome (next s r) (declares caller key x))) (λ pc pk y. refused_next s pc pk y _ refl caller key x refusal refused) p.caller p.key p.command is

refused_later : (caller key : List ℕ) (x : Declare) (s : State) (qs : List Request) → AreDeclarations qs → (refusal : Refusal) → outcome s (declares caller key x) ≡ Refused refusal → IsRefused (outcome (final s qs) (declares caller key x))
refused_later caller key x s [] are refusal refused = (refusal, refused)
refused_later caller key x s (p ∷ qs) are refusal refused =
    let still = refused_behind caller key x s p (All-head (λ r. IsDeclaration r.command) p qs are) refusal refused in
    refused_later caller key x (next s p) qs (All-tail (λ r. IsDeclaration r.command) p qs are) still.0 still.1

stays : (s : State) (qs : List Request) → AreDeclarations qs → (caller key : List ℕ) (x : Declare) (o : Outcome) → outcome s (declares caller key x) ≡ o → is_accepted o ≡ false
    → IsAgain o (outcome (final (next s (declares caller key x)) qs) (declares caller key x))
stays s qs are caller key x (Accepted reply) is isnt = absurd (true≢false isnt)
stays s qs are caller key x (Repeated reply) is isnt =
    let q = declares caller key x in
    let h = has_receipt (get s.receipts (caller, key)) x (declare_refusal s caller x) (declare_reply s x) reply is in
    let still = idle_next s q (ap is_accepted is) in
    let kept = kept_final (caller, key) h.kept (next s q) qs (ap (λ u. get u.receipts (caller, key)) still ∙ h.is) in
    by_receipt (final (next s q) qs) caller key x h.kept kept h.same ∙ ap Repeated h.reply_is
stays s qs are caller key x (Refused refusal) is isnt =
    let q = declares caller key x in
    let still = idle_next s q (ap is_accepted is) in
    refused_later caller key x (next s q) qs are refusal (ap (λ u. outcome u q) still ∙ is)

others_stay : (s : State) (qs : List Request) → AreDeclarations qs → OthersStay s qs (final s qs)
others_stay s [] are = tt
others_stay s (q ∷ qs) are =
    let rest = All-tail (λ r. IsDeclaration r.command) q qs are in (
      by_declaration (λ (r : Request). is_accepted (outcome s r) ≡ false → IsAgain (outcome s r) (outcome (final (next s r) qs) r)) (λ caller key x. stays s qs rest caller key x _ refl) q.caller q.key q.command (All-head (λ r. IsDeclaration r.command) q qs are),
      others_stay (next s q) qs rest,
    )

pub declarations_again : DeclarationsAgain
declarations_again s part rest are = lists_again s part rest (others_stay s part are)
