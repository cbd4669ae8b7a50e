-- Cancelled once, after any list of events.
use Rattle.std.proofs.Common.{◌≡◌, ◌≢◌, ℕ, ◌+◌, ◌≤◌, ◌==◌, ◌&&◌, Bool, true, false, cond, List, [], ◌∷◌, Option, Some, None, refl, sym, ap, ◌∙◌, arith, ⊎_elim}
use Rattle.std.specs.FinMap.{get, contains_key}
use Rattle.std.proofs.lemmas.Bool.{true≢false, and_parts, eqb-true, or_cases, false_from_ne_true}
use Rattle.goo_types.specs.Number.{code_of}
use Rattle.goo_types.specs.Notice.{NoticeContents}
use Rattle.goo_types.specs.declared.lot_fields.LotFields.{LotFields}
use Rattle.goo_types.specs.declared.place.Place.TheVariants as place
use Rattle.goo_types.specs.declared.command.Command.{Command}
use Rattle.goo_types.specs.declared.command.Command.TheVariants.{OpenHolder, OpenAccount, CloseAccount, RegisterDevice, Declare, Correct, Transfer, Cancel, Withdraw, Advance, AddPeer, Export, Import}
use Rattle.goo_types.specs.declared.request.Request.{Request}
use Rattle.goo_types.specs.declared.outcome.Outcome.{Outcome}
use Rattle.goo_types.specs.declared.outcome.Outcome.TheVariants.{Accepted, Repeated, Refused}
use Rattle.goo_spec.specs.State.{State}
use Rattle.goo_spec.specs.Step.{outcome, next}
use Rattle.goo_spec_laws.specs.Ways.{Known}
use Rattle.goo_spec_one_home.specs.World.{World, Event, Asks, Delivers, where_at, contains, nth, stepped, is_import, import_of, delivered, happens_at, happens, run, start, one, count, is_home, roads}
use Rattle.goo_spec_one_home.proofs.Counts.{put-has, put-here}
use Rattle.goo_spec_one_home.proofs.Keeps.{Keeps}
use Rattle.goo_spec_one_home.proofs.Runs.{happens_goes, run_goes, start_keeps}
use Rattle.goo_spec_one_use.specs.Used.{is_cancelled, cancels, is_cancelling, times_cancelled, CancelledOnce, CancelledForGood}
use Rattle.goo_spec_one_use.proofs.Staying.{IsUnused, cancelled_stays}
use Rattle.goo_spec_one_use.proofs.Cancelling.{used}

-- ---- two homes are one too many

one_in : (p : ℕ → Bool) (a : ℕ) (codes : List ℕ) → contains a codes ≡ true → p a ≡ true → 1 ≤ count p codes
one_in p a [] has is = absurd (true≢false (sym has))
one_in p a (c ∷ cs) has is = ⊎_elim
    (λ (here : (c == a) ≡ true). let head : one (p c) ≡ 1 = ap one (ap p (eqb-true c a here) ∙ is) in omega (arith, head))
    (λ (later : contains a cs ≡ true). let rest = one_in p a cs later is in omega (arith, rest))
    (or_cases (c == a) (contains a cs) has)

two_first : (p : ℕ → Bool) (a b c : ℕ) (cs : List ℕ) → a ≢ b → (c == a) ≡ true → contains b (c ∷ cs) ≡ true → p a ≡ true → p b ≡ true → 2 ≤ count p (c ∷ cs)
two_first p a b c cs apart here has_b is_a is_b = ⊎_elim
    (λ (also : (c == b) ≡ true). absurd (apart (sym (eqb-true c a here) ∙ eqb-true c b also)))
    (λ (later : contains b cs ≡ true).
    let head : one (p c) ≡ 1 = ap one (ap p (eqb-true c a here) ∙ is_a) in
    let rest = one_in p b cs later is_b in
    omega (arith, head, rest))
    (or_cases (c == b) (contains b cs) has_b)

two_in : (p : ℕ → Bool) (a b : ℕ) (codes : List ℕ) → a ≢ b → contains a codes ≡ true → contains b codes ≡ true → p a ≡ true → p b ≡ true → 2 ≤ count p codes
two_in p a b [] apart has_a has_b is_a is_b = absurd (true≢false (sym has_a))
two_in p a b (c ∷ cs) apart has_a has_b is_a is_b = ⊎_elim
    (λ (here : (c == a) ≡ true). two_first p a b c cs apart here has_b is_a is_b)
    (λ (later_a : contains a cs ≡ true). ⊎_elim
    (λ (here : (c == b) ≡ true). two_first p b a c cs (λ e. apart (sym e)) here has_a is_b is_a)
    (λ (later_b : contains b cs ≡ true). let rest = two_in p a b cs apart later_a later_b is_a is_b in omega (arith, rest))
    (or_cases (c == b) (contains b cs) has_b))
    (or_cases (c == a) (contains a cs) has_a)

one_at_most : (b : Bool) → one b ≤ 1
one_at_most true = omega arith
one_at_most false = omega arith

module _ (w : World) (h : Keeps w) (n : ℕ) where
  -- a certificate at home in two registries is at home in one
  same_home : (a b : ℕ) → contains a w.codes ≡ true → contains b w.codes ≡ true → is_home (get (w.state a).at n) ≡ true → is_home (get (w.state b).at n) ≡ true → a ≢ b → ⊥
  same_home a b has_a has_b is_a is_b apart =
      let two = two_in (λ c. is_home (get (w.state c).at n)) a b w.codes apart has_a has_b is_a is_b in
      let all = h.sum n in
      let few = one_at_most (contains (code_of n) w.codes && contains_key (w.state (code_of n)).at n) in
      absurd (omega (arith, two, all, few))

  none_on_road : (a : ℕ) → contains a w.codes ≡ true → is_home (get (w.state a).at n) ≡ true → roads w n ≡ 0
  none_on_road a has_a is_a =
      let first = one_in (λ c. is_home (get (w.state c).at n)) a w.codes has_a is_a in
      let all = h.sum n in
      let few = one_at_most (contains (code_of n) w.codes && contains_key (w.state (code_of n)).at n) in
      omega (arith, first, all, few)

-- ---- of what is known

home_cancelled : (o : Known) → is_cancelled o ≡ true → is_home o ≡ true
home_cancelled None is = absurd (true≢false (sym is))
home_cancelled (Some (lot, place.Held a)) is = refl
home_cancelled (Some (lot, place.Cancelled a k)) is = refl
home_cancelled (Some (lot, place.Expired a)) is = refl
home_cancelled (Some (lot, place.Withdrawn a k)) is = refl
home_cancelled (Some (lot, place.Exported a k)) is = absurd (true≢false (sym is))

-- ---- one event

unused_at : (w : World) (h : Keeps w) (c n : ℕ) → IsUnused (w.state c) n
unused_at w h c n code serial = h.below c n (code ∙ h.own c) serial

stays_known : (s : State) (q : Request) (n : ℕ) (o : Known) → get s.at n ≡ o → is_cancelled o ≡ true → IsUnused s n → get (next s q).at n ≡ get s.at n
stays_known s q n None is cancelled unused = absurd (true≢false (sym cancelled))
stays_known s q n (Some (lot, place.Held a)) is cancelled unused = absurd (true≢false (sym cancelled))
stays_known s q n (Some (lot, place.Cancelled a k)) is cancelled unused = cancelled_stays s q n a k lot is unused
stays_known s q n (Some (lot, place.Expired a)) is cancelled unused = absurd (true≢false (sym cancelled))
stays_known s q n (Some (lot, place.Withdrawn a k)) is cancelled unused = absurd (true≢false (sym cancelled))
stays_known s q n (Some (lot, place.Exported a k)) is cancelled unused = absurd (true≢false (sym cancelled))

-- a registry in which the certificate is cancelled has it in the same place after
abbrev StaysIn : World → World → ℕ → ℕ → Type 0
StaysIn w v n c = is_cancelled (get (w.state c).at n) ≡ true → get (v.state c).at n ≡ get (w.state c).at n

module _ (w : World) (h : Keeps w) (n : ℕ) where
  step_stays : (code : ℕ) (q : Request) (c : ℕ) → StaysIn w (stepped w code q) n c
  step_stays code q c = put-has (λ d r. is_cancelled (get (w.state d).at n) ≡ true → get r.at n ≡ get (w.state d).at n) w.state code (next (w.state code) q)
      (λ cancelled. stays_known (w.state code) q n (get (w.state code).at n) refl cancelled (unused_at w h code n))
      (λ d cancelled. refl)
      c

  asks_stays : (code : ℕ) (q : Request) (b : Bool) (c : ℕ) → StaysIn w (cond b w (stepped w code q)) n c
  asks_stays code q true c = λ cancelled. refl
  asks_stays code q false c = step_stays code q c

  delivers_stays : (code : ℕ) (caller key : List ℕ) (o : Option NoticeContents) (c : ℕ) → StaysIn w (delivered w code caller key o) n c
  delivers_stays code caller key None c = λ cancelled. refl
  delivers_stays code caller key (Some m) c = step_stays code (import_of m caller key) c

  event_stays : (e : Event) (c : ℕ) → StaysIn w (happens_at w e) n c
  event_stays (Asks code q) c = asks_stays code q (is_import q.command) c
  event_stays (Delivers code which caller key) c = delivers_stays code caller key (nth w.sent which) c

  happens_by : (e : Event) (b : Bool) (c : ℕ) → StaysIn w (cond b (happens_at w e) w) n c
  happens_by e true c = event_stays e c
  happens_by e false c = λ cancelled. refl

  happens_stays : (e : Event) (c : ℕ) → StaysIn w (happens w e) n c
  happens_stays e c = happens_by e (contains (where_at e) w.codes) c

-- no event changes the registries
asks_codes : (w : World) (code : ℕ) (q : Request) (b : Bool) → (cond b w (stepped w code q)).codes ≡ w.codes
asks_codes w code q true = refl
asks_codes w code q false = refl

delivers_codes : (w : World) (code : ℕ) (caller key : List ℕ) (o : Option NoticeContents) → (delivered w code caller key o).codes ≡ w.codes
delivers_codes w code caller key None = refl
delivers_codes w code caller key (Some m) = refl

event_codes : (w : World) (e : Event) → (happens_at w e).codes ≡ w.codes
event_codes w (Asks code q) = asks_codes w code q (is_import q.command)
event_codes w (Delivers code which caller key) = delivers_codes w code caller key (nth w.sent which)

happens_codes_by : (w : World) (e : Event) (b : Bool) → (cond b (happens_at w e) w).codes ≡ w.codes
happens_codes_by w e true = event_codes w e
happens_codes_by w e false = refl

happens_codes : (w : World) (e : Event) → (happens w e).codes ≡ w.codes
happens_codes w e = happens_codes_by w e (contains (where_at e) w.codes)

-- ---- what an event cancels was held, and is cancelled after

held_isnt : (o : Known) (lot : LotFields) (a : ℕ) → o ≡ Some (lot, place.Held a) → is_cancelled o ≡ true → ⊥
held_isnt o lot a is cancelled = true≢false (sym cancelled ∙ ap is_cancelled is)

module _ (w : World) (h : Keeps w) (n : ℕ) where
  -- where one registry has cancelled it, no event cancels it
  none_cancels : (c : ℕ) → contains c w.codes ≡ true → is_cancelled (get (w.state c).at n) ≡ true → (e : Event) → is_cancelling w e n ≡ true → ⊥
  none_cancels c here cancelled (Delivers code which caller key) by = true≢false (sym (and_parts (contains code w.codes) false by).1)
  none_cancels c here cancelled (Asks code q) by =
      let parts = and_parts (contains code w.codes) (cancels (outcome (w.state code) q) q.command n) by in
      let u = used (w.state code) q n parts.1 in
      same_home w h n c code here parts.0 (home_cancelled (get (w.state c).at n) cancelled) (ap is_home u.was)
      (λ (same : c ≡ code). held_isnt (get (w.state c).at n) u.lot u.account (ap (λ d. get (w.state d).at n) same ∙ u.was) cancelled)

-- an import cancels nothing
imports_none : (o : Outcome) (command : Command) (n : ℕ) → is_import command ≡ true → cancels o command n ≡ true → ⊥
imports_none (Accepted r) (Cancel x) n is by = true≢false (sym is)
imports_none (Accepted r) (OpenHolder x) n is by = true≢false (sym is)
imports_none (Accepted r) (OpenAccount x) n is by = true≢false (sym is)
imports_none (Accepted r) (CloseAccount x) n is by = true≢false (sym is)
imports_none (Accepted r) (RegisterDevice x) n is by = true≢false (sym is)
imports_none (Accepted r) (Declare x) n is by = true≢false (sym is)
imports_none (Accepted r) (Correct x) n is by = true≢false (sym is)
imports_none (Accepted r) (Transfer x) n is by = true≢false (sym is)
imports_none (Accepted r) (Withdraw x) n is by = true≢false (sym is)
imports_none (Accepted r) (Advance x) n is by = true≢false (sym is)
imports_none (Accepted r) (AddPeer x) n is by = true≢false (sym is)
imports_none (Accepted r) (Export x) n is by = true≢false (sym is)
imports_none (Accepted r) (Import x) n is by = true≢false (sym by)
imports_none (Repeated r) command n is by = true≢false (sym by)
imports_none (Refused r) command n is by = true≢false (sym by)

step_by : (w : World) (code n : ℕ) (q : Request) (b : Bool) → is_import q.command ≡ b → cancels (outcome (w.state code) q) q.command n ≡ true → is_cancelled (get ((cond b w (stepped w code q)).state code).at n) ≡ true
step_by w code n q true is by = absurd (imports_none (outcome (w.state code) q) q.command n is by)
step_by w code n q false is by =
    let u = used (w.state code) q n by in
    ap (λ (s : State). is_cancelled (get s.at n)) (put-here w.state code (next (w.state code) q)) ∙ ap is_cancelled u.now

-- the registry in which an event cancels a certificate
record CancelsIn (w v : World) (n : ℕ) : Type 0 where
  code : ℕ
  here : contains code w.codes ≡ true
  cancelled : is_cancelled (get (v.state code).at n) ≡ true

cancels_in : (w : World) (n : ℕ) (e : Event) → is_cancelling w e n ≡ true → CancelsIn w (happens w e) n
cancels_in w n (Delivers code which caller key) by = absurd (true≢false (sym (and_parts (contains code w.codes) false by).1))
cancels_in w n (Asks code q) by =
    let parts = and_parts (contains code w.codes) (cancels (outcome (w.state code) q) q.command n) by in
    record {
      code = code;
      here = parts.0;
      cancelled = ap (λ b. is_cancelled (get ((cond b (happens_at w (Asks code q)) w).state code).at n)) parts.0 ∙ step_by w code n q (is_import q.command) refl parts.1;
    }

-- ---- all events

run_codes : (es : List Event) (w : World) → (run es w).codes ≡ w.codes
run_codes [] w = refl
run_codes (e ∷ es) w = run_codes es (happens w e) ∙ happens_codes w e

module _ (n : ℕ) where
  none_later : (es : List Event) (w : World) → Keeps w → (c : ℕ) → contains c w.codes ≡ true → is_cancelled (get (w.state c).at n) ≡ true → times_cancelled es w n ≡ 0
  none_later [] w h c here cancelled = refl
  none_later (e ∷ es) w h c here cancelled =
      let none : one (is_cancelling w e n) ≡ 0 = ap one (false_from_ne_true (is_cancelling w e n) (none_cancels w h n c here cancelled e)) in
      let rest = none_later es (happens w e) (happens_goes w e h).keeps c (ap (contains c) (happens_codes w e) ∙ here) (ap is_cancelled (happens_stays w h n e c cancelled) ∙ cancelled) in
      omega (arith, none, rest)

  once_by : (e : Event) (es : List Event) (w : World) (b : Bool) → is_cancelling w e n ≡ b → Keeps w → times_cancelled es (happens w e) n ≤ 1 → one b + times_cancelled es (happens w e) n ≤ 1
  once_by e es w true is h few =
      let found = cancels_in w n e is in
      let rest = none_later es (happens w e) (happens_goes w e h).keeps found.code (ap (contains found.code) (happens_codes w e) ∙ found.here) found.cancelled in
      omega (arith, rest)
  once_by e es w false is h few = omega (arith, few)

  once_from : (es : List Event) (w : World) → Keeps w → times_cancelled es w n ≤ 1
  once_from [] w h = omega arith
  once_from (e ∷ es) w h = once_by e es w (is_cancelling w e n) refl h (once_from es (happens w e) (happens_goes w e h).keeps)

  stays_in : (es : List Event) (w : World) → Keeps w → (c : ℕ) → is_cancelled (get (w.state c).at n) ≡ true → get ((run es w).state c).at n ≡ get (w.state c).at n
  stays_in [] w h c cancelled = refl
  stays_in (e ∷ es) w h c cancelled =
      let same = happens_stays w h n e c cancelled in
      stays_in es (happens w e) (happens_goes w e h).keeps c (ap is_cancelled same ∙ cancelled) ∙ same

pub cancelled_once : CancelledOnce
cancelled_once codes days serials events n distinct = once_from n events (start codes days serials) (start_keeps codes days serials distinct)

pub cancelled_for_good : CancelledForGood
cancelled_for_good codes days serials events later c n distinct here cancelled =
    let w = run events (start codes days serials) in
    let v = run later w in
    let keeps_w = (run_goes events (start codes days serials) (start_keeps codes days serials distinct)).keeps in
    let keeps_v = (run_goes later w keeps_w).keeps in
    let same_codes : v.codes ≡ codes = run_codes later w ∙ run_codes events (start codes days serials) in
    let same = stays_in n later w keeps_w c cancelled in
    let home : is_home (get (v.state c).at n) ≡ true = ap is_home same ∙ home_cancelled (get (w.state c).at n) cancelled in
    let in_world : (d : ℕ) → contains d codes ≡ true → contains d v.codes ≡ true = λ d is. ap (contains d) same_codes ∙ is in (
      same,
      (λ d is apart. false_from_ne_true (is_home (get (v.state d).at n)) (λ also. same_home v keeps_v n d c (in_world d is) (in_world c here) also home apart)),
      none_on_road v keeps_v n c (in_world c here) home,
    )
