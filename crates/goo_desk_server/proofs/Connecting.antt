-- Connections one after another.
use Rattle.std.proofs.Common.{◌≡◌, ◌≢◌, ◌⊎◌, ◌∙◌, ◌<◌, ◌+◌, ℕ, zero, suc, List, Option, Result, Ok, Err, IsErrAnd, refl, sym, ap, arith, subst, inl, inr}
use Rattle.goo_spec.specs.State.{State}
use Rattle.goo_core_shelf.specs.Crash.{FindsOnly, FindsNoMore}
use Rattle.goo_core_shelf.specs.Desk.{Seen}
use Rattle.goo_desk_listener.specs.Clients.{Accepts, Address, Clients, Closed, GivesBack, GoesOn, KeepsClients}
use Rattle.goo_desk_backend.specs.Backends.{Showing, Importing, Beginning}
use Rattle.goo_desk_answers.specs.Brought.{FindsLeft}
use Rattle.goo_desk_server.specs.Connects.{Connects, IsLatest}
use Rattle.goo_desk_server.specs.Serving.{ConnectsAs, FindsAfter, IsCounted, IsEnded, IsNext, IsServed, NextBy, ServesAll, ServesNext, ServesTo, Steps}
use Rattle.goo_desk_server.specs.declared.server_fault.ServerFault.{ServerFault}
use Rattle.goo_desk_server.specs.declared.server_fault.ServerFault.TheVariants.{Write, Accept, Store, Memory}

-- ---- what listeners go on from

pub same_clients : (c : Clients) → GoesOn c c
same_clients c = record { kept = refl; earlier = λ number low. refl }

-- it listens, or does no longer
pub still_listening : (old new : Clients) → KeepsClients old new → GoesOn old new
still_listening old new kept = subst (λ (c : Clients). GoesOn old c) (sym kept) (record { kept = refl; earlier = λ number low. refl })

sends_kept : (from now : Clients) → GoesOn from now → now.sends ≡ from.sends
sends_kept from now on = ap (λ (c : Clients). c.sends) on.kept

fresh_kept : (from now : Clients) → GoesOn from now → now.fresh ≡ from.fresh
fresh_kept from now on = ap (λ (c : Clients). c.fresh) on.kept

-- of those accepted, as more were
goes_further : (from mid now : Clients) (count : ℕ) → mid.accepted ≡ from.accepted + count → GoesOn from mid → GoesOn mid now → GoesOn from now
goes_further from mid now count is one two = record {
  kept = two.kept ∙ ap (λ (c : ℕ → Option (List ℕ)). record { accepted = now.accepted; sends = c; fresh = mid.fresh; closed = now.closed; at = now.at }) (sends_kept from mid one)
      ∙ ap (λ (h : Option (List ℕ)). record { accepted = now.accepted; sends = from.sends; fresh = h; closed = now.closed; at = now.at }) (fresh_kept from mid one);
  earlier = λ number low. two.earlier number (let e : number < mid.accepted = omega (arith, low, is) in e) ∙ one.earlier number low;
}

-- what is so of a connection that was accepted stays so
as_before : (P : Option (List ℕ) → Option (List ℕ) → Closed → Type 0) (mid now : Clients) → GoesOn mid now → (number : ℕ) → number < mid.accepted → P (mid.sends number) mid.fresh (mid.closed number) → P (now.sends number) now.fresh (now.closed number)
as_before P mid now on number low is =
    subst (λ (c : Closed). P (now.sends number) now.fresh c) (sym (on.earlier number low))
    (subst (λ (h : Option (List ℕ)). P (now.sends number) h (mid.closed number)) (sym (fresh_kept mid now on))
    (subst (λ (f : ℕ → Option (List ℕ)). P (f number) mid.fresh (mid.closed number)) (sym (sends_kept mid now on)) is))

is_none : (n : ℕ) → (n ≡ 0) ⊎ (n ≢ 0)
is_none zero = inl refl
is_none (suc n) = inr (λ (e : suc n ≡ 0). absurd (omega (arith, e)))

module _ (shows : Showing) (imports : Importing) (begins : Beginning) where
  module _ (mid now : Clients) (on : GoesOn mid now) (was : ℕ) where
    one_still : (count : ℕ) (old new : Seen) → was + count < mid.accepted → ConnectsAs shows imports begins mid (was + count) old new → ConnectsAs shows imports begins now (was + count) old new
    one_still count old new low one = as_before (λ k h c. Connects shows imports begins k h c old new) mid now on (was + count) low one

    steps_still : (count : ℕ) (old new : Seen) → was + count < suc mid.accepted → Steps shows imports begins mid was count old new → Steps shows imports begins now was count old new
    steps_still zero old new low is = is
    steps_still (suc count) old new low (last, so, one) =
        (last, steps_still count old last (let e : was + count < suc mid.accepted = omega (arith, low) in e) so, one_still count last new (let e : was + count < mid.accepted = omega (arith, low) in e) one)

    finds_still : (count : ℕ) (old new : Seen) (leaves : Option State → Type 0) → was + count < suc mid.accepted → FindsAfter shows imports begins mid was count old new leaves → FindsAfter shows imports begins now was count old new leaves
    finds_still zero old new leaves low is = is
    finds_still (suc count) old new leaves low (last, so, inl (bad, one, others)) =
        let less : was + count < mid.accepted = omega (arith, low) in
        let same : was + count < suc mid.accepted = omega (arith, low) in
        (last, steps_still count old last same so, inl (bad, one_still count last new less one, finds_still count old last leaves same others))
    finds_still (suc count) old new leaves low (last, so, inr (sure, one)) =
        let less : was + count < mid.accepted = omega (arith, low) in
        let same : was + count < suc mid.accepted = omega (arith, low) in
        (last, steps_still count old last same so, inr (sure, as_before (λ k h c. (one : Connects shows imports begins k h c last new) × FindsLeft leaves last.state one.bytes) mid now on (was + count) less one))

  -- so it is where a crash finds nothing that it would not have found before
  pub finds_fewer : (clients : Clients) (was count : ℕ) (first last : Seen) (before after : Option State → Type 0) → FindsNoMore before after
      → FindsAfter shows imports begins clients was count first last before → FindsAfter shows imports begins clients was count first last after
  finds_fewer clients was zero first last before after less only = λ o left. only o (less o left)
  finds_fewer clients was (suc count) first last before after less (mid, steps, inl (bad, one, others)) = (mid, steps, inl (bad, one, finds_fewer clients was count first mid before after less others))
  finds_fewer clients was (suc count) first last before after less (mid, steps, inr (sure, (one, found))) = (mid, steps, inr (sure, (one, λ o left. found o (less o left))))

  -- ---- one connection more

  -- it was accepted, served and given back
  accepted_next : (old mid now : Clients) (input output : Option (List ℕ)) (closed : Closed) (s t : Seen) (before after : Option State → Type 0) → Accepts old mid input output → GivesBack closed mid now
      → IsLatest shows imports begins input output closed s t before after → ServesNext shows imports begins old now s t before after
  accepted_next old mid now input output closed s t before after accepts gives latest =
      let counted : mid.accepted ≡ old.accepted + 1 = ap (λ (c : Clients). c.accepted) accepts.counted in
      let sends : now.sends ≡ old.sends = ap (λ (c : Clients). c.sends) gives.kept ∙ ap (λ (c : Clients). c.sends) accepts.counted in
      let fresh : now.fresh ≡ old.fresh = ap (λ (c : Clients). c.fresh) gives.kept ∙ ap (λ (c : Clients). c.fresh) accepts.counted in
      let same : now.accepted ≡ mid.accepted = ap (λ (c : Clients). c.accepted) gives.kept in
      let next : mid.accepted ≡ suc old.accepted = omega (arith, counted) in
      record {
        counted = same ∙ counted;
        goes_on = record {
          kept = gives.kept ∙ ap (λ (n : ℕ). record { accepted = n; sends = mid.sends; fresh = mid.fresh; closed = now.closed; at = mid.at }) (sym same)
              ∙ ap (λ (c : Clients). record { accepted = now.accepted; sends = c.sends; fresh = c.fresh; closed = now.closed; at = mid.at }) accepts.counted
              ∙ ap (λ (a : Option Address). record { accepted = now.accepted; sends = old.sends; fresh = old.fresh; closed = now.closed; at = a }) (sym (ap (λ (c : Clients). c.at) gives.kept));
          earlier = λ number low. gives.others number (let e : suc number < mid.accepted = omega (arith, low, next) in e) ∙ ap (λ (c : Clients). c.closed number) accepts.counted;
        };
        latest = subst (λ (c : Closed). IsLatest shows imports begins (now.sends old.accepted) now.fresh c s t before after) (sym (gives.closed old.accepted next))
            (subst (λ (h : Option (List ℕ)). IsLatest shows imports begins (now.sends old.accepted) h closed s t before after) (accepts.unsent ∙ sym fresh)
            (subst (λ (k : Option (List ℕ)). IsLatest shows imports begins k output closed s t before after) (accepts.heard ∙ ap (λ (f : ℕ → Option (List ℕ)). f old.accepted) (sym sends)) latest));
      }

  next_by : (r : Result (Unit {0}) ServerFault) (old now : Clients) (s t : Seen) (before after : Option State → Type 0) → IsServed r → ServesNext shows imports begins old now s t before after → NextBy shows imports begins old now s t before after r
  next_by (Ok x) old now s t before after ends next = next
  next_by (Err Store) old now s t before after ends next = next
  next_by (Err Accept) old now s t before after ends next = absurd ends
  next_by (Err Write) old now s t before after ends next = absurd ends
  next_by (Err Memory) old now s t before after ends next = absurd ends

  pub by_serving : (r : Result (Unit {0}) ServerFault) (old mid now : Clients) (input output : Option (List ℕ)) (closed : Closed) (s t : Seen) (before after : Option State → Type 0) → IsEnded r s t → Accepts old mid input output → GivesBack closed mid now
      → IsLatest shows imports begins input output closed s t before after → IsNext shows imports begins old now s t before after r
  by_serving r old mid now input output closed s t before after ended accepts gives latest = record {
    next = next_by r old now s t before after ended.served (accepted_next old mid now input output closed s t before after accepts gives latest);
    at = ap (λ (c : Clients). c.at) gives.kept ∙ ap (λ (c : Clients). c.at) accepts.counted;
    told = ended.told;
  }

  -- ---- all of them

  -- none was served
  pub none_served : (from now : Clients) (m : Seen) (leaves : Option State → Type 0) → now.accepted ≡ from.accepted → GoesOn from now → (m.defects ≡ 0 → FindsOnly leaves m.state) → ServesTo shows imports begins from now m m leaves
  none_served from now m leaves is on settled = record { count = 0; counted = let e : now.accepted ≡ from.accepted + 0 = omega (arith, is) in e; goes_on = on; steps = refl; found = λ runs honest sure. settled sure }

  module _ (from mid now : Clients) (first m last : Seen) (before after : Option State → Type 0) (so : ServesTo shows imports begins from mid first m before) where
    -- one more was
    one_served : ServesNext shows imports begins mid now m last before after → ServesTo shows imports begins from now first last after
    one_served next =
        let number = from.accepted + so.count in
        let low : number < suc mid.accepted = omega (arith, so.counted) in
        let latest : IsLatest shows imports begins (now.sends number) now.fresh (now.closed number) m last before after = subst (λ n. IsLatest shows imports begins (now.sends n) now.fresh (now.closed n) m last before after) so.counted next.latest in
        let steps = steps_still mid now next.goes_on from.accepted so.count first m low so.steps in
        record {
          count = suc so.count;
          counted = let e : now.accepted ≡ from.accepted + suc so.count = omega (arith, next.counted, so.counted) in e;
          goes_on = goes_further from mid now so.count so.counted so.goes_on next.goes_on;
          steps = (m, steps, latest.one);
          found = λ runs honest sure. (
            m,
            steps,
            elim (is_none m.defects) [
              | inl fine ↦ inr (fine, (latest.one, latest.crash runs honest fine))
              | inr bad ↦ inl (
                bad,
                latest.one,
                finds_fewer now from.accepted so.count first m before after (latest.shut honest bad)
                    (finds_still mid now next.goes_on from.accepted so.count first m before low (so.found runs (latest.one.corruptions_stay honest) sure)),
              )
            ],
          );
        }

    -- none could be accepted
    none_next : now ≡ mid → last ≡ m → FindsNoMore before after → ServesTo shows imports begins from now first last after
    none_next is same less =
        subst (λ (c : Clients). ServesTo shows imports begins from c first last after) (sym is)
        (subst (λ (x : Seen). ServesTo shows imports begins from mid first x after) (sym same) (record {
          count = so.count;
          counted = so.counted;
          goes_on = so.goes_on;
          steps = so.steps;
          found = λ runs honest sure. finds_fewer mid from.accepted so.count first m before after less (so.found runs honest sure);
        }))

    served_by : (r : Result (Unit {0}) ServerFault) → NextBy shows imports begins mid now m last before after r → ServesTo shows imports begins from now first last after
    served_by (Ok x) next = one_served next
    served_by (Err Store) next = one_served next
    served_by (Err Accept) (is, same, less) = none_next is same less
    served_by (Err Write) next = absurd next
    served_by (Err Memory) next = absurd next

    pub next_served : (r : Result (Unit {0}) ServerFault) → IsNext shows imports begins mid now m last before after r → ServesTo shows imports begins from now first last after
    next_served r next = served_by r next.next

    -- the last of those that were accepted, by the fault that ended all
    counted_by : (fault : ServerFault) (asked count : ℕ) → mid.accepted ≡ from.accepted + count → count < asked → NextBy shows imports begins mid now m last before after (Err fault) → IsCounted {T = Unit {0}} (Err fault) from.accepted now.accepted asked
    counted_by Accept asked count is low (same, rest, less) =
        let one : now.accepted ≡ mid.accepted = ap (λ (c : Clients). c.accepted) same in
        (omega (arith, is, one), omega (arith, is, low, one))
    counted_by Store asked count is low next = (omega (arith, is, next.counted), omega (arith, is, low, next.counted))
    counted_by Write asked count is low next = absurd next
    counted_by Memory asked count is low next = absurd next

    pub stopped : (r : Result (Unit {0}) ServerFault) (fault : ServerFault) (asked count : ℕ) → IsErrAnd r (λ f. f ≡ fault) → mid.accepted ≡ from.accepted + count → count < asked → (first.refusals ≡ 0 → m.refusals ≡ 0) → mid.at ≡ from.at
        → IsNext shows imports begins mid now m last before after (Err fault) → ServesAll shows imports begins from now first last after asked r
    stopped (Ok x) fault asked count same is low quiet at next = absurd same
    stopped (Err f) fault asked count same is low quiet at next =
        subst (λ (e : ServerFault). ServesAll shows imports begins from now first last after asked (Err e)) (sym same) (record {
          serves = served_by (Err fault) next.next;
          counted = counted_by fault asked count is low next.next;
          at = next.at ∙ at;
          told = λ none. next.told (quiet none);
        })

  -- what was corrupted stays so
  pub steps_honest : (clients : Clients) (was count : ℕ) (first last : Seen) → Steps shows imports begins clients was count first last → last.corruptions ≡ 0 → first.corruptions ≡ 0
  steps_honest clients was zero first last is honest = subst (λ (m : Seen). m.corruptions ≡ 0) is honest
  steps_honest clients was (suc count) first last (mid, so, one) honest = steps_honest clients was count first mid so (one.corruptions_stay honest)

  pub serves_honest : (from now : Clients) (first last : Seen) (leaves : Option State → Type 0) → ServesTo shows imports begins from now first last leaves → last.corruptions ≡ 0 → first.corruptions ≡ 0
  serves_honest from now first last leaves serves = steps_honest now from.accepted serves.count first last serves.steps

  -- a crash may find less
  pub serves_fewer : (from now : Clients) (first last : Seen) (before after : Option State → Type 0) → FindsNoMore before after → ServesTo shows imports begins from now first last before → ServesTo shows imports begins from now first last after
  serves_fewer from now first last before after less serves = record {
    count = serves.count;
    counted = serves.counted;
    goes_on = serves.goes_on;
    steps = serves.steps;
    found = λ runs honest sure. finds_fewer now from.accepted serves.count first last before after less (serves.found runs honest sure);
  }

  -- it began to listen first
  pub listened : (from mid now : Clients) (first last : Seen) (leaves : Option State → Type 0) → KeepsClients from mid → ServesTo shows imports begins mid now first last leaves → ServesTo shows imports begins from now first last leaves
  listened from mid now first last leaves kept serves =
      let is = subst (λ (c : Clients). ServesTo shows imports begins c now first last leaves) kept serves in
      record { count = is.count; counted = is.counted; goes_on = record { kept = is.goes_on.kept; earlier = is.goes_on.earlier }; steps = is.steps; found = is.found }
