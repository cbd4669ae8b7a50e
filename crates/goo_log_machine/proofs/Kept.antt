-- Each step keeps what holds.
use Rattle.std.proofs.Common.{◌≡◌, ◌∙◌, Bool, true, false, List, [], ◌∷◌, ◌++◌, refl, sym, ap, subst, inl, inr}
use Rattle.std.specs.Prelude.{◌⊎◌, cond, All}
use Rattle.std.proofs.lemmas.Bool.{and_parts}
use Rattle.std.proofs.lemmas.List.Elements.{All-weaker, All-nil, All-cons}
use Rattle.goo_log_machine.specs.Machine.{Point, World, Event, stacked, names, world, start, all_stay, moved, happens, run}
use Rattle.goo_log_machine.specs.Machine.Point.{Up, Applied, Down}
use Rattle.goo_log_machine.specs.Machine.Event.{Append, Withdraw, Sync, Apply, Conclude, Crash, Lose, Restart}
use Rattle.goo_log_machine.specs.Holding.{IsEndOf, finally, IsLawful, after, IsOwn, AreTheirs, IsAhead, IsPast, AllStay, AreLoose, IsFound, HoldsAt, Holds}
use Rattle.goo_log_machine.proofs.Lists.{end_end, end_stacked, end_queued}

module _ {S Q O : Type 0} (next : S → Q → S) (outcome : S → Q → O) (stays : O → Bool) (again : O → O) (law : IsLawful next outcome stays again) (first : S) where
  abbrev Base : List (Q × O) → S
  Base ps = after next outcome stays again first (names ps)

  abbrev At : Point O → List (Q × O) → List (Q × O) → List Q → S → List (List Q × O) → Type 0
  At p d l w s t = HoldsAt next outcome stays again first p d l w s t

  abbrev Ahead : S → List Q → S → Type 0
  Ahead base w s = IsAhead next outcome stays again first base w s

  abbrev Past : S → List Q → S → Type 0
  Past base w s = IsPast next outcome stays again first base w s

  -- ---- how far the registry is

  ahead_none : (base s : S) (w : List Q) → s ≡ base → Ahead base w s
  ahead_none base s [] e = e
  ahead_none base s (q ∷ w) e = inl e

  ahead_more : (base s : S) (w more : List Q) → Ahead base w s → Ahead base (w ++ more) s
  ahead_more base s [] more e = ahead_none base s more e
  ahead_more base s (q ∷ w) more (inl e) = inl e
  ahead_more base s (q ∷ w) more (inr (inl e)) = inr (inl e)
  ahead_more base s (q ∷ w) more (inr (inr h)) = inr (inr (h.0, ahead_more (next base q) s w more h.1))

  -- it is there by some entries
  by_some : (base s : S) (w : List Q) → Ahead base w s → (between : List Q) × (s ≡ finally next base between)
  by_some base s [] e = ([], e)
  by_some base s (q ∷ w) (inl e) = ([], e)
  by_some base s (q ∷ w) (inr (inl e)) = (q ∷ [], e)
  by_some base s (q ∷ w) (inr (inr h)) = let b = by_some (next base q) s w h.1 in (q ∷ b.0, b.1)

  behind : (base s : S) (q : Q) (w : List Q) → Past base (q ∷ w) s → Ahead (next base q) w s
  behind base s q w (inl e) = ahead_none (next base q) s w e
  behind base s q w (inr h) = h.1

  -- ---- an entry is applied

  idle_at : (base s : S) (q : Q) (between : List Q) → stays (outcome base q) ≡ true → s ≡ finally next (next base q) between → next s q ≡ s
  idle_at base s q between stay e = ap (λ t. next t q) e ∙ law.idle_later base q between stay ∙ sym e

  told_at : (base s : S) (q : Q) (between : List Q) → stays (outcome base q) ≡ true → s ≡ finally next (next base q) between → outcome s q ≡ again (outcome base q)
  told_at base s q between stay e = ap (λ t. outcome t q) e ∙ law.told_later base q between stay

  abbrev IsDone : S → S → Q → List Q → Type 0
  IsDone base s q w = IsOwn next outcome stays again first base q (outcome s q) × Past base (q ∷ w) (next s q)

  applies : (base s : S) (q : Q) (w : List Q) → Ahead base (q ∷ w) s → IsDone base s q w
  applies base s q w (inl e) = (inl (ap (λ t. outcome t q) e), inl (ap (λ t. next t q) e))
  applies base s q w (inr (inl e)) = (
    inr (ap (λ t. outcome t q) e ∙ law.told base q),
    inl (ap (λ t. next t q) e ∙ law.idle base q),
  )
  applies base s q w (inr (inr h)) =
      let b = by_some (next base q) s w h.1 in
      let still = idle_at base s q b.0 h.0 b.1 in (
        inr (told_at base s q b.0 h.0 b.1),
        inr (h.0, let P : S → Type 0 = λ t. Ahead (next base q) w t in subst P (sym still) h.1),
      )

  -- ---- outcomes that stay

  own_stays : (s : S) (q : Q) (o : O) → IsOwn next outcome stays again first s q o → stays o ≡ true → stays (outcome s q) ≡ true
  own_stays s q o (inl e) h = ap stays (sym e) ∙ h
  own_stays s q o (inr e) h = sym (law.same (outcome s q)) ∙ ap stays (sym e) ∙ h

  all_own_stay : (l d : List (Q × O)) → AreTheirs next outcome stays again first (l ++ d) → all_stay next outcome stays l ≡ true → AllStay next outcome stays again first l d
  all_own_stay [] d h a = tt
  all_own_stay (p ∷ l) d h a =
      let both = and_parts (stays p.1) (all_stay next outcome stays l) a in
      (own_stays (Base (l ++ d)) p.0 p.1 h.0 both.0, all_own_stay l d h.1 both.1)

  loose_all : (l d : List (Q × O)) (s : S) → AllStay next outcome stays again first l d → AreLoose next outcome stays again first l d s
  loose_all [] d s a = tt
  loose_all (p ∷ l) d s a = (inl a.0, a.1)

  -- ---- each step

  found_in : (all more : List Q) (a : List Q × O) → IsEndOf all more → IsFound next outcome stays again first all a → IsFound next outcome stays again first more a
  found_in all more a e f = record { own = f.own; stands = end_end a.0 all more f.stands e }

  all_found_in : (all more : List Q) (t : List (List Q × O)) → IsEndOf all more → All (IsFound next outcome stays again first all) t → All (IsFound next outcome stays again first more) t
  all_found_in all more t e f = All-weaker _ _ (λ a. found_in all more a e) t f

  syncs : (d l : List (Q × O)) (w more : List Q) (s : S) (t : List (List Q × O)) → At Up d l w s t → At Up (l ++ d) [] (w ++ more) s t
  syncs d l w more s t h = record {
    state = ahead_more (Base (l ++ d)) s w more h.state;
    loose = tt;
    recorded = h.recorded;
    found = all_found_in _ _ t (end_queued w more (names (l ++ d))) h.found;
  }

  restarts : (d l : List (Q × O)) (w more : List Q) (s : S) (t : List (List Q × O)) → At Down d l w s t → At Up (l ++ d) [] (w ++ more) s t
  restarts d l w more s t h = record {
    state = ahead_more (Base (l ++ d)) s w more h.state;
    loose = tt;
    recorded = h.recorded;
    found = all_found_in _ _ t (end_queued w more (names (l ++ d))) h.found;
  }

  applied : (d l : List (Q × O)) (q : Q) (w f : List Q) (s : S) (t : List (List Q × O)) (b : Bool) → all_stay next outcome stays l ≡ b → At Up d l (q ∷ w) s t
      → Holds next outcome stays again first (cond b (world (Applied (outcome s q)) d l (q ∷ w) f (next s q) t) (world Up d l (q ∷ w) f s t))
  applied d l q w f s t true a h = record {
    state = applies (Base (l ++ d)) s q w h.state;
    loose = all_own_stay l d h.recorded a;
    recorded = h.recorded;
    found = h.found;
  }
  applied d l q w f s t false a h = h

  concludes : (d l : List (Q × O)) (q : Q) (o : O) (w : List Q) (s : S) (t : List (List Q × O)) → At (Applied o) d l (q ∷ w) s t
      → At Up d ((q, o) ∷ l) w s ((q ∷ names (l ++ d), o) ∷ t)
  concludes d l q o w s t h = record {
    state = behind (Base (l ++ d)) s q w h.state.1;
    loose = (loose_head (Base (l ++ d)) s q w h.state.1, h.loose);
    recorded = (h.state.0, h.recorded);
    found =
        let here : IsFound next outcome stays again first (stacked w (q ∷ names (l ++ d))) (q ∷ names (l ++ d), o) =
        record { own = h.state.0; stands = end_stacked w (q ∷ names (l ++ d)) } in
        All-cons (IsFound next outcome stays again first (stacked w (q ∷ names (l ++ d)))) (q ∷ names (l ++ d), o) t here h.found;
  }
    where
      loose_head : (base s : S) (q : Q) (w : List Q) → Past base (q ∷ w) s → (stays (outcome base q) ≡ true) ⊎ (s ≡ next base q)
      loose_head base s q w (inl e) = inr e
      loose_head base s q w (inr h) = inl h.0

  crashes : (o : O) (d l : List (Q × O)) (w : List Q) (s : S) (t : List (List Q × O)) → At (Applied o) d l w s t → At Down d l w s t
  crashes o d l [] s t h = absurd h.state.0
  crashes o d l (q ∷ w) s t h = record { state = inr h.state.1; loose = loose_all l d s h.loose; recorded = h.recorded; found = h.found }

  unspoken : (p : Q × O) (d l : List (Q × O)) (w : List Q) (s : S) (t : List (List Q × O)) → At Down d (p ∷ l) w s t → At Down d l (p.0 ∷ w) s t
  unspoken p d l w s t h = record {
    state = back (Base (l ++ d)) s p.0 w h.loose.0 h.state;
    loose = loose_all l d s h.loose.1;
    recorded = h.recorded.1;
    found = h.found;
  }
    where
      back : (base s : S) (q : Q) (w : List Q) → (stays (outcome base q) ≡ true) ⊎ (s ≡ next base q) → Ahead (next base q) w s → Ahead base (q ∷ w) s
      back base s q w (inl stay) a = inr (inr (stay, a))
      back base s q w (inr e) a = inr (inl e)

  step : (p : Point O) (d l : List (Q × O)) (w f : List Q) (s : S) (t : List (List Q × O)) (e : Event Q) → At p d l w s t
      → Holds next outcome stays again first (moved next outcome stays p d l w f s t e)
  step Up d l [] f s t (Append q) h = h
  step Up d l (v ∷ w) f s t (Append q) h = h
  step Up d l w f s t Withdraw h = h
  step Up d l w f s t Sync h = syncs d l w (stacked f []) s t h
  step Up d l [] f s t Apply h = h
  step Up d l (q ∷ w) f s t Apply h = applied d l q w f s t (all_stay next outcome stays l) refl h
  step Up d l w f s t Conclude h = h
  step Up d l w f s t Crash h = record { state = h.state; loose = h.loose; recorded = h.recorded; found = h.found }
  step Up d l w f s t Lose h = h
  step Up d l w f s t Restart h = h
  step (Applied o) d l w f s t (Append q) h = h
  step (Applied o) d l w f s t Withdraw h = h
  step (Applied o) d l w f s t Sync h = h
  step (Applied o) d l w f s t Apply h = h
  step (Applied o) d l [] f s t Conclude h = h
  step (Applied o) d l (q ∷ w) f s t Conclude h = concludes d l q o w s t h
  step (Applied o) d l w f s t Crash h = crashes o d l w s t h
  step (Applied o) d l w f s t Lose h = h
  step (Applied o) d l w f s t Restart h = h
  step Down d l w f s t (Append q) h = h
  step Down d l w f s t Withdraw h = h
  step Down d l w f s t Sync h = h
  step Down d l w f s t Apply h = h
  step Down d l w f s t Conclude h = h
  step Down d l w f s t Crash h = h
  step Down d l w (q ∷ f) s t Lose h = h
  step Down d [] w [] s t Lose h = h
  step Down d (p ∷ l) w [] s t Lose h = unspoken p d l w s t h
  step Down d l w f s t Restart h = restarts d l w (stacked f []) s t h

  pub runs : (events : List (Event Q)) (w : World S Q O) → Holds next outcome stays again first w → Holds next outcome stays again first (run next outcome stays events w)
  runs [] w h = h
  runs (e ∷ es) w h = runs es (happens next outcome stays w e) (step w.point w.done w.loose w.waiting w.fresh w.state w.told e h)

  pub begins : Holds next outcome stays again first (start first)
  begins = record { state = refl; loose = tt; recorded = tt; found = All-nil (IsFound next outcome stays again first []) }
