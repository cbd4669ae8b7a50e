-- A world of two registries in which a certificate is issued, is on the road, and comes home.
use Rattle.std.proofs.Common.{◌≡◌, ℕ, ◌+◌, ◌++◌, Bool, true, false, cond, List, [], ◌∷◌, Some, refl, sym, ap, ◌∙◌, subst, arith}
use Rattle.std.specs.Prelude.{codes, ◌==◌}
use Rattle.std.proofs.lemmas.Bool.{eqb-true}
use Rattle.goo_types.specs.Notice.{NoticeContents}
use Rattle.goo_types.specs.declared.request.Request.{Request}
use Rattle.goo_types.specs.declared.reply.Reply.TheVariants as reply
use Rattle.goo_types.specs.declared.outcome.Outcome.{Outcome}
use Rattle.goo_types.specs.declared.outcome.Outcome.TheVariants.{Accepted}
use Rattle.goo_spec.specs.State.{State}
use Rattle.goo_spec.specs.Checks.{issuer}
use Rattle.goo_spec.specs.Step.{after, next}
use Rattle.goo_spec.proofs.ExampleRegistry.{day}
use Rattle.goo_spec_one_home.specs.World.{World, Event, Asks, Delivers, put, posted, is_import, stepped, happens, run, start, one, homes, roads, is_ever_issued}
use Rattle.goo_spec_one_home.proofs.Runs as runs
use Rattle.goo_spec_one_home.proofs.ExampleSender.{one_number, fresh, created_fresh, Steps, opens_holder, with_sun, opened_holder, opens_account, with_account_1, opened_account, registers, with_north_field, registered, adds_nine, with_nine, added_nine, declares, with_one, declared, exports, with_none, exported, sends_notice, away, notice}
use Rattle.goo_spec_one_home.proofs.ExampleReceiver.{opens_volt, with_volt, opened_volt, opens_account_9, with_account_9, opened_account_9, adds_seven, with_seven, added_seven, imports, with_imported, imported, not_there, none_arrived, there, arrived}

-- the states of registries 7 and 9
abbrev pub two : State → State → ℕ → State
two a b c = cond (c == 7) a (cond (c == 9) b (fresh c))

abbrev pub world_of : State → State → List NoticeContents → World
world_of a b sent = record { codes = 7 ∷ 9 ∷ []; state = two a b; sent = sent }

abbrev pub at_first : World
at_first = start (7 ∷ 9 ∷ []) (λ c. day 2025 3 1) (λ c. 1)

fresh_by : (c : ℕ) (s t : Bool) → (c == 7) ≡ s → (c == 9) ≡ t → fresh c ≡ cond s (fresh 7) (cond t (fresh 9) (fresh c))
fresh_by c true t seven nine = ap fresh (eqb-true c 7 seven)
fresh_by c false true seven nine = ap fresh (eqb-true c 9 nine)
fresh_by c false false seven nine = refl

starts : at_first ≡ world_of (fresh 7) (fresh 9) []
starts = λ i. record { codes = 7 ∷ 9 ∷ []; state = λ c. (created_fresh c ∙ fresh_by c (c == 7) (c == 9) refl refl) i; sent = [] }

put_seven : (a b t : State) → put (two a b) 7 t ≡ two t b
put_seven a b t = λ i c. by (c == 7) c i
  where
    by : (s : Bool) (c : ℕ) → cond s t (cond s a (cond (c == 9) b (fresh c))) ≡ cond s t (cond (c == 9) b (fresh c))
    by true c = refl
    by false c = refl

put_nine : (a b t : State) → put (two a b) 9 t ≡ two a t
put_nine a b t = λ i c. by c (c == 9) refl i
  where
    by : (c : ℕ) (s : Bool) → (c == 9) ≡ s → cond s t (cond (c == 7) a (cond s b (fresh c))) ≡ cond (c == 7) a (cond s t (fresh c))
    by c true nine = let e : c ≡ 9 = eqb-true c 9 nine in subst (λ (k : ℕ). t ≡ cond (k == 7) a t) (sym e) refl
    by c false nine = refl

module _ (a b : State) (sent : List NoticeContents) where
  -- a request at registry 7
  at_seven : (q : Request) (o : Outcome) (t : State) → is_import q.command ≡ false → Steps a q o t → happens (world_of a b sent) (Asks 7 q) ≡ world_of t b (posted a q.command o sent)
  unfolding next
  at_seven q o t other h =
      ap (λ i. cond i (world_of a b sent) (stepped (world_of a b sent) 7 q)) other
      ∙ ap (λ p. record { codes = 7 ∷ 9 ∷ []; state = put (two a b) 7 (after a q p); sent = posted a q.command p sent }) h.answer
      ∙ (λ i. record { codes = 7 ∷ 9 ∷ []; state = (ap (put (two a b) 7) h.leaves ∙ put_seven a b t) i; sent = posted a q.command o sent })

  then_seven : (q : Request) (o : Outcome) (t : State) (es : List Event) (u : World) → is_import q.command ≡ false → Steps a q o t → run es (world_of t b (posted a q.command o sent)) ≡ u
      → run (Asks 7 q ∷ es) (world_of a b sent) ≡ u
  then_seven q o t es u other h rest = ap (run es) (at_seven q o t other h) ∙ rest

  -- and at registry 9
  stepped_nine : (q : Request) (o : Outcome) (t : State) → Steps b q o t → stepped (world_of a b sent) 9 q ≡ world_of a t (posted b q.command o sent)
  unfolding next
  stepped_nine q o t h =
      ap (λ p. record { codes = 7 ∷ 9 ∷ []; state = put (two a b) 9 (after b q p); sent = posted b q.command p sent }) h.answer
      ∙ (λ i. record { codes = 7 ∷ 9 ∷ []; state = (ap (put (two a b) 9) h.leaves ∙ put_nine a b t) i; sent = posted b q.command o sent })

  at_nine : (q : Request) (o : Outcome) (t : State) → is_import q.command ≡ false → Steps b q o t → happens (world_of a b sent) (Asks 9 q) ≡ world_of a t (posted b q.command o sent)
  at_nine q o t other h = ap (λ i. cond i (world_of a b sent) (stepped (world_of a b sent) 9 q)) other ∙ stepped_nine q o t h

  then_nine : (q : Request) (o : Outcome) (t : State) (es : List Event) (u : World) → is_import q.command ≡ false → Steps b q o t → run es (world_of a t (posted b q.command o sent)) ≡ u
      → run (Asks 9 q ∷ es) (world_of a b sent) ≡ u
  then_nine q o t es u other h rest = ap (run es) (at_nine q o t other h) ∙ rest

abbrev pub at_7 : List Event
at_7 = Asks 7 opens_holder ∷ Asks 7 opens_account ∷ Asks 7 registers ∷ Asks 7 adds_nine ∷ Asks 7 declares ∷ Asks 7 exports ∷ []

abbrev pub at_9 : List Event
at_9 = Asks 9 opens_volt ∷ Asks 9 opens_account_9 ∷ Asks 9 adds_seven ∷ []

-- the certificate is sent
sent_world : run at_7 (world_of (fresh 7) (fresh 9) []) ≡ world_of with_none (fresh 9) (notice ∷ [])
sent_world =
    let end = world_of with_none (fresh 9) (notice ∷ []) in
    let from_declared = Asks 7 declares ∷ Asks 7 exports ∷ [] in
    let from_registered = Asks 7 registers ∷ Asks 7 adds_nine ∷ from_declared in
    then_seven (fresh 7) (fresh 9) [] opens_holder (Accepted reply.Done) with_sun (Asks 7 opens_account ∷ from_registered) end refl opened_holder
    (then_seven with_sun (fresh 9) [] opens_account (Accepted (reply.Account 1)) with_account_1 from_registered end refl opened_account
    (then_seven with_account_1 (fresh 9) [] registers (Accepted reply.Done) with_north_field (Asks 7 adds_nine ∷ from_declared) end refl registered
    (then_seven with_north_field (fresh 9) [] adds_nine (Accepted reply.Done) with_nine from_declared end refl added_nine
    (then_seven with_nine (fresh 9) [] declares (Accepted (reply.Declared 0 (Some one_number))) with_one (Asks 7 exports ∷ []) end refl declared
    (then_seven with_one (fresh 9) [] exports (Accepted (reply.Exported 1 1)) with_none [] end refl exported (ap (λ m. world_of with_none (fresh 9) (m ∷ [])) sends_notice))))))

-- and registry 9 is ready for it
ready_world : run at_9 (world_of with_none (fresh 9) (notice ∷ [])) ≡ world_of with_none with_seven (notice ∷ [])
ready_world =
    let end = world_of with_none with_seven (notice ∷ []) in
    then_nine with_none (fresh 9) (notice ∷ []) opens_volt (Accepted reply.Done) with_volt (Asks 9 opens_account_9 ∷ Asks 9 adds_seven ∷ []) end refl opened_volt
    (then_nine with_none with_volt (notice ∷ []) opens_account_9 (Accepted (reply.Account 1)) with_account_9 (Asks 9 adds_seven ∷ []) end refl opened_account_9
    (then_nine with_none with_account_9 (notice ∷ []) adds_seven (Accepted reply.Done) with_seven [] end refl added_seven refl))

come_world : run (Delivers 9 0 issuer (codes "4") ∷ []) (world_of with_none with_seven (notice ∷ [])) ≡ world_of with_none with_imported (notice ∷ [])
come_world = stepped_nine with_none with_seven (notice ∷ []) imports _ with_imported imported

run_more : (es fs : List Event) (w : World) → run (es ++ fs) w ≡ run fs (run es w)
run_more [] fs w = refl
run_more (e ∷ es) fs w = run_more es fs (happens w e)

abbrev pub sent_off : List Event
sent_off = at_7 ++ at_9

abbrev pub delivered : List Event
delivered = sent_off ++ Delivers 9 0 issuer (codes "4") ∷ []

off_is : run sent_off at_first ≡ world_of with_none with_seven (notice ∷ [])
off_is = ap (run sent_off) starts ∙ run_more at_7 at_9 (world_of (fresh 7) (fresh 9) []) ∙ ap (run at_9) sent_world ∙ ready_world

home_is : run delivered at_first ≡ world_of with_none with_imported (notice ∷ [])
home_is = run_more sent_off (Delivers 9 0 issuer (codes "4") ∷ []) at_first ∙ ap (run (Delivers 9 0 issuer (codes "4") ∷ [])) off_is ∙ come_world

-- sent off, it is at home nowhere and on one notice
pub is_on_the_road : (homes (run sent_off at_first) 7000000000001 ≡ 0) × (roads (run sent_off at_first) 7000000000001 ≡ 1)
is_on_the_road = (
  ap (λ w. homes w 7000000000001) off_is ∙ rw (away, not_there) refl,
  ap (λ w. roads w 7000000000001) off_is ∙ rw none_arrived refl,
)

-- delivered, it is at home in one registry and on no notice
pub is_home_again : (homes (run delivered at_first) 7000000000001 ≡ 1) × (roads (run delivered at_first) 7000000000001 ≡ 0)
is_home_again = (
  ap (λ w. homes w 7000000000001) home_is ∙ rw (away, there) refl,
  ap (λ w. roads w 7000000000001) home_is ∙ rw arrived refl,
)

-- and it was issued, as the law of one home then says
pub was_issued : is_ever_issued sent_off at_first 7000000000001 ≡ true
was_issued = by (is_ever_issued sent_off at_first 7000000000001)
    (sym (runs.one_home (7 ∷ 9 ∷ []) (λ c. day 2025 3 1) (λ c. 1) sent_off 7000000000001 (refl, (refl, tt))) ∙ (λ i. is_on_the_road.0 i + is_on_the_road.1 i))
  where
    by : (b : Bool) → one b ≡ 1 → b ≡ true
    by true e = refl
    by false e = absurd (omega (arith, e))
