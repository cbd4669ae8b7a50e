-- The laws, after any list of events.
use Rattle.std.proofs.Common.{◌≡◌, ℕ, zero, suc, ◌+◌, inl, inr, ◌&&◌, ◌||◌, Bool, true, false, cond, not, List, [], ◌∷◌, Option, Some, None, refl, sym, ap, ◌∙◌, arith}
use Rattle.std.specs.Prelude.{◌⊎◌, is_some}
use Rattle.std.specs.Ordering.{nat_cmp}
use Rattle.std.specs.FinMap.{get, get-empty}
use Rattle.std.proofs.lemmas.Bool.{true≢false, and_right}
use Rattle.goo_types.specs.Day.{CalendarDay}
use Rattle.goo_types.specs.Number.{code_of}
use Rattle.goo_types.specs.Notice.{NoticeContents}
use Rattle.goo_types.specs.declared.request.Request.{Request}
use Rattle.goo_types.specs.declared.command.Import as import
use Rattle.goo_types.specs.declared.command.Command.TheVariants.{Import}
use Rattle.goo_types.specs.declared.outcome.Outcome.{Outcome}
use Rattle.goo_types.specs.declared.outcome.Outcome.TheVariants.{Accepted, Repeated, Refused}
use Rattle.goo_spec.specs.State.{State, notice_cmp}
use Rattle.goo_spec.specs.Import.{import_reply}
use Rattle.goo_spec.specs.Created.{created}
use Rattle.goo_spec.specs.Step.{outcome, reply_to}
use Rattle.goo_spec.specs.Known.{is_in_issue}
use Rattle.goo_spec_one_home.specs.World.{notice_in, kept_notice, SentIsKept, World, Event, Asks, Delivers, where_at, contains, nth, stepped, is_import, import_of, delivered, happens_at, happens, run, AreDistinct, start, one, count, is_home, lot_of, issues_at, issues, is_ever_issued, is_known, homes, roads, OneHome, HomeOrRoad, KnownByIssuer, OneLot, OneLotSent}
use Rattle.goo_spec.proofs.Mapping.{none_some}
use Rattle.goo_spec_one_home.proofs.Effects.{has}
use Rattle.goo_spec_one_home.proofs.Keeps.{Keeps}
use Rattle.goo_spec_one_home.proofs.Steps.{Goes, was_sent, passes, step_goes}

nothing : (w : World) (new : ℕ → Bool) → ((n : ℕ) → new n ≡ false) → Keeps w → Goes w w new
nothing w new none h = record { keeps = h; known = λ n. ap (λ b. b || is_known w n) (sym (none n)) }

-- the same, where what is new is said otherwise
told : (w v : World) (new also : ℕ → Bool) → ((n : ℕ) → new n ≡ also n) → Goes w v new → Goes w v also
told w v new also same g = record { keeps = g.keeps; known = λ n. g.known n ∙ ap (λ b. b || is_known w n) (same n) }

-- ---- one event

asks_by : (w : World) (c : ℕ) (q : Request) (b : Bool) → is_import q.command ≡ b → Keeps w → contains c w.codes ≡ true
    → Goes w (cond b w (stepped w c q)) (λ n. not b && is_in_issue (outcome (w.state c) q) n)
asks_by w c q true is h here = nothing w (λ n. false) (λ n. refl) h
asks_by w c q false is h here = step_goes w c q h here (was_sent w.sent q.command is)

-- an import issues nothing
reply_issues : (s : State) (x : import.Import) (n : ℕ) → is_in_issue (Accepted (import_reply s x)) n ≡ false
unfolding import_reply
reply_issues s x n = refl

outcome_issues : (s : State) (q : Request) (x : import.Import) (o : Outcome) (n : ℕ) → q.command ≡ Import x → outcome s q ≡ o → is_in_issue o n ≡ false
outcome_issues s q x (Accepted r) n is got =
    let p = passes s q r got in
    let reply : r ≡ import_reply s x = sym p.reply ∙ ap (reply_to s) is in
    ap (λ r. is_in_issue (Accepted r) n) reply ∙ reply_issues s x n
outcome_issues s q x (Repeated r) n is got = refl
outcome_issues s q x (Refused r) n is got = refl

import_issues : (s : State) (m : NoticeContents) (caller key : List ℕ) (n : ℕ) → is_in_issue (outcome s (import_of m caller key)) n ≡ false
import_issues s m caller key n = outcome_issues s (import_of m caller key) (record { notice = m }) _ n refl refl

delivers_by : (w : World) (c k : ℕ) (caller key : List ℕ) (o : Option NoticeContents) → nth w.sent k ≡ o → Keeps w → contains c w.codes ≡ true
    → Goes w (delivered w c caller key o) (λ n. false)
delivers_by w c k caller key None is h here = nothing w (λ n. false) (λ n. refl) h
delivers_by w c k caller key (Some m) is h here =
    told w _ _ (λ n. false) (import_issues (w.state c) m caller key) (step_goes w c (import_of m caller key) h here (k, is))

event_goes : (w : World) (e : Event) → Keeps w → contains (where_at e) w.codes ≡ true → Goes w (happens_at w e) (issues_at w e)
event_goes w (Asks c q) h here = asks_by w c q _ refl h here
event_goes w (Delivers c k caller key) h here = delivers_by w c k caller key _ refl h here

happens_by : (w : World) (e : Event) (b : Bool) → contains (where_at e) w.codes ≡ b → Keeps w → Goes w (cond b (happens_at w e) w) (λ n. b && issues_at w e n)
happens_by w e true is h = event_goes w e h is
happens_by w e false is h = nothing w (λ n. false) (λ n. refl) h

pub happens_goes : (w : World) (e : Event) → Keeps w → Goes w (happens w e) (issues w e)
happens_goes w e h = happens_by w e _ refl h

-- ---- all events

swapped : (a b c : Bool) → (a || (b || c)) ≡ ((b || a) || c)
swapped true true c = refl
swapped true false c = refl
swapped false true c = refl
swapped false false c = refl

pub run_goes : (es : List Event) (w : World) → Keeps w → Goes w (run es w) (is_ever_issued es w)
run_goes [] w h = nothing w (λ n. false) (λ n. refl) h
run_goes (e ∷ es) w h =
    let first = happens_goes w e h in
    let rest = run_goes es (happens w e) first.keeps in
    record {
      keeps = rest.keeps;
      known = λ n. rest.known n ∙ ap (λ b. is_ever_issued es (happens w e) n || b) (first.known n) ∙ swapped (is_ever_issued es (happens w e) n) (issues w e n) (is_known w n);
    }

-- ---- the start

at_start : (c serial n : ℕ) (day : CalendarDay) → get (created c day serial).at n ≡ None
unfolding created
at_start c serial n day = get-empty nat_cmp n

none_arrived : (c serial a b : ℕ) (day : CalendarDay) → has (created c day serial) a b ≡ false
unfolding created
none_arrived c serial a b day = ap is_some (get-empty notice_cmp (a, b))

none_sent : (c serial k : ℕ) (day : CalendarDay) → kept_notice (created c day serial) k ≡ None
unfolding created
none_sent c serial k day = ap notice_in (get-empty nat_cmp k)

own_start : (c serial : ℕ) (day : CalendarDay) → (created c day serial).own ≡ c
unfolding created
own_start c serial day = refl

none_home : (codes : List ℕ) (days : ℕ → CalendarDay) (serials : ℕ → ℕ) (n : ℕ) → count (λ c. is_home (get (created c (days c) (serials c)).at n)) codes ≡ 0
none_home [] days serials n = refl
none_home (c ∷ cs) days serials n =
    let first : one (is_home (get (created c (days c) (serials c)).at n)) ≡ 0 = ap (λ o. one (is_home o)) (at_start c (serials c) n (days c)) in
    omega (arith, none_home cs days serials n)

none_known : (codes : List ℕ) (days : ℕ → CalendarDay) (serials : ℕ → ℕ) (n : ℕ) → is_known (start codes days serials) n ≡ false
none_known codes days serials n = and_right (contains (code_of n) codes) _ (ap is_some (at_start (code_of n) (serials (code_of n)) n (days (code_of n))))

pub start_keeps : (codes : List ℕ) (days : ℕ → CalendarDay) (serials : ℕ → ℕ) → AreDistinct codes → Keeps (start codes days serials)
start_keeps codes days serials distinct = record {
  distinct = distinct;
  own = λ c. own_start c (serials c) (days c);
  sum = λ n. omega (arith, none_home codes days serials n, ap one (none_known codes days serials n));
  named = tt;
  given = tt;
  arrived = λ q s k e. absurd (true≢false (sym e ∙ none_arrived q (serials q) s k (days q)));
  below = λ c n own high. ap is_some (at_start c (serials c) n (days c));
  lots = λ c n lot e. none_some lot (sym (ap lot_of (at_start c (serials c) n (days c))) ∙ e);
  lots_sent = λ n. tt;
  sent_kept = tt;
  kept_sent = λ c k m e. none_some m (sym (none_sent c (serials c) k (days c)) ∙ e);
}

no_more : (a b c : Bool) → c ≡ (a || b) → b ≡ false → c ≡ a
no_more true b c e none = e
no_more false b c e none = e ∙ none

all_goes : (codes : List ℕ) (days : ℕ → CalendarDay) (serials : ℕ → ℕ) (events : List Event) → AreDistinct codes
    → Goes (start codes days serials) (run events (start codes days serials)) (is_ever_issued events (start codes days serials))
all_goes codes days serials events distinct = run_goes events (start codes days serials) (start_keeps codes days serials distinct)

pub known_by_issuer : KnownByIssuer
known_by_issuer codes days serials events n distinct = no_more _ _ _ ((all_goes codes days serials events distinct).known n) (none_known codes days serials n)

pub one_home : OneHome
one_home codes days serials events n distinct =
    (all_goes codes days serials events distinct).keeps.sum n ∙ ap one (known_by_issuer codes days serials events n distinct)

one_of_two : (homes roads : ℕ) → homes + roads ≡ 1 → ((homes ≡ 1) × (roads ≡ 0)) ⊎ ((homes ≡ 0) × (roads ≡ 1))
one_of_two zero roads sum = inr (refl, omega (arith, sum))
one_of_two (suc k) roads sum = inl (omega (arith, sum), omega (arith, sum))

pub home_or_road : HomeOrRoad
home_or_road codes days serials events n distinct issued =
    let w = run events (start codes days serials) in
    one_of_two (homes w n) (roads w n) (one_home codes days serials events n distinct ∙ ap one issued)

pub one_lot : OneLot
one_lot codes days serials events c n lot distinct is = (all_goes codes days serials events distinct).keeps.lots c n lot is

pub one_lot_sent : OneLotSent
one_lot_sent codes days serials events n distinct = (all_goes codes days serials events distinct).keeps.lots_sent n

pub sent_is_kept : SentIsKept
sent_is_kept codes days serials events distinct =
    let h = (all_goes codes days serials events distinct).keeps in (h.sent_kept, h.kept_sent)
