-- What holds at every moment, and what a change of one registry leaves of it.
use Rattle.std.proofs.Common.{◌≡◌, ℕ, ◌+◌, ◌<◌, ◌≤◌, ◌==◌, List, [], ◌∷◌, Bool, true, false, not, ◌&&◌, Option, Some, None, refl, sym, ap, ◌∙◌, arith}
use Rattle.std.specs.Prelude.{is_some}
use Rattle.std.specs.FinMap.{get, contains_key}
use Rattle.goo_types.specs.Number.{code_of, serial_of}
use Rattle.goo_types.specs.Notice.{NoticeContents}
use Rattle.goo_types.specs.declared.lot_fields.LotFields.{LotFields}
use Rattle.goo_types.specs.declared.place.Place.{Place}
use Rattle.goo_types.specs.declared.part.Part.{Part}
use Rattle.goo_spec.specs.State.{State}
use Rattle.goo_spec.specs.Import.{names}
use Rattle.goo_spec_one_home.specs.World.{World, nth, is_home, put, contains, AreDistinct, one, count, homes, roads, is_under_way, is_known, lot_of, HaveLot, AllHaveLot, kept_notice, AllKept, AllSent}
use Rattle.goo_spec_one_home.proofs.Counts.{count-same, put-same, put-has, count-put}
use Rattle.goo_spec_one_home.proofs.Effects.{has, is_called}

-- no later one has its sender and number
abbrev pub IsNew : NoticeContents → List NoticeContents → Type 0
IsNew m [] = Unit {0}
IsNew m (x ∷ xs) = (is_called m x.sender x.number ≡ false) × IsNew m xs

abbrev pub AreNamed : List NoticeContents → Type 0
AreNamed [] = Unit {0}
AreNamed (m ∷ ms) = IsNew m ms × AreNamed ms

-- each has a number that its sender has given
abbrev pub AreGiven : (ℕ → State) → List NoticeContents → Type 0
AreGiven state [] = Unit {0}
AreGiven state (m ∷ ms) = (m.number < (state m.sender).next_notice) × AreGiven state ms

pub record Keeps (w : World) : Type 0 where
  pub distinct : AreDistinct w.codes
  pub own : (c : ℕ) → (w.state c).own ≡ c
  pub sum : (n : ℕ) → homes w n + roads w n ≡ one (is_known w n)
  pub named : AreNamed w.sent
  pub given : AreGiven w.state w.sent
  pub arrived : (q s k : ℕ) → has (w.state q) s k ≡ true → k < (w.state s).next_notice
  pub below : (c n : ℕ) → code_of n ≡ c → (w.state c).next_serial ≤ serial_of n → contains_key (w.state c).at n ≡ false
  pub lots : (c n : ℕ) (lot : LotFields) → lot_of (get (w.state c).at n) ≡ Some lot → lot_of (get (w.state (code_of n)).at n) ≡ Some lot
  pub lots_sent : (n : ℕ) → AllHaveLot w.state n w.sent
  pub sent_kept : AllKept w.state w.sent
  pub kept_sent : AllSent w.state w.sent

abbrev pub with_state : World → ℕ → State → List NoticeContents → World
with_state w c s sent = record { codes = w.codes; state = put w.state c s; sent = sent }

-- ---- the counts after a change

pub homes-after : (w : World) (c : ℕ) (s : State) (sent : List NoticeContents) (n : ℕ) → AreDistinct w.codes → contains c w.codes ≡ true
    → homes (with_state w c s sent) n + one (is_home (get (w.state c).at n)) ≡ homes w n + one (is_home (get s.at n))
homes-after w c s sent n distinct here = count-put (λ d t. is_home (get t.at n)) w.state c s w.codes distinct here

pub under_way-same : (codes : List ℕ) (state : ℕ → State) (c : ℕ) (s : State) (n : ℕ) (m : NoticeContents) → has s m.sender m.number ≡ has (state c) m.sender m.number
    → is_under_way codes (put state c s) n m ≡ is_under_way codes state n m
under_way-same codes state c s n m same = ap (λ b. names m n && not (contains m.addressee codes && b)) (put-same (λ d t. has t m.sender m.number) state c s m.addressee same)

-- where the registry accepts what it accepted
pub roads-same : (codes : List ℕ) (state : ℕ → State) (c : ℕ) (s : State) (n : ℕ) (sent : List NoticeContents) → ((t k : ℕ) → has s t k ≡ has (state c) t k)
    → count (is_under_way codes (put state c s) n) sent ≡ count (is_under_way codes state n) sent
roads-same codes state c s n sent same = count-same (is_under_way codes (put state c s) n) (is_under_way codes state n) sent (λ m. under_way-same codes state c s n m (same m.sender m.number))

-- the registry of the number's code knows it as before
pub known-same : (w : World) (c : ℕ) (s : State) (sent : List NoticeContents) (n : ℕ) → (code_of n ≡ c → contains_key s.at n ≡ contains_key (w.state c).at n)
    → is_known (with_state w c s sent) n ≡ is_known w n
known-same w c s sent n same =
    ap (λ b. contains (code_of n) w.codes && b)
    (put-has (λ d r. code_of n ≡ d → contains_key r.at n ≡ contains_key (w.state d).at n) w.state c s same (λ d e. refl) (code_of n) refl)

pub is_some-lot_of : (o : Option (LotFields × Place)) → is_some (lot_of o) ≡ is_some o
is_some-lot_of None = refl
is_some-lot_of (Some known) = refl

-- two that have one lot, or none, are known alike
pub known_alike : (o p : Option (LotFields × Place)) → lot_of o ≡ lot_of p → is_some o ≡ is_some p
known_alike o p same = sym (is_some-lot_of o) ∙ ap is_some same ∙ is_some-lot_of p

-- ---- the facts on notices after a change

pub later : (state : ℕ → State) (c : ℕ) (s : State) → (state c).next_notice ≤ s.next_notice → (t k : ℕ) → k < (state t).next_notice → k < (put state c s t).next_notice
later state c s up t k = put-has (λ d r. k < (state d).next_notice → k < r.next_notice) state c s (λ lt. omega arith) (λ d lt. lt) t

pub given-after : (state : ℕ → State) (c : ℕ) (s : State) → (state c).next_notice ≤ s.next_notice → (sent : List NoticeContents) → AreGiven state sent → AreGiven (put state c s) sent
given-after state c s up [] h = tt
given-after state c s up (m ∷ ms) h = (later state c s up m.sender m.number h.0, given-after state c s up ms h.1)

pub arrived-after : (w : World) (c : ℕ) (s : State) → Keeps w → (w.state c).next_notice ≤ s.next_notice
    → ((t k : ℕ) → has s t k ≡ true → k < (w.state t).next_notice)
    → (q t k : ℕ) → has (put w.state c s q) t k ≡ true → k < (put w.state c s t).next_notice
arrived-after w c s h up mine q t k is =
    later w.state c s up t k (put-has (λ d r. has r t k ≡ true → k < (w.state t).next_notice) w.state c s (mine t k) (λ d. h.arrived d t k) q is)

pub own-after : (w : World) (c : ℕ) (s : State) → Keeps w → s.own ≡ (w.state c).own → (d : ℕ) → (put w.state c s d).own ≡ d
own-after w c s h same = put-has (λ d r. r.own ≡ d) w.state c s (same ∙ h.own c) h.own

abbrev pub OwnBelow : ℕ → State → Type 0
OwnBelow c s = (n : ℕ) → code_of n ≡ c → s.next_serial ≤ serial_of n → contains_key s.at n ≡ false

pub below-after : (w : World) (c : ℕ) (s : State) → Keeps w → OwnBelow c s → (d n : ℕ) → code_of n ≡ d → (put w.state c s d).next_serial ≤ serial_of n → contains_key (put w.state c s d).at n ≡ false
below-after w c s h mine d = put-has OwnBelow w.state c s mine h.below d

-- ---- the notices kept after a change

module _ (w : World) (c : ℕ) (s : State) (h : Keeps w) (same : (k : ℕ) → k < (w.state c).next_notice → kept_notice s k ≡ kept_notice (w.state c) k) where
  pub sent_kept-after : (sent : List NoticeContents) → AreGiven w.state sent → AllKept w.state sent → AllKept (put w.state c s) sent
  sent_kept-after [] given all = tt
  sent_kept-after (m ∷ ms) given all = (
    put-has (λ d r. m.number < (w.state d).next_notice → kept_notice r m.number ≡ kept_notice (w.state d) m.number) w.state c s (same m.number) (λ d lt. refl) m.sender given.0 ∙ all.0,
    sent_kept-after ms given.1 all.1,
  )

pub kept_sent-after : (w : World) (c : ℕ) (s : State) (sent : List NoticeContents) → ((k : ℕ) (m : NoticeContents) → kept_notice s k ≡ Some m → (i : ℕ) × (nth sent i ≡ Some m)) → AllSent w.state sent
    → AllSent (put w.state c s) sent
kept_sent-after w c s sent mine all d k m = put-has (λ x r. kept_notice r k ≡ Some m → (i : ℕ) × (nth sent i ≡ Some m)) w.state c s (mine k m) (λ x. all x k m) d

-- ---- the lots after a change

module _ (w : World) (c : ℕ) (s : State) (h : Keeps w)
    (grow : (n : ℕ) (lot : LotFields) → code_of n ≡ c → lot_of (get (w.state c).at n) ≡ Some lot → lot_of (get s.at n) ≡ Some lot)
  where
    -- the registry of the number's code has its lot as before, if it had one
    pub issuer-after : (n : ℕ) (lot : LotFields) → lot_of (get (w.state (code_of n)).at n) ≡ Some lot → lot_of (get (put w.state c s (code_of n)).at n) ≡ Some lot
    issuer-after n lot =
        put-has (λ d r. code_of n ≡ d → lot_of (get (w.state d).at n) ≡ Some lot → lot_of (get r.at n) ≡ Some lot) w.state c s (grow n lot) (λ d e is. is) (code_of n) refl

    mine_after : (n : ℕ) (lot : LotFields) (b : Bool) → (code_of n == c) ≡ b → ((code_of n == c) ≡ false → lot_of (get (w.state (code_of n)).at n) ≡ Some lot) → lot_of (get s.at n) ≡ Some lot
        → lot_of (get (put w.state c s (code_of n)).at n) ≡ Some lot
    mine_after n lot true is mine got = rw is got
    mine_after n lot false is mine got = issuer-after n lot (mine is)

    pub lots-after : ((n : ℕ) (lot : LotFields) → (code_of n == c) ≡ false → lot_of (get s.at n) ≡ Some lot → lot_of (get (w.state (code_of n)).at n) ≡ Some lot)
        → (d n : ℕ) (lot : LotFields) → lot_of (get (put w.state c s d).at n) ≡ Some lot → lot_of (get (put w.state c s (code_of n)).at n) ≡ Some lot
    lots-after mine d n lot =
        put-has (λ x r. lot_of (get r.at n) ≡ Some lot → lot_of (get (put w.state c s (code_of n)).at n) ≡ Some lot) w.state c s
        (λ got. mine_after n lot _ refl (λ other. mine n lot other got) got)
        (λ x got. issuer-after n lot (h.lots x n lot got))
        d

    pub have_lot : (n : ℕ) (a b : Option LotFields) → ((lot : LotFields) → a ≡ Some lot → b ≡ Some lot) → (ps : List Part) → HaveLot a n ps → HaveLot b n ps
    have_lot n a b up [] has_it = tt
    have_lot n a b up (p ∷ ps) has_it = (λ within. up p.lot (has_it.0 within), have_lot n a b up ps has_it.1)

    pub sent-after : (n : ℕ) (sent : List NoticeContents) → AllHaveLot w.state n sent → AllHaveLot (put w.state c s) n sent
    sent-after n [] all = tt
    sent-after n (m ∷ ms) all = (have_lot n _ _ (issuer-after n) m.parts all.0, sent-after n ms all.1)
