-- What holds of a log and its registry, and by which laws of the registry.
use Rattle.std.specs.Prelude.{◌≡◌, ◌⊎◌, ◌++◌, Bool, true, List, [], ◌∷◌, All}
use Rattle.goo_log_machine.specs.Machine.{Point, World, stacked, names}
use Rattle.goo_log_machine.specs.Machine.Point.{Up, Applied, Down}

-- the one list stands at the end of the other: nothing of it was changed
abbrev pub IsEndOf : {A : Type 0} → List A → List A → Type 0
IsEndOf {A} old new = (more : List A) × (more ++ old ≡ new)

-- the state after some entries more, the oldest first
abbrev pub finally : {S Q : Type 0} → (S → Q → S) → S → List Q → S
finally next s [] = s
finally next s (q ∷ qs) = finally next (next s q) qs

module _ {S Q O : Type 0} (next : S → Q → S) (outcome : S → Q → O) (stays : O → Bool) (again : O → O) where
  -- the laws of a registry
  pub record IsLawful : Type 0 where
    -- an entry that is applied again at once changes nothing, and is told so
    pub idle : (s : S) (q : Q) → next (next s q) q ≡ next s q
    pub told : (s : S) (q : Q) → outcome (next s q) q ≡ again (outcome s q)
    -- one whose outcome stays changes nothing whenever it is applied again
    pub idle_later : (s : S) (q : Q) (between : List Q) → stays (outcome s q) ≡ true
        → next (finally next (next s q) between) q ≡ finally next (next s q) between
    pub told_later : (s : S) (q : Q) (between : List Q) → stays (outcome s q) ≡ true
        → outcome (finally next (next s q) between) q ≡ again (outcome s q)
    pub same : (o : O) → stays (again o) ≡ stays o

  module _ (first : S) where
    -- the state after some entries, the newest first
    abbrev pub after : List Q → S
    after [] = first
    after (q ∷ qs) = next (after qs) q

    -- an entry's own outcome in a state, or what it is told when it comes again
    abbrev pub IsOwn : S → Q → O → Type 0
    IsOwn s q o = (o ≡ outcome s q) ⊎ (o ≡ again (outcome s q))

    -- each outcome is that of its own entry, in the state of those before it
    abbrev pub AreTheirs : List (Q × O) → Type 0
    AreTheirs [] = Unit {0}
    AreTheirs (p ∷ ps) = IsOwn (after (names ps)) p.0 p.1 × AreTheirs ps

    -- the state s is that of `base`, or of some first ones more of those that wait; of these all but the last stay
    abbrev pub IsAhead : S → List Q → S → Type 0
    IsAhead base [] s = s ≡ base
    IsAhead base (q ∷ qs) s = (s ≡ base) ⊎ ((s ≡ next base q) ⊎ ((stays (outcome base q) ≡ true) × IsAhead (next base q) qs s))

    -- the first that waits is applied
    abbrev pub IsPast : S → List Q → S → Type 0
    IsPast base [] s = ⊥
    IsPast base (q ∷ qs) s = (s ≡ next base q) ⊎ ((stays (outcome base q) ≡ true) × IsAhead (next base q) qs s)

    abbrev pub IsNext : S → List Q → O → Type 0
    IsNext base [] o = ⊥
    IsNext base (q ∷ qs) o = IsOwn base q o

    abbrev pub Stands : Point O → List Q → List Q → S → Type 0
    Stands Up qs w s = IsAhead (after qs) w s
    Stands (Applied o) qs w s = IsNext (after qs) w o × IsPast (after qs) w s
    Stands Down qs w s = IsAhead (after qs) w s

    -- the outcomes that are not synced stay
    abbrev pub AllStay : (loose done : List (Q × O)) → Type 0
    AllStay [] d = Unit {0}
    AllStay (p ∷ l) d = (stays (outcome (after (names (l ++ d))) p.0) ≡ true) × AllStay l d

    -- all but the last one, behind which nothing was applied
    abbrev pub AreLoose : (loose done : List (Q × O)) → S → Type 0
    AreLoose [] d s = Unit {0}
    AreLoose (p ∷ l) d s = ((stays (outcome (after (names (l ++ d))) p.0) ≡ true) ⊎ (s ≡ next (after (names (l ++ d))) p.0)) × AllStay l d

    abbrev pub LooseAt : Point O → (loose done : List (Q × O)) → S → Type 0
    LooseAt Up l d s = AreLoose l d s
    LooseAt (Applied o) l d s = AllStay l d
    LooseAt Down l d s = AreLoose l d s

    -- an answer is its own entry's
    abbrev pub IsAnswer : List Q → O → Type 0
    IsAnswer [] o = ⊥
    IsAnswer (q ∷ qs) o = IsOwn (after qs) q o

    -- and its entry, with all before it, is in the log
    pub record IsFound (all : List Q) (answer : List Q × O) : Type 0 where
      pub own : IsAnswer answer.0 answer.1
      pub stands : IsEndOf answer.0 all

    pub record HoldsAt (p : Point O) (d l : List (Q × O)) (w : List Q) (s : S) (told : List (List Q × O)) : Type 0 where
      pub state : Stands p (names (l ++ d)) w s
      pub loose : LooseAt p l d s
      pub recorded : AreTheirs (l ++ d)
      pub found : All (IsFound (stacked w (names (l ++ d)))) told

    abbrev pub Holds : World S Q O → Type 0
    Holds w = HoldsAt w.point w.done w.loose w.waiting w.state w.told
