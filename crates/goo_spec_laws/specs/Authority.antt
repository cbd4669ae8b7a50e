-- Who moved what in a list of requests.
use Rattle.std.specs.Prelude.{◌≡◌, ◌⊎◌, ℕ, true, false, List, [], ◌∷◌, Some}
use Rattle.std.specs.FinMap.{get}
use Rattle.goo_types.specs.declared.lot_fields.LotFields.{LotFields}
use Rattle.goo_types.specs.declared.place.Place.TheVariants.{Held}
use Rattle.goo_types.specs.declared.request.Request.{Request}
use Rattle.goo_spec.specs.State.{State}
use Rattle.goo_spec.specs.Step.{outcome, next}
use Rattle.goo_spec.specs.Run.{final}
use Rattle.goo_spec.specs.Known.{is_accepted}
use Rattle.goo_spec.specs.Sound.{IsSound}
use Rattle.goo_spec.specs.Obeys.{AllObey}
use Rattle.goo_spec_laws.specs.Rights.{IsByRight, MovesByRight, is_held_in, TakesOut, BringsIn}

-- it is so of each request of a list, in the state in which it comes
abbrev pub OfEach : (State → Request → Type 0) → State → List Request → Type 0
OfEach P s [] = Unit {0}
OfEach P s (q ∷ qs) = P s q × OfEach P (next s q) qs

-- it is so of one of them
abbrev pub OfOne : (State → Request → Type 0) → State → List Request → Type 0
OfOne P s [] = ⊥
OfOne P s (q ∷ qs) = P s q ⊎ OfOne P (next s q) qs

-- one of the requests took the certificate out of what the account held, and might
abbrev pub WasTakenOut : ℕ → ℕ → State → List Request → Type 0
WasTakenOut n account = OfOne (λ s q. (is_accepted (outcome s q) ≡ true)
    × (is_held_in account (get s.at n) ≡ true) × (is_held_in account (get (next s q).at n) ≡ false) × TakesOut n account s q.caller q.command)

-- or brought it in
abbrev pub WasBroughtIn : ℕ → ℕ → State → List Request → Type 0
WasBroughtIn n account = OfOne (λ s q. (is_accepted (outcome s q) ≡ true)
    × (is_held_in account (get s.at n) ≡ false) × (is_held_in account (get (next s q).at n) ≡ true) × BringsIn n account s q.caller q.command)

-- or moved the certificate by right
abbrev pub WasMoved : ℕ → State → List Request → Type 0
WasMoved n = OfOne (λ s q. (is_accepted (outcome s q) ≡ true) × IsByRight s q.caller q.command n (get s.at n) (get (next s q).at n))

-- A registry in the state s answered the requests qs, and came to the state t
pub record IsMovedByRight (s : State) (qs : List Request) (t : State) : Type 0 where
  -- each certificate is what it was, or one of the requests moved it by right
  pub moved : (n : ℕ) → (get t.at n ≡ get s.at n) ⊎ WasMoved n s qs
  -- what an account held it holds, or somebody who may took it out
  pub left : (n account : ℕ) (lot : LotFields) → get s.at n ≡ Some (lot, Held account) → (get t.at n ≡ Some (lot, Held account)) ⊎ WasTakenOut n account s qs
  -- what an account holds it held, or somebody who may brought it in
  pub came : (n account : ℕ) (lot : LotFields) → get t.at n ≡ Some (lot, Held account) → (get s.at n ≡ Some (lot, Held account)) ⊎ WasBroughtIn n account s qs

-- so it is of every list of requests, from every sound state
abbrev pub OnlyByRight : Type 0
OnlyByRight = (s : State) (qs : List Request) → AllObey qs → IsSound s → IsMovedByRight s qs (final s qs)

-- and of each single request of it: no certificate changes in any other way
abbrev pub EachByRight : Type 0
EachByRight = (s : State) (qs : List Request) → AllObey qs → IsSound s → OfEach MovesByRight s qs
