-- What a change of a book does to each number, and which pieces it may touch.
use Rattle.std.specs.Prelude.{◌≡◌, ℕ, ◌+◌, ◌-◌, ◌<◌, ◌≤◌, List, ◌∷◌, ◌++◌, length, Bool, nat_le, nat_lt, ◌&&◌, if◌then◌else◌, Option, Some, None, min, max, sum_by, count_by, MatchOption}
use Rattle.std.specs.Option.{option_map}
use Rattle.goo_types.specs.declared.place.Place.{Place}
use Rattle.goo_types.specs.declared.piece.Piece.{Piece}
use Rattle.goo_types.specs.Piece.{Label, label_of, at_of, IsForward, IsRisingFrom}
use Rattle.goo_ranges_pieces.specs.Walk.{end_of}

-- whether the number is one of those from `first` to `last`
abbrev pub inside : ℕ → ℕ → ℕ → Bool
inside first last n = nat_le first n && nat_le n last

-- the numbers from `first` to `last` keep their lots and get the place
abbrev pub moved : ℕ → ℕ → Place → ℕ → Option Label → Option Label
moved first last place n o = if inside first last n then option_map (λ label. (label.0, place)) o else o

-- the numbers from `first` to `last` get the lot and the place
abbrev pub set_to : ℕ → ℕ → Label → ℕ → Option Label → Option Label
set_to first last label n o = if inside first last n then Some label else o

-- whether the piece has a number from `first` to `last`
abbrev pub meets : ℕ → ℕ → Piece → Bool
meets first last p = nat_le p.first last && nat_le first p.last

abbrev pub one_if : Bool → ℕ
one_if b = if b then 1 else 0

-- into how many parts a change of the numbers from `first` to `last` cuts a piece
abbrev pub cuts : ℕ → ℕ → Piece → ℕ
cuts first last p = one_if (nat_lt p.first first) + (one_if (meets first last p) + one_if (nat_lt last p.last))

-- q is the part of p from `low` to `high`, at a place
pub record IsPartOf (p : Piece) (low high : ℕ) (place : Place) (q : Piece) : Type 0 where
  pub first : q.first ≡ max p.first low
  pub last : q.last ≡ min p.last high
  pub label : label_of q ≡ (p.lot, place)
  pub forward : IsForward q

-- that part, if it has a number
abbrev pub IsPart : Piece → ℕ → ℕ → Place → Option Piece → Type 0
IsPart p low high place o = MatchOption o (min p.last high < max p.first low) (IsPartOf p low high place)

-- `new` gives the changed map of `old`, within the same bounds, in no more pieces than the cuts make
pub record IsChanged (change : ℕ → Option Label → Option Label) (cost : Piece → ℕ) (old new : List Piece) : Type 0 where
  pub same : (low : ℕ) → IsRisingFrom low old → (n : ℕ) → at_of new n ≡ change n (at_of old n)
  pub rising : (low : ℕ) → IsRisingFrom low old → IsRisingFrom low new
  pub within : (low : ℕ) → IsRisingFrom low old → end_of low new ≤ end_of low old
  pub few : length new ≤ sum_by cost old

-- the numbers from `low` to `high` are kept, and no others
abbrev pub kept : ℕ → ℕ → ℕ → Option Label → Option Label
kept low high n o = if inside low high n then o else None

-- `new` gives the kept map of `old`, from `low` to `high`
pub record IsKept (low high : ℕ) (old new : List Piece) : Type 0 where
  pub same : (base : ℕ) → IsRisingFrom base old → (n : ℕ) → at_of new n ≡ kept low high n (at_of old n)
  pub rising : (base : ℕ) → IsRisingFrom base old → IsRisingFrom (max base low) new
  pub within : (base : ℕ) → IsRisingFrom base old → end_of (max base low) new ≤ max (max base low) (min (end_of base old) (high + 1))
  pub few : length new ≤ count_by (meets low high) old

-- `new` is `old` with the numbers from `first` to `last` cut out, and one piece for them between
pub record IsSet (first last : ℕ) (label : Label) (old new : List Piece) : Type 0 where
  pub left : List Piece
  pub right : List Piece
  pub middle : Piece
  pub end : ℕ
  pub before : IsKept 0 (first - 1) old left
  pub after : IsKept (last + 1) end old right
  pub ends : end_of 0 old ≤ end + 1
  pub begins : middle.first ≡ first
  pub stops : middle.last ≡ last
  pub labelled : label_of middle ≡ label
  pub whole : new ≡ left ++ middle ∷ right
