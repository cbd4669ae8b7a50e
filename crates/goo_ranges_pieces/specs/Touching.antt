-- The pieces that a range meets or is next to, and those that a new piece joins.
use Rattle.std.specs.Prelude.{◌≡◌, ℕ, ◌+◌, ◌-◌, ◌<◌, ◌≤◌, ◌⊎◌, List, [], ◌∷◌, ◌++◌, length, get_or, take, drop}
use Rattle.goo_types.specs.declared.piece.Piece.{Piece}
use Rattle.goo_types.specs.Number.{IsNumber}
use Rattle.goo_types.specs.Piece.{IsRisingFrom, Follows, label_of}
use Rattle.goo_ranges_pieces.specs.Walk.{end_of}

-- each piece has a number from `first` to `last` or is next to one
abbrev pub AreNear : ℕ → ℕ → List Piece → Type 0
AreNear first last [] = Unit {0}
AreNear first last (p ∷ ps) = (first ≤ p.last + 1) × (p.first ≤ last + 1) × AreNear first last ps

-- the pieces from the index `from` on and below the index `to` are those near to the range
pub record IsTouched (ps : List Piece) (first last from to : ℕ) : Type 0 where
  pub order : from ≤ to
  pub bound : to ≤ length ps
  pub below : end_of 0 (take from ps) < first
  pub above : IsRisingFrom (last + 2) (drop to ps)
  pub near : AreNear first last (take (to - from) (drop from ps))

-- each piece has a number from `first` to `last`
abbrev pub AreMet : ℕ → ℕ → List Piece → Type 0
AreMet first last [] = Unit {0}
AreMet first last (p ∷ ps) = (first ≤ p.last) × (p.first ≤ last) × AreMet first last ps

-- the pieces from the index `from` on and below the index `to` are those that have a number of the range
pub record IsMeeting (ps : List Piece) (first last from to : ℕ) : Type 0 where
  pub order : from ≤ to
  pub bound : to ≤ length ps
  pub below : end_of 0 (take from ps) ≤ first
  pub above : IsRisingFrom (last + 1) (drop to ps)
  pub met : AreMet first last (take (to - from) (drop from ps))

-- the piece before the index joins the new one
pub record IsJoinedBefore (ps : List Piece) (from : ℕ) (new : Piece) (begin first : ℕ) : Type 0 where
  pub piece : Piece
  pub bound : begin < length ps
  pub here : piece ≡ get_or ps begin piece
  pub next : from ≡ begin + 1
  pub follows : Follows piece new
  pub extends : first ≡ piece.first
  pub valid : IsNumber new.first

-- no piece does
pub record IsFreeBefore (ps : List Piece) (from : ℕ) (new : Piece) (begin first : ℕ) : Type 0 where
  pub same : begin ≡ from
  pub free : (q : Piece) → 1 ≤ from → q ≡ get_or ps (from - 1) q → ¬ (Follows q new)
  pub extends : first ≡ new.first

-- from the index `begin` and the number `first` on, the new piece is joined with what it follows
abbrev pub IsBegin : List Piece → ℕ → Piece → ℕ → ℕ → Type 0
IsBegin ps from new begin first = IsJoinedBefore ps from new begin first ⊎ IsFreeBefore ps from new begin first

-- the piece at the index joins the new one
pub record IsJoinedAfter (ps : List Piece) (to : ℕ) (new : Piece) (end last : ℕ) : Type 0 where
  pub piece : Piece
  pub bound : to < length ps
  pub here : piece ≡ get_or ps to piece
  pub next : end ≡ to + 1
  pub follows : Follows new piece
  pub extends : last ≡ piece.last
  pub valid : IsNumber piece.first

-- no piece does
pub record IsFreeAfter (ps : List Piece) (to : ℕ) (new : Piece) (end last : ℕ) : Type 0 where
  pub same : end ≡ to
  pub free : (q : Piece) → to < length ps → q ≡ get_or ps to q → ¬ (Follows new q)
  pub extends : last ≡ new.last

-- below the index `end` and up to the number `last`, the new piece is joined with what follows it
abbrev pub IsEnd : List Piece → ℕ → Piece → ℕ → ℕ → Type 0
IsEnd ps to new end last = IsJoinedAfter ps to new end last ⊎ IsFreeAfter ps to new end last

-- the pieces from the index `from` on and below the index `to` are between those before the range and those after it
pub record IsAround (ps : List Piece) (first last from to : ℕ) : Type 0 where
  pub order : from ≤ to
  pub bound : to ≤ length ps
  pub some : 1 ≤ first
  pub below : end_of 0 (take from ps) ≤ first
  pub above : IsRisingFrom (last + 1) (drop to ps)

-- the new piece, joined with its neighbours, takes the place of the pieces from `begin` on and below `end`
pub record IsWidened (ps : List Piece) (new : Piece) (begin end : ℕ) (wide : Piece) : Type 0 where
  pub from : ℕ
  pub to : ℕ
  pub meeting : IsMeeting ps new.first new.last from to
  pub before : IsBegin ps from new begin wide.first
  pub after : IsEnd ps to new end wide.last
  pub labelled : label_of wide ≡ label_of new
  pub valid : IsNumber wide.first

-- the same pieces are put in with fewer of them touched: those between the indices `begin` and `end` for those between `from` and `to`
pub record IsTrimmed (ps : List Piece) (from to : ℕ) (insert : List Piece) (begin end : ℕ) (left : List Piece) : Type 0 where
  pub same : take begin ps ++ (left ++ drop end ps) ≡ take from ps ++ (insert ++ drop to ps)
  pub starts : from ≤ begin
  pub order : begin ≤ end
  pub ends : end ≤ to
  pub few : length left ≤ length insert
