-- The rows that a shelf keeps, and edits of them.
use Rattle.std.specs.Prelude.{◌≡◌, ℕ, ◌+◌, ◌≤◌, ◌==◌, cond, List, [], ◌∷◌, Bool, nat_le, nat_lt, ◌&&◌}
use Rattle.std.specs.List.{filter}
use Rattle.std.specs.FinMap.{get}
use Rattle.goo_types.specs.Range.{Numbers}
use Rattle.goo_spec.specs.Lots.{Certificates}
use Rattle.goo_types.specs.declared.piece.Piece.{Piece}
use Rattle.goo_ranges.specs.declared.edits.Edit.{Edit}
use Rattle.goo_types.specs.Piece.{at_of, IsForward, IsRising, IsRisingFrom}
use Rattle.std.proofs.Props.{props}

-- the rows are disjoint, and have the map
pub record AreRowsOf (at : Certificates) (rows : List Piece) : Type 0 where
  pub disjoint : IsRising rows
  pub same : (n : ℕ) → at_of rows n ≡ get at n

-- whether a row has a number of the range, or one next to it
abbrev pub is_near : Numbers → Piece → Bool
is_near range p = nat_le range.first (p.last + 1) && nat_le p.first (range.last + 1)

-- the rows with a number of the range or next to one
abbrev pub meeting : Numbers → List Piece → List Piece
meeting range rows = filter (is_near range) rows

-- without the row that begins there
abbrev pub without : ℕ → List Piece → List Piece
without first [] = []
without first (p ∷ ps) = cond (p.first == first) ps (p ∷ without first ps)

abbrev pub without_each : List ℕ → List Piece → List Piece
without_each [] rows = rows
without_each (k ∷ ks) rows = without_each ks (without k rows)

-- with one more row, before the first that begins after it
abbrev pub with : Piece → List Piece → List Piece
with p [] = p ∷ []
with p (q ∷ qs) = cond (nat_lt p.first q.first) (p ∷ q ∷ qs) (q ∷ with p qs)

abbrev pub with_each : List Piece → List Piece → List Piece
with_each [] rows = rows
with_each (p ∷ ps) rows = with_each ps (with p rows)

-- the rows without those that the edit deletes, and with those that it inserts
unfoldable pub edited : Edit → List Piece → List Piece
edited edit rows = with_each edit.insert.items (without_each edit.delete.items rows)

-- one edit after another
abbrev pub edited_all : List Edit → List Piece → List Piece
edited_all [] rows = rows
edited_all (e ∷ es) rows = edited_all es (edited e rows)

-- a fact of a kind that has one proof at most, so it may be a ghost field
pub rising-prop : (low : ℕ) (ps : List Piece) → IsProp (IsRisingFrom low ps)
rising-prop low [] = Prim.hlevel props
rising-prop low (p ∷ ps) =
    let here : IsProp ((low ≤ p.first) × IsForward p) = Prim.hlevel props in
    λ x y i. ((here (x.0, x.1) (y.0, y.1) i).0, (here (x.0, x.1) (y.0, y.1) i).1, rising-prop (p.last + 1) ps x.2 y.2 i)

pub rows-prop : (at : Certificates) (rows : List Piece) → IsProp (AreRowsOf at rows)
rows-prop at rows =
    let same : (n : ℕ) → IsProp (at_of rows n ≡ get at n) = λ n. Prim.hlevel props in
    λ x y i. record { disjoint = rising-prop 0 rows x.disjoint y.disjoint i; same = λ n. same n (x.same n) (y.same n) i }
