-- Rows in pages.
use Rattle.std.specs.Prelude.{◌≡◌, ℕ, zero, suc, ◌+◌, ◌-◌, ◌*◌, ◌<◌, ◌≤◌, ◌⊎◌, List, [], ◌∷◌, length, take, drop, get_or, max}
use Rattle.goo_types.specs.declared.piece.Piece.{Piece}
pub use Rattle.goo_ranges.specs.Paging.{joined}

-- rows, and how many more may be put in without memory, wherever they go
pub record PagedRows : Type 0 where
  pub rows : List Piece
  pub room : ℕ

abbrev pub paged_rows : List Piece → ℕ → PagedRows
paged_rows rows room = record { rows = rows; room = room }

-- the rows begin in order, none before the number
abbrev pub InOrder : ℕ → List Piece → Type 0
InOrder low [] = Unit {0}
InOrder low (p ∷ ps) = (low ≤ p.first) × InOrder p.first ps

-- each of the rows begins before the number
abbrev pub Below : ℕ → List Piece → Type 0
Below n [] = Unit {0}
Below n (p ∷ ps) = (p.first < n) × Below n ps

-- where the last of the rows begins, or `low` where there is none
abbrev pub last_begin : ℕ → List Piece → ℕ
last_begin low [] = low
last_begin low (p ∷ ps) = last_begin p.first ps

-- each page has a row, and none is full
abbrev pub AreFit : List (List Piece) → Type 0
AreFit [] = Unit {0}
AreFit (page ∷ pages) = (1 ≤ length page) × (length page < 64) × AreFit pages

-- how many rows the pages have beyond their first halves
abbrev pub beyond_halves : List (List Piece) → ℕ
beyond_halves [] = 0
beyond_halves (page ∷ pages) = (length page - 32) + beyond_halves pages

-- how many rows less than their halves the spare pages take in: a half page where the first page is one of them
abbrev pub owed : List (List Piece) → ℕ
owed [] = 32
owed (page ∷ pages) = beyond_halves (page ∷ pages)

-- each row takes one spare page at most, and a page that is cut takes one for as many rows as half a page has
abbrev pub room_in : List (List Piece) → ℕ → ℕ
room_in pages spare = max spare (32 * spare - owed pages)

-- a row that begins there belongs into the page at the index: none before begins after it, and the page ends after it or is the last
pub record IsHome (number : ℕ) (pages : List (List Piece)) (index : ℕ) : Type 0 where
  pub bound : index < length pages
  pub front : Below (number + 1) (joined (take index pages))
  pub ends : (number + 1 ≤ last_begin 0 (get_or pages index [])) ⊎ (index + 1 ≡ length pages)

-- the first of the rows begins after the number
abbrev pub BeginAfter : ℕ → List Piece → Type 0
BeginAfter n [] = ⊥
BeginAfter n (p ∷ ps) = n < p.first

-- the page at the index, of 64 rows, is cut in halves
abbrev pub cut_at : ℕ → List (List Piece) → List (List Piece)
cut_at zero [] = []
cut_at zero (page ∷ pages) = take 32 page ∷ drop 32 page ∷ pages
cut_at (suc i) [] = []
cut_at (suc i) (page ∷ pages) = page ∷ cut_at i pages
