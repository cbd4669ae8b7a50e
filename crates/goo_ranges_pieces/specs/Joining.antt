-- A list of pieces, and the same with neighbours joined.
use Rattle.std.specs.Prelude.{◌≡◌, ℕ, ◌≤◌, List, length}
use Rattle.goo_types.specs.declared.piece.Piece.{Piece}
use Rattle.goo_types.specs.Piece.{at_of, IsRisingFrom}
use Rattle.goo_ranges_pieces.specs.Walk.{end_of}

-- `short` gives the map of `long` in no more pieces, and begins and ends where `long` does
pub record IsJoining (long short : List Piece) : Type 0 where
  pub same : (low : ℕ) → IsRisingFrom low long → (n : ℕ) → at_of short n ≡ at_of long n
  pub rising : (low : ℕ) → IsRisingFrom low long → IsRisingFrom low short
  pub ends : (low : ℕ) → end_of low short ≡ end_of low long
  pub few : length short ≤ length long
