-- The ends of a text.
use Rattle.std.specs.Prelude.{ℕ, ◌-◌, ◌&&◌, ◌==◌, not, Bool, List, length, slice_index}

-- no space at either end
abbrev pub is_trimmed : List ℕ → Bool
is_trimmed text = not (slice_index text 0 == 32) && not (slice_index text (length text - 1) == 32)
