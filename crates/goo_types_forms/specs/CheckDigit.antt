-- The check digit of a number of eighteen digits.
use Rattle.std.specs.Prelude.{ℕ, ◌+◌, ◌-◌, ◌*◌, List, [], ◌∷◌, reverse, take, slice_index}
use Rattle.std.specs.Char.{digit_value}

-- the sum of the digits with the weights w, 4 - w, w, ..
abbrev pub weighted_sum : ℕ → List ℕ → ℕ
weighted_sum w [] = 0
weighted_sum w (d ∷ ds) = w * digit_value d + weighted_sum (4 - w) ds

-- the seventeen digits, told from the right with the weights 3, 1, 3, .., and the check digit
abbrev pub check_sum : List ℕ → ℕ
check_sum text = weighted_sum 3 (reverse (take 17 text)) + digit_value (slice_index text 17)
