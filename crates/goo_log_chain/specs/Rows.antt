-- What of a table's report is the same whenever its entry is applied.
use Rattle.std.specs.Prelude.{ℕ, List, [], ◌∷◌, ◌++◌, take, drop, length, Bool, not, ◌&&◌, ◌||◌, ◌==◌, nat_lt, if◌then◌else◌, codes}
use Rattle.std.specs.Char.{is_ascii_digit}
use Rattle.std.specs.List.{prefix_len, list_all}
use Rattle.std.specs.Str.{bytes_eq}

-- the digits in front of a line
abbrev pub digits : List ℕ → ℕ
digits line = prefix_len is_ascii_digit line

abbrev pub is_done : List ℕ → Bool
is_done rest = bytes_eq rest (codes " accepted") || bytes_eq rest (codes " repeated")

abbrev pub is_number : List ℕ → Bool
is_number text = not (length text == 0) && list_all is_ascii_digit text

-- with a number behind it
abbrev pub is_refused : List ℕ → Bool
is_refused rest = bytes_eq (take 9 rest) (codes " refused ") && is_number (drop 9 rest)

-- a row's number alone where it is accepted or repeated; without the refusal's number where it is refused; any other line as it is
abbrev pub row_at : ℕ → List ℕ → List ℕ
row_at n line =
    if nat_lt 0 n && is_done (drop n line) then take n line ++ codes " "
    else (if nat_lt 0 n && is_refused (drop n line) then take n line ++ codes " refused" else line)

unfoldable pub row : List ℕ → List ℕ
row line = row_at (digits line) line

-- line by line, behind a part of the first line
unfoldable pub rows_behind : List ℕ → List ℕ → List ℕ
rows_behind line [] = row line
rows_behind line (b ∷ bs) = if b == 10 then row line ++ 10 ∷ rows_behind [] bs else rows_behind (line ++ b ∷ []) bs
