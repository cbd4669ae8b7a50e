-- What the values of the options state.
use Rattle.std.specs.Prelude.{ℕ, Bool, ◌&&◌, nat_lt, nat_le, List, length, Option, Some, None, if◌then◌else◌}
use Rattle.std.specs.List.{list_all}
use Rattle.std.specs.Char.{is_ascii_digit}
use Rattle.std.specs.Str.Parse.{digits_value}

-- decimal digits, one at least
abbrev pub is_number : List ℕ → Bool
is_number text = nat_lt 0 (length text) && list_all is_ascii_digit text

-- the number that the digits state, where it lies between two; leading zeros are digits
abbrev pub number_in : ℕ → ℕ → List ℕ → Option ℕ
number_in least most text =
    if is_number text && nat_le least (digits_value 10 text) && nat_le (digits_value 10 text) most
    then Some (digits_value 10 text) else None

abbrev pub code_in : List ℕ → Option ℕ
code_in text = number_in 1 99 text

abbrev pub serial_in : List ℕ → Option ℕ
serial_in text = number_in 1 999999999999 text

abbrev pub account_in : List ℕ → Option ℕ
account_in text = number_in 1 999999999 text

abbrev pub port_in : List ℕ → Option ℕ
port_in text = number_in 1 65535 text

abbrev pub count_in : List ℕ → Option ℕ
count_in text = number_in 0 1000000000 text
