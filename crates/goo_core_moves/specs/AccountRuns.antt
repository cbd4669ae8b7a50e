-- Runs of consecutive numbers whose places name one account, whatever their lots.
use Rattle.std.specs.Prelude.{ℕ, ◌-◌, ◌==◌, ◌||◌, not, count_by, Bool, false, Option, Some, None}
use Rattle.std.specs.Option.{option_map}
use Rattle.goo_types.specs.Piece.{Label}
use Rattle.goo_types.specs.Place.{account_of}
use Rattle.goo_types.specs.Range.{Numbers}
use Rattle.goo_spec.specs.Maps.{each}

-- the account that a certificate's place names, if the certificate is there
abbrev pub account_in : Option Label → Option ℕ
account_in o = option_map (λ label. account_of label.1) o

-- whether both are there and are one
abbrev pub is_one_account : Option ℕ → Option ℕ → Bool
is_one_account None o = false
is_one_account (Some a) None = false
is_one_account (Some a) (Some b) = a == b

-- whether a run begins at the number: where it is the first one, or where the certificate before it names another account
abbrev pub begins_run : (ℕ → Option Label) → ℕ → ℕ → Bool
begins_run at first n = (n == first) || not (is_one_account (account_in (at (n - 1))) (account_in (at n)))

-- how many runs of one account a range has
abbrev pub account_runs : (ℕ → Option Label) → Numbers → ℕ
account_runs at range = count_by (begins_run at range.first) (each range)

-- the same where a correction may take none back
abbrev pub runs_in : (ℕ → Option Label) → Option Numbers → ℕ
runs_in at None = 0
runs_in at (Some range) = account_runs at range
