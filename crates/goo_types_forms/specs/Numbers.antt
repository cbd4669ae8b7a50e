-- Certificate numbers: a code of two digits and a serial of twelve.
use Rattle.std.specs.Prelude.{ℕ, ◌/◌, ◌%◌, ◌≤◌}

-- the code of an issuing body
abbrev pub IsCode : ℕ → Type 0
IsCode c = (1 ≤ c) × (c ≤ 99)

-- the serial of a certificate
abbrev pub IsSerial : ℕ → Type 0
IsSerial s = (1 ≤ s) × (s ≤ 999_999_999_999)

abbrev pub code_of : ℕ → ℕ
code_of n = n / 1_000_000_000_000

abbrev pub serial_of : ℕ → ℕ
serial_of n = n % 1_000_000_000_000

-- a certificate number
abbrev pub IsNumber : ℕ → Type 0
IsNumber n = IsCode (code_of n) × IsSerial (serial_of n)
