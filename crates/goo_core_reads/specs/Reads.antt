-- Who may see what, and what is seen.
use Rattle.std.specs.Prelude.{◌≡◌, ◌||◌, ◌==◌, ℕ, Bool, true, false, List, Option, Some, None, Result, Ok, Err, if◌then◌else◌, Vec}
use Rattle.std.specs.Global.{Global}
use Rattle.goo_types.specs.Place.{account_of}
use Rattle.goo_types.specs.declared.place.Place.{Place}
use Rattle.goo_types.specs.Piece.{Label}
use Rattle.goo_spec.specs.State.{State, Account}
use Rattle.goo_spec.specs.Checks.{is_issuer, is_holder}
use Rattle.goo_core_shelf.specs.declared.found.DeviceTotals.{DeviceTotals}
use Rattle.goo_core_shelf.specs.Shelf.{totals_of}
use Rattle.goo_core_reads.specs.declared.denial.Denial.{Denial}
use Rattle.goo_core_reads.specs.declared.denial.Denial.TheVariants.{NotAllowed, Unknown}

-- whether the issuing body asks, or the holder of the account
abbrev pub may_see : List ℕ → Option Account → Bool
may_see caller account = is_issuer caller || is_holder caller account

-- a certificate as it is shown, by the account that its place names
abbrev pub certificate_shown : List ℕ → Option Account → Label → Result Label Denial
certificate_shown caller account known = if may_see caller account then Ok known else Err Unknown

-- what is known of a certificate, if its place passes a test
abbrev pub kept_if : (Place → Bool) → Option Label → Option Label
kept_if test None = None
kept_if test (Some known) = if test known.1 then Some known else None

-- those certificates of a map whose place passes a test
abbrev pub kept_where : (Place → Bool) → (ℕ → Option Label) → ℕ → Option Label
kept_where test map n = kept_if test (map n)

-- whether a place names the account
abbrev pub names : ℕ → Place → Bool
names account place = account_of place == account

-- the energy and the certificates of each device, by device, to the issuing body alone
abbrev pub IsAudit : State → List ℕ → Result (Vec DeviceTotals Global) Denial → Type 0
IsAudit s caller (Err denial) = (is_issuer caller ≡ false) × (denial ≡ NotAllowed)
IsAudit s caller (Ok totals) = (is_issuer caller ≡ true) × (totals.items ≡ totals_of s)
