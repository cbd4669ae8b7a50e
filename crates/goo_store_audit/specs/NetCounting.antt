-- The net energy of declarations, added up device by device, a page at a time.
use Rattle.std.specs.Prelude.{◌≡◌, ℕ, ℤ, pos, negsuc, ◌+◌, ◌*◌, ◌-◌, ◌≤◌, ◌^◌, nat_le, cond, List, [], ◌∷◌, sum_by, IsTrue}
use Rattle.std.specs.List.{filter}
use Rattle.std.specs.Str.{bytes_eq}
use Rattle.std.specs.BTreeMap.{BTreeMap}
use Rattle.goo_types.specs.Gsrn.{gsrn_reading}
use Rattle.goo_spec_tables.specs.Readable.{reads}
use Rattle.goo_store_rules.specs.Summing.{sum_at}
use Rattle.goo_tables_pages.specs.NetRows.{Net, net_part}
use Rattle.goo_tables_rows.specs.Rows.{Declaration}

-- what a declaration adds to the device's energy
abbrev pub net_by : List ℕ → Net → ℕ
net_by device n = cond (bytes_eq n.device device) (n.gross - n.aux) 0

-- the number after one, where that is none below 0
abbrev pub number_after : ℤ → ℕ
number_after (pos n) = n + 1
number_after (negsuc n) = 0

-- ---- declarations that can be added up

-- it is of a device, and its number is `low` or a later one
abbrev pub IsNet : ℕ → Net → Type 0
IsNet low n = IsTrue (reads (gsrn_reading n.device)) × (low + 1 ≤ number_after n.id)

-- each is, and their numbers rise
abbrev pub AreNets : ℕ → List Net → Type 0
AreNets low [] = Unit {0}
AreNets low (n ∷ rest) = IsNet low n × AreNets (number_after n.id) rest

-- ---- a page

-- the number after the last of these, or `low` where there are none
abbrev pub end_of_nets : ℕ → List Net → ℕ
end_of_nets low [] = low
end_of_nets low (n ∷ rest) = end_of_nets (number_after n.id) rest

-- no device's sum is more than that of so many declarations as there are numbers below `low`
pub record IsSumBelow (low : ℕ) (sums : BTreeMap (List ℕ) ℕ) : Type 0 where
  pub most : low ≤ 2 ^ 63
  pub each : (q : List ℕ) → sum_at sums q ≤ 2 ^ 64 * low

-- these declarations were added to the sums
abbrev pub AreNetsAdded : List Net → BTreeMap (List ℕ) ℕ → BTreeMap (List ℕ) ℕ → Type 0
AreNetsAdded nets old new = (q : List ℕ) → sum_at new q ≡ sum_at old q + sum_by (net_by q) nets

-- ---- all pages

-- the declarations under a number or a later one
abbrev pub declared_from : ℕ → List Declaration → List Declaration
declared_from low = filter (λ d. nat_le low d.id)

abbrev pub net_of_row : List ℕ → Declaration → ℕ
net_of_row device d = net_by device (net_part d)

-- with the declarations that are left the sums come to what they came to before, and where none was added none is left
pub record IsNetPageAdded (ds : List Declaration) (low next : ℕ) (old new : BTreeMap (List ℕ) ℕ) : Type 0 where
  pub sums : (q : List ℕ) → sum_at new q + sum_by (net_of_row q) (declared_from next ds) ≡ sum_at old q + sum_by (net_of_row q) (declared_from low ds)
  pub none_left : next ≤ low → declared_from next ds ≡ []

-- with the declarations that are left the sums come to all, and where the last page was empty none is left
pub record IsDeclaredTo (ds : List Declaration) (low next : ℕ) (sums : BTreeMap (List ℕ) ℕ) : Type 0 where
  pub sums_to : (q : List ℕ) → sum_at sums q + sum_by (net_of_row q) (declared_from next ds) ≡ sum_by (net_of_row q) ds
  pub none_left : next ≤ low → declared_from next ds ≡ []
