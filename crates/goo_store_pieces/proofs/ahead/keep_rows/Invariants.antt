use Rattle.std.proofs.Common.{◌≡◌, ◌+◌, ℕ, drop, map}
use Rattle.goo_store_pieces.specs.declared.ahead.Ahead.TheVariants.{Row}
use Rattle.goo_tables_rows.specs.Rows.{Tables}
use Rattle.goo_store_pieces.specs.Ahead.{AreAhead, IsPageOf}
use Rattle.goo_store_pieces.proofs.Pages.{IsLeftOf}
use Rattle.goo_store_pieces.proofs.ahead.keep_rows.Given as goal

-- what is kept is right, and what is left of the page comes after the number
abbrev pub invariant-loop-row : goal.invariant-loop-row
invariant-loop-row l = (t : Tables) → IsPageOf t l.account l.after l.page
    → AreAhead t l.ahead.items × ((n : ℕ) × (n + l.row-index ≡ 256) × IsLeftOf t l.account l.end n (map Row (drop l.row-index l.page)))
