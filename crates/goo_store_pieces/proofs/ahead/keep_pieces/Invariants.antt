use Rattle.std.proofs.Common.{◌≡◌, ◌+◌, ℕ, drop, map}
use Rattle.goo_store_pieces.specs.declared.ahead.Ahead.TheVariants.{Whole}
use Rattle.goo_tables_rows.specs.Rows.{Tables}
use Rattle.goo_store_pieces.specs.Ahead.{AreAhead, IsWholePageOf}
use Rattle.goo_store_pieces.proofs.Pages.{IsLeftOf}
use Rattle.goo_store_pieces.proofs.ahead.keep_pieces.Given as goal

-- what is kept is right, and what is left of the page comes after the number
abbrev pub invariant-loop-piece : goal.invariant-loop-piece
invariant-loop-piece l = (t : Tables) → IsWholePageOf t l.account l.after l.page
    → AreAhead t l.ahead.items × ((n : ℕ) × (n + l.piece-index ≡ 256) × IsLeftOf t l.account l.end n (map Whole (drop l.piece-index l.page)))
