-- What is told of an import while it lasts.
use Rattle.std.specs.Prelude.{ℕ, List, ◌++◌, codes, decimal}

-- from the beginning of the line on: how many rows stand, and of how many
unfoldable pub progress_text : ℕ → ℕ → List ℕ
progress_text done rows = codes "\r" ++ decimal done ++ codes " of " ++ decimal rows ++ codes " rows"
