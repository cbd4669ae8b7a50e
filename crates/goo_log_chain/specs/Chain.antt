-- The chain of outcomes.
use Rattle.std.specs.Prelude.{ℕ, List, [], ◌++◌, length, if◌then◌else◌, codes, decimal}
use Rattle.std.specs.Str.{bytes_eq}
use Rattle.bstr.specs.Text.{replaced_at}
use Rattle.memchr.specs.Find.{matches}
use Rattle.hex.specs.Hex.{encode_lower}
use Rattle.sha2.specs.Sha256.{sha256}
use Rattle.goo_log_chain.specs.Rows.{rows_behind}
use Rattle.goo_log_chain.specs.declared.comparison.TheConstants.{REPEATED, ACCEPTED}

-- an answer with each `repeated` as `accepted`
abbrev pub as_accepted : List ℕ → List ℕ
as_accepted body = replaced_at body (length REPEATED.now) ACCEPTED.now 0 (matches body REPEATED.now 0)

-- what of an outcome is the same whenever its entry is applied: an accepted request may come again as a repeated one
unfoldable pub comparable : List ℕ → ℕ → List ℕ → List ℕ
comparable route status body =
    decimal status ++ codes " " ++ (if bytes_eq route (codes "/v1/declarations") then rows_behind [] body else as_accepted body)

-- the chain after an outcome, by the chain before
abbrev pub chained : List ℕ → List ℕ → ℕ → List ℕ → List ℕ
chained before route status body = encode_lower (sha256 (before ++ comparable route status body))
