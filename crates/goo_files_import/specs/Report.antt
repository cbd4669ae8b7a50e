-- The text of a report.
use Rattle.std.specs.Prelude.{ℕ, ◌+◌, List, [], ◌∷◌, ◌++◌, codes, decimal}
use Rattle.goo_types.specs.Refusal.{refusal_code}
use Rattle.goo_files_import.specs.declared.row_result.RowResult.{RowResult}
use Rattle.goo_files_import.specs.declared.row_result.RowResult.TheVariants.{Accepted, Repeated, Refused, Unreadable}

abbrev pub result_text : RowResult → List ℕ
result_text Accepted = codes "accepted"
result_text Repeated = codes "repeated"
result_text (Refused refusal) = codes "refused " ++ decimal (refusal_code refusal)
result_text Unreadable = codes "unreadable"

-- a row's number, and what it came to
unfoldable pub report_line : ℕ → RowResult → List ℕ
report_line number result = decimal number ++ codes " " ++ result_text result ++ codes "\n"

abbrev pub report_from : ℕ → List RowResult → List ℕ
report_from number [] = []
report_from number (result ∷ results) = report_line number result ++ report_from (number + 1) results

-- a line a row, numbered from 1
abbrev pub report_text : List RowResult → List ℕ
report_text results = report_from 1 results
