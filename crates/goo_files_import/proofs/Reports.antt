-- The lines of a report, one more.
use Rattle.std.proofs.Common.{◌≡◌, ◌∙◌, ℕ, suc, ◌+◌, ◌<◌, List, [], ◌∷◌, ◌++◌, length, get_or, take, drop, ap, sym, arith, append_assoc, take-append-drop, Result, Ok, Err, OnErr}
use Rattle.std.proofs.lemmas.List.{append-nil, take_more, length-take-le}
use Rattle.goo_files_import.specs.Report.{report_line, report_from}
use Rattle.goo_files_import.specs.declared.row_result.RowResult.{RowResult}

pub report-append : (k : ℕ) (xs ys : List RowResult) → report_from k (xs ++ ys) ≡ report_from k xs ++ report_from (k + length xs) ys
report-append k [] ys = ap (λ n. report_from n ys) (let e : k ≡ k + 0 = omega arith in e)
report-append k (x ∷ xs) ys =
    ap (λ t. report_line k x ++ t) (report-append (k + 1) xs ys ∙ ap (λ n. report_from (k + 1) xs ++ report_from n ys) (let e : k + 1 + length xs ≡ k + suc (length xs) = omega arith in e))
    ∙ sym (append_assoc (report_line k x) (report_from (k + 1) xs) _)

-- the first lines, and the next
pub report-next : (xs : List RowResult) (i : ℕ) (x : RowResult) → i < length xs → x ≡ get_or xs i x → report_from 1 (take (i + 1) xs) ≡ report_from 1 (take i xs) ++ report_line (i + 1) x
report-next xs i x lt is =
    let more = take_more xs i x lt in
    let count = length-take-le i xs (omega arith) in
    ap (report_from 1) (more ∙ ap (λ y. take i xs ++ y ∷ []) (sym is)) ∙ report-append 1 (take i xs) (x ∷ [])
    ∙ ap (λ t. report_from 1 (take i xs) ++ t) (append-nil _ ∙ ap (λ n. report_line n x) (let e : 1 + length (take i xs) ≡ i + 1 = omega (arith, count) in e))

-- they are a beginning of all
pub report-front : (xs : List RowResult) (i : ℕ) → report_from 1 xs ≡ report_from 1 (take i xs) ++ report_from (1 + length (take i xs)) (drop i xs)
report-front xs i = ap (report_from 1) (sym (take-append-drop i xs)) ∙ report-append 1 (take i xs) (drop i xs)

pub on_err : {T E P : Type 0} (r : Result T E) → P → OnErr r P
on_err (Ok x) p = tt
on_err (Err e) p = p
