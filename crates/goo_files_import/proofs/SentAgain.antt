-- Rows that are imported again behind a part of them.
use Rattle.std.proofs.Common.{◌≡◌, ◌∙◌, ◌==◌, ℕ, List, [], ◌∷◌, ◌++◌, length, Option, Some, None, map, refl, sym, ap, subst, inl, inr}
use Rattle.std.proofs.lemmas.List.Elements.{All-nil, All-cons}
use Rattle.std.specs.Result.{result_ok}
use Rattle.csv.specs.Machine.{Read, next_record}
use Rattle.csv.specs.Reading.{Reached}
use Rattle.csv.specs.declared.parser.Config.{Config}
use Rattle.csv.specs.declared.parser.State as parser
use Rattle.goo_types.specs.Codes.{key_reading}
use Rattle.goo_types.specs.declared.command.Command.TheVariants as command
use Rattle.goo_types.specs.declared.outcome.Outcome.{Outcome}
use Rattle.goo_types.specs.declared.outcome.Outcome.TheVariants as outcome
use Rattle.goo_types.specs.declared.request.Request.{Request}
use Rattle.goo_spec.specs.Run.{final, outcomes}
use Rattle.goo_spec_again.specs.Whole as spec
use Rattle.goo_spec_again.proofs.Declared.{declarations_again}
use Rattle.goo_files_csv.specs.Rows.{field_in, declaration_in, header, request_in}
use Rattle.goo_files_import.specs.Import.{importing, requests_with, requests_of}
use Rattle.goo_files_import.specs.Laws.{AreAgain, IsAgain, RowsSentAgain, TableSentAgain, in_place, results_of}
use Rattle.goo_files_import.specs.Results.{result_of}
use Rattle.goo_files_import.specs.declared.row_result.RowResult.{RowResult}
use Rattle.goo_files_import.proofs.OneTable.{no_read, same_read}
use Rattle.goo_files_import.proofs.PromiseFacts.{bind_some, chosen, same}
use Rattle.goo_files_import.proofs.Runs.{a_run}

abbrev Fields : Type 0
Fields = List (List ℕ)

-- ---- the requests of rows are declarations

row_declares : (caller : List ℕ) (fields : Fields) (q : Request) → request_in caller fields ≡ Some q → spec.IsDeclaration q.command
unfolding request_in
row_declares caller fields q is =
    let a0 = bind_some (result_ok (key_reading (field_in fields 0))) _ q (chosen (length fields == 6) _ q is) in
    let a1 = bind_some (declaration_in fields) _ q a0.2 in
    subst (λ (r : Request). spec.IsDeclaration r.command) (same (record { caller = caller; key = a0.0; command = command.Declare a1.0 }) q a1.2) tt

one_declares : (o : Option Request) (qs : List Request) → ((q : Request) → o ≡ Some q → spec.IsDeclaration q.command) → spec.AreDeclarations qs → spec.AreDeclarations (requests_with o qs)
one_declares None qs one rest = rest
one_declares (Some q) qs one rest = All-cons (λ p. spec.IsDeclaration p.command) q qs (one q refl) rest

rows_declare : (caller : List ℕ) (rows : List Fields) → spec.AreDeclarations (requests_of caller rows)
rows_declare caller [] = All-nil (λ q. spec.IsDeclaration q.command)
rows_declare caller (row ∷ rows) = one_declares (request_in caller row) (requests_of caller rows) (row_declares caller row) (rows_declare caller rows)

with_more : (o : Option Request) (qs rs : List Request) → requests_with o (qs ++ rs) ≡ requests_with o qs ++ rs
with_more None qs rs = refl
with_more (Some q) qs rs = refl

requests_more : (caller : List ℕ) (part rest : List Fields) → requests_of caller (part ++ rest) ≡ requests_of caller part ++ requests_of caller rest
requests_more caller [] rest = refl
requests_more caller (row ∷ part) rest = ap (requests_with (request_in caller row)) (requests_more caller part rest) ∙ with_more (request_in caller row) (requests_of caller part) (requests_of caller rest)

-- ---- their lines

line_again : (first second : Outcome) → spec.IsAgain first second → IsAgain (result_of first) (result_of second)
line_again (outcome.Accepted reply) second is = ap result_of is
line_again (outcome.Repeated reply) second is = ap result_of is
line_again (outcome.Refused refusal) second is = (is.0, ap result_of is.1)

by_request : (row : Fields) (part : List Fields) (o : Option Request) (some : List (Option Request)) (qs : List Request) (once again : List Outcome)
    → ((a b : List Outcome) → spec.AreAgain qs a b → AreAgain part (in_place some a) (in_place some b))
    → spec.AreAgain (requests_with o qs) once again → AreAgain (row ∷ part) (in_place (o ∷ some) once) (in_place (o ∷ some) again)
by_request row part None some qs once again rest are = (refl, rest once again are)
by_request row part (Some q) some qs [] again rest are = absurd are
by_request row part (Some q) some qs (first ∷ once) [] rest are = absurd are
by_request row part (Some q) some qs (first ∷ once) (second ∷ again) rest are = (line_again first second are.0, rest once again are.1)

lines_again : (caller : List ℕ) (part rest : List Fields) (once again : List Outcome) → spec.AreAgain (requests_of caller part) once again
    → AreAgain part (in_place (map (request_in caller) (part ++ rest)) once) (in_place (map (request_in caller) (part ++ rest)) again)
lines_again caller [] rest once again are = ap (in_place (map (request_in caller) rest)) are
lines_again caller (row ∷ part) rest once again are = by_request row part (request_in caller row) (map (request_in caller) (part ++ rest)) (requests_of caller part) once again (λ a b. lines_again caller part rest a b) are

pub rows_sent_again : RowsSentAgain
rows_sent_again s caller part rest =
    let ps = requests_of caller part in
    let rs = requests_of caller rest in
    let law = declarations_again s ps rs (rows_declare caller part) in
    let all = requests_more caller part rest in
    let mid = (importing s caller part).state in
    let first = a_run s caller part in
    let once = a_run s caller (part ++ rest) in
    let again = a_run mid caller (part ++ rest) in
    let lines : AreAgain part (results_of s caller (part ++ rest)) (results_of (final s ps) caller (part ++ rest)) =
    lines_again caller part rest _ _ (subst (λ (l : List Request). spec.AreAgain ps (outcomes s l) (outcomes (final s ps) l)) (sym all) law.outcomes_are) in
    record {
      state = again.state ∙ (λ i. final (first.state i) (all i)) ∙ law.state ∙ sym (once.state ∙ ap (final s) all);
      lines_are = subst (λ (l : List RowResult). AreAgain part l (importing mid caller (part ++ rest)).lines) (sym once.lines_are)
          (subst (λ (l : List RowResult). AreAgain part (results_of s caller (part ++ rest)) l) (sym (again.lines_are ∙ ap (λ t. results_of t caller (part ++ rest)) first.state)) lines);
      requests = law;
    }

-- ---- the first rows of an input

begins : (cfg : Config) (s : parser.State) (xs : List ℕ) (part rows : List Fields) (s1 s2 : parser.State) (ys zs : List ℕ) → Reached cfg s xs part s1 ys → Reached cfg s xs rows s2 zs → next_record cfg s2 [] [] zs ≡ None
    → (rest : List Fields) × (rows ≡ part ++ rest)
unfolding Reached
begins cfg s xs [] rows s1 s2 ys zs a b bn = (rows, refl)
begins cfg s xs (r ∷ rs) [] s1 s2 ys zs a b bn =
    let end : next_record cfg s [] [] xs ≡ None = (λ i. next_record cfg (b.0 i) [] [] (b.1 i)) ∙ bn in
    absurd (no_read (next_record cfg s [] [] xs) a.0 end a.1)
begins cfg s xs (r ∷ rs) (q ∷ qs) s1 s2 ys zs a b bn =
    let one = same_read (next_record cfg s [] [] xs) a.0 b.0 a.1 b.1 in
    let later : Reached cfg a.0.1 a.0.2 qs s2 zs = subst (λ (p : Read). Reached cfg p.1 p.2 qs s2 zs) (sym one) b.3 in
    let head : q ≡ r = b.2 ∙ ap (λ (p : Read). p.0) (sym one) ∙ sym a.2 in
    let tail = begins cfg a.0.1 a.0.2 rs qs s1 s2 ys zs a.3 later bn in
    (tail.0, λ i. head i ∷ tail.1 i)

without_header : (part rows rest : List Fields) → header ∷ rows ≡ (header ∷ part) ++ rest → rows ≡ part ++ rest
without_header part rows rest is = cc

pub table_sent_again : TableSentAgain
table_sent_again s caller input part rows (inl none) table = (rows, ap (λ l. l ++ rows) (sym none), rows_sent_again s caller part rows)
table_sent_again s caller input part rows (inr (s1, ys, a)) (s2, zs, b, bn) =
    let found = begins _ _ _ (header ∷ part) (header ∷ rows) s1 s2 ys zs a b bn in
    (found.0, without_header part rows found.0 found.1, rows_sent_again s caller part found.0)
