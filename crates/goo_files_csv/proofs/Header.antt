-- A record that passes for the header is the header, and the header passes.
use Rattle.std.proofs.Common.{◌≡◌, ◌==◌, ◌&&◌, ℕ, List, [], ◌∷◌, true, length, refl, arith}
use Rattle.std.proofs.lemmas.Bool.{eqb-true}
use Rattle.std.proofs.lemmas.Slice.Eq.{bytes_eq-Decides}
use Rattle.goo_types.proofs.BoolLemmas.{and_left, and_right}
use Rattle.csv.specs.Records.{field_at}
use Rattle.goo_files_csv.specs.Rows.{header, is_header, has_names, has_amounts}

pub header_passes : is_header header ≡ true
unfolding field_at
header_passes = refl

short : (fields : List (List ℕ)) → is_header fields ≡ true → length fields ≡ 6
short fields e = eqb-true (length fields) 6 (and_left (length fields == 6) (has_names fields && has_amounts fields) e)

-- six fields with these names
named : (a b c d e f : List ℕ) → (has_names (a ∷ b ∷ c ∷ d ∷ e ∷ f ∷ []) && has_amounts (a ∷ b ∷ c ∷ d ∷ e ∷ f ∷ [])) ≡ true → a ∷ b ∷ c ∷ d ∷ e ∷ f ∷ [] ≡ header
unfolding field_at
named a b c d e f is =
    let fields : List (List ℕ) = a ∷ b ∷ c ∷ d ∷ e ∷ f ∷ [] in
    let names : has_names fields ≡ true = and_left (has_names fields) (has_amounts fields) is in
    let amounts : has_amounts fields ≡ true = and_right (has_names fields) (has_amounts fields) is in
    let p0 = (bytes_eq-Decides a _).0 (and_left _ _ names) in
    let p1 = (bytes_eq-Decides b _).0 (and_left _ _ (and_right _ _ names)) in
    let p2 = (bytes_eq-Decides c _).0 (and_right _ _ (and_right _ _ names)) in
    let p3 = (bytes_eq-Decides d _).0 (and_left _ _ amounts) in
    let p4 = (bytes_eq-Decides e _).0 (and_left _ _ (and_right _ _ amounts)) in
    let p5 = (bytes_eq-Decides f _).0 (and_right _ _ (and_right _ _ amounts)) in
    λ i. p0 i ∷ p1 i ∷ p2 i ∷ p3 i ∷ p4 i ∷ p5 i ∷ []

by_length : (fields : List (List ℕ)) → length fields ≡ 6 → is_header fields ≡ true → fields ≡ header
by_length [] n e = absurd (omega (arith, n))
by_length (a ∷ []) n e = absurd (omega (arith, n))
by_length (a ∷ b ∷ []) n e = absurd (omega (arith, n))
by_length (a ∷ b ∷ c ∷ []) n e = absurd (omega (arith, n))
by_length (a ∷ b ∷ c ∷ d ∷ []) n e = absurd (omega (arith, n))
by_length (a ∷ b ∷ c ∷ d ∷ x ∷ []) n e = absurd (omega (arith, n))
by_length (a ∷ b ∷ c ∷ d ∷ x ∷ f ∷ []) n e = named a b c d x f e
by_length (a ∷ b ∷ c ∷ d ∷ x ∷ f ∷ g ∷ rest) n e = absurd (omega (arith, n))

pub header_is : (fields : List (List ℕ)) → is_header fields ≡ true → fields ≡ header
header_is fields e = by_length fields (short fields e) e
