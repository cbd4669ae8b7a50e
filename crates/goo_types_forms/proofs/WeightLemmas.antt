-- The weights of the check digit, told from the left.
use Rattle.std.proofs.Common.{◌≡◌, ℕ, zero, suc, ◌+◌, ◌-◌, ◌*◌, ◌≤◌, List, [], ◌∷◌, ◌++◌, reverse, length, take, get_or, refl, sym, ap, ◌∙◌, arith, length-take-le}
use Rattle.std.proofs.lemmas.Grind.{common_steps}
use Rattle.std.proofs.lemmas.List.{length-reverse, reverse-append}
use Rattle.std.specs.Char.{digit_value}
use Rattle.goo_types_forms.specs.CheckDigit.{weighted_sum, check_sum}

-- the weight that stands n places after w
abbrev turned : ℕ → ℕ → ℕ
turned w zero = w
turned w (suc n) = 4 - turned w n

turned_low : (w n : ℕ) → w ≤ 4 → turned w n ≤ 4
turned_low w zero h = h
turned_low w (suc n) h = omega arith

turned-next : (w n : ℕ) → w ≤ 4 → turned (4 - w) n ≡ 4 - turned w n
turned-next w zero h = refl
turned-next w (suc n) h = ap (λ k. 4 - k) (turned-next w n h)

-- a digit behind the others counts with the weight of its place
sum-append : (w d : ℕ) (ds : List ℕ) → w ≤ 4 → weighted_sum w (ds ++ d ∷ []) ≡ weighted_sum w ds + turned w (length ds) * digit_value d
sum-append w d [] h = omega arith
sum-append w d (x ∷ xs) h =
    let rest = sum-append (4 - w) d xs (omega arith) in
    let weight : turned (4 - w) (length xs) * digit_value d ≡ (4 - turned w (length xs)) * digit_value d = ap (λ k. k * digit_value d) (turned-next w (length xs) h) in
    omega (arith, rest, weight)

-- the weights told from the right, by the weight of the last place
sum-reverse : (w : ℕ) (ds : List ℕ) → w ≤ 4 → weighted_sum w (reverse ds) ≡ weighted_sum (4 - turned w (length ds)) ds
sum-reverse w [] h = refl
sum-reverse w (x ∷ xs) h =
    let t = turned w (length xs) in
    let low = turned_low w (length xs) h in
    let last : weighted_sum w (reverse (x ∷ xs)) ≡ weighted_sum w (reverse xs) + turned w (length (reverse xs)) * digit_value x = ap (weighted_sum w) (reverse-append (x ∷ []) xs) ∙ sum-append w x (reverse xs) h in
    let same : 4 - (4 - t) ≡ t = omega arith in
    let here : turned w (length (reverse xs)) * digit_value x ≡ (4 - (4 - t)) * digit_value x = ap (λ k. k * digit_value x) (ap (turned w) (length-reverse xs) ∙ sym same) in
    let rest : weighted_sum (4 - t) xs ≡ weighted_sum (4 - (4 - (4 - t))) xs = ap (λ k. weighted_sum (4 - k) xs) (sym same) in
    omega (arith, last, here, rest, sum-reverse w xs h)

seventeen_and_one : (text : List ℕ) → length text ≡ 18 → text ≡ take 17 text ++ get_or text 17 0 ∷ []
seventeen_and_one text h = grind (arith, common_steps)

-- over eighteen digits the weights are the same from the left
pub check_sum-from_left : (text : List ℕ) → length text ≡ 18 → weighted_sum 3 text ≡ check_sum text
check_sum-from_left text h =
    let front : length (take 17 text) ≡ 17 = length-take-le 17 text (omega arith) in
    let turns : turned 3 (length (take 17 text)) ≡ 1 = ap (turned 3) front in
    let last = sum-append 3 (get_or text 17 0) (take 17 text) (omega arith) in
    let one : turned 3 (length (take 17 text)) * digit_value (get_or text 17 0) ≡ 1 * digit_value (get_or text 17 0) = ap (λ k. k * digit_value (get_or text 17 0)) turns in
    let right : weighted_sum 3 (reverse (take 17 text)) ≡ weighted_sum 3 (take 17 text) = sum-reverse 3 (take 17 text) (omega arith) ∙ ap (λ k. weighted_sum (4 - k) (take 17 text)) turns in
    ap (weighted_sum 3) (seventeen_and_one text h) ∙ omega (arith, last, one, right)
