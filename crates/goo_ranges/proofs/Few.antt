-- How many pieces a new one replaces, and how many parts of those are left.
use Rattle.std.proofs.Common.{◌≡◌, ℕ, suc, ◌+◌, ◌-◌, ◌<◌, ◌≤◌, List, [], ◌∷◌, ◌++◌, Bool, true, false, length, get_or, take, drop, refl, ap, sym, ◌∙◌, ⊎_elim, arith}
use Rattle.std.specs.List.{count_by}
use Rattle.std.proofs.lemmas.Bool.Decides.{nat_tests}
use Rattle.std.proofs.lemmas.List.{get_or-drop, length-take, length-take-le, length-drop}
use Rattle.std.proofs.lemmas.List.Sums.{sum_by-append, count_by-le-length}
use Rattle.goo_types.specs.declared.piece.Piece.{Piece}
use Rattle.goo_types.specs.Piece.{IsRising, IsRisingFrom}
use Rattle.goo_ranges_pieces.specs.Change.{meets, one_if}
use Rattle.goo_ranges_pieces.specs.Touching.{AreMet, IsMeeting, IsJoinedBefore, IsFreeBefore, IsBegin, IsJoinedAfter, IsFreeAfter, IsEnd}
use Rattle.goo_ranges_pieces.proofs.Joining.{take-piece}
use Rattle.goo_ranges_pieces.proofs.Rest.{drop-piece}
use Rattle.goo_ranges.proofs.Splicing.{count-middle}
use Rattle.goo_ranges_pieces.proofs.Touching.{in-three, between-rising}

count-cons : (test : Piece → Bool) (p : Piece) (ps : List Piece) → count_by test (p ∷ ps) ≡ one_if (test p) + count_by test ps
count-cons test p ps = let e = sum_by-append (λ x. one_if (test x)) (p ∷ []) ps in omega arith

count-push : (test : Piece → Bool) (ps : List Piece) (p : Piece) → count_by test (ps ++ p ∷ []) ≡ count_by test ps + one_if (test p)
count-push test ps p = let e = sum_by-append (λ x. one_if (test x)) ps (p ∷ []) in omega arith

-- the piece that joins before has no part in the count
count-before : (ps : List Piece) (from : ℕ) (new : Piece) (begin first end : ℕ) (test : Piece → Bool) → IsBegin ps from new begin first → from ≤ end
    → ((p : Piece) → p.first ≡ first → p.last + 1 ≡ new.first → test p ≡ false)
    → count_by test (take (end - begin) (drop begin ps)) ≡ count_by test (take (end - from) (drop from ps))
count-before ps from new begin first end test is le none = ⊎_elim
    (λ (j : IsJoinedBefore ps from new begin first).
    let index : from ≡ begin + 1 = j.next in
    let e : end - begin ≡ suc (end - from) = omega arith in
    let split : drop begin ps ≡ j.piece ∷ drop (begin + 1) ps = drop-piece ps begin j.piece j.bound j.here in
    let off : test j.piece ≡ false = none j.piece (sym j.extends) j.follows.0 in
    let nothing : one_if (test j.piece) ≡ 0 = rw off refl in
    let counted = count-cons test j.piece (take (end - from) (drop (begin + 1) ps)) in
    let less : count_by test (j.piece ∷ take (end - from) (drop (begin + 1) ps)) ≡ count_by test (take (end - from) (drop (begin + 1) ps)) = omega arith in
    rw (e, split) less ∙ ap (λ (i : ℕ). count_by test (take (end - from) (drop i ps))) (sym index))
    (λ (f : IsFreeBefore ps from new begin first). ap (λ (i : ℕ). count_by test (take (end - i) (drop i ps))) f.same)
    is

-- nor has the one that joins after
count-after : (ps : List Piece) (from to : ℕ) (new : Piece) (end last : ℕ) (test : Piece → Bool) → IsEnd ps to new end last → from ≤ to
    → ((p : Piece) → p.last ≡ last → new.last + 1 ≡ p.first → test p ≡ false)
    → count_by test (take (end - from) (drop from ps)) ≡ count_by test (take (to - from) (drop from ps))
count-after ps from to new end last test is le none = ⊎_elim
    (λ (j : IsJoinedAfter ps to new end last).
    let index : end ≡ to + 1 = j.next in
    let e : end - from ≡ (to - from) + 1 = omega arith in
    let there : from + (to - from) ≡ to = omega arith in
    let within : to < length ps = j.bound in
    let size = length-drop from ps in
    let read : j.piece ≡ get_or (drop from ps) (to - from) j.piece = j.here ∙ sym (get_or-drop from ps (to - from) j.piece ∙ ap (λ (i : ℕ). get_or ps i j.piece) there) in
    let split = take-piece (drop from ps) (to - from) j.piece (omega arith) read in
    let off : test j.piece ≡ false = none j.piece (sym j.extends) j.follows.0 in
    let nothing : one_if (test j.piece) ≡ 0 = rw off refl in
    let counted = count-push test (take (to - from) (drop from ps)) j.piece in
    let less : count_by test (take (to - from) (drop from ps) ++ j.piece ∷ []) ≡ count_by test (take (to - from) (drop from ps)) = omega arith in
    rw (e, split) less)
    (λ (f : IsFreeAfter ps to new end last). ap (λ (i : ℕ). count_by test (take (i - from) (drop from ps))) f.same)
    is

none-begin : (low high : ℕ) (ps : List Piece) → high < low → IsRisingFrom low ps → count_by (meets 0 high) ps ≡ 0
none-begin low high [] lt r = refl
none-begin low high (p ∷ ps) lt r =
    let here : low ≤ p.first = r.0 in
    let forward : p.first ≤ p.last = r.1.0 in
    let more = none-begin (p.last + 1) high ps (omega arith) r.2 in
    let e : meets 0 high p ≡ false = grind (arith, nat_tests) in
    count-cons (meets 0 high) p ps ∙ rw (e, more) refl

-- one of the pieces met begins before the range, at most
one-begins : (low first last high : ℕ) (ps : List Piece) → high < first → IsRisingFrom low ps → AreMet first last ps → count_by (meets 0 high) ps ≤ 1
one-begins low first last high [] lt r met = omega arith
one-begins low first last high (p ∷ ps) lt r met =
    let reached : first ≤ p.last = met.0 in
    let rest = none-begin (p.last + 1) high ps (omega arith) r.2 in
    let counted = count-cons (meets 0 high) p ps in
    let one : one_if (meets 0 high p) ≤ 1 = elim (meets 0 high p) as (λ b. one_if b ≤ 1) [ true ↦ omega arith | false ↦ omega arith ] in
    omega arith

-- and one ends after it
one-ends : (low first last above stop : ℕ) (ps : List Piece) → last < above → IsRisingFrom low ps → AreMet first last ps → count_by (meets above stop) ps ≤ 1
one-ends low first last above stop [] lt r met = omega arith
one-ends low first last above stop (p ∷ []) lt r met =
    let counted = count-cons (meets above stop) p [] in
    let one : one_if (meets above stop p) ≤ 1 = elim (meets above stop p) as (λ b. one_if b ≤ 1) [ true ↦ omega arith | false ↦ omega arith ] in
    let none : count_by (meets above stop) [] ≡ 0 = refl in
    omega arith
one-ends low first last above stop (p ∷ q ∷ ps) lt r met =
    let next : p.last + 1 ≤ q.first = r.2.0 in
    let reached : q.first ≤ last = met.2.1 in
    let e : meets above stop p ≡ false = grind (arith, nat_tests) in
    let nothing : one_if (meets above stop p) ≡ 0 = rw e refl in
    let rest = one-ends (p.last + 1) first last above stop (q ∷ ps) lt r.2 met.2 in
    let counted = count-cons (meets above stop) p (q ∷ ps) in
    omega arith

all-met : (first last : ℕ) (ps : List Piece) → AreMet first last ps → count_by (meets first last) ps ≡ length ps
all-met first last [] met = refl
all-met first last (p ∷ ps) met =
    let one : first ≤ p.last = met.0 in
    let two : p.first ≤ last = met.1 in
    let e : meets first last p ≡ true = grind (arith, nat_tests) in
    let rest = all-met first last ps met.2 in
    let counted = count-cons (meets first last) p ps in
    let some : one_if (meets first last p) ≡ 1 = rw e refl in
    omega arith

-- the block that a new piece replaces, and the parts of it that are left before and after
pub few-replaced : (ps : List Piece) (new : Piece) (from to begin first end last left right stop : ℕ) → IsRising ps → 1 ≤ first → first ≤ new.first → new.first ≤ new.last → new.last ≤ last → begin ≤ from → from ≤ begin + 1 → to ≤ end → end ≤ to + 1
    → IsMeeting ps new.first new.last from to → IsBegin ps from new begin first → IsEnd ps to new end last
    → left ≤ count_by (meets 0 (first - 1)) (take (end - begin) (drop begin ps))
    → right ≤ count_by (meets (last + 1) stop) (take (end - begin) (drop begin ps))
    → (length (take (end - begin) (drop begin ps)) ≤ count_by (meets new.first new.last) ps + 2) × (left + (1 + right) ≤ count_by (meets new.first new.last) ps + 2)
few-replaced ps new from to begin first end last left right stop r some low up high a b c d meeting is_begin is_end lefts rights =
    let met = take (to - from) (drop from ps) in
    let order : from ≤ to = meeting.order in
    let bound : to ≤ length ps = meeting.bound in
    let rise = between-rising ps from (to - from) r in
    let all = all-met new.first new.last met meeting.met in
    let part = count-middle (meets new.first new.last) (take from ps) met (drop to ps) in
    let within = rw (in-three ps from to order) at part in
    let size : length met ≡ to - from = length-take-le (to - from) (drop from ps) (let h = length-drop from ps in omega arith) in
    let block = length-take (end - begin) (drop begin ps) in
    let one : count_by (meets 0 (first - 1)) (take (end - begin) (drop begin ps)) ≡ count_by (meets 0 (first - 1)) met =
    count-before ps from new begin first end (meets 0 (first - 1)) is_begin (omega arith) (λ p starts next. grind (arith, nat_tests))
    ∙ count-after ps from to new end last (meets 0 (first - 1)) is_end order (λ p ends next. grind (arith, nat_tests)) in
    let two : count_by (meets (last + 1) stop) (take (end - begin) (drop begin ps)) ≡ count_by (meets (last + 1) stop) met =
    count-before ps from new begin first end (meets (last + 1) stop) is_begin (omega arith) (λ p starts next. grind (arith, nat_tests))
    ∙ count-after ps from to new end last (meets (last + 1) stop) is_end order (λ p ends next. grind (arith, nat_tests)) in
    let begins = one-begins 0 new.first new.last (first - 1) met (omega arith) rise meeting.met in
    let ends = one-ends 0 new.first new.last (last + 1) stop met (omega arith) rise meeting.met in
    let shorter_left = count_by-le-length (meets 0 (first - 1)) met in
    let shorter_right = count_by-le-length (meets (last + 1) stop) met in
    (omega arith, omega arith)
