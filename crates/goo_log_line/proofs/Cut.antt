-- A line has one name and one text.
use Rattle.std.proofs.Common.{◌≡◌, ◌≢◌, ◌<◌, ◌+◌, ◌-◌, ◌∙◌, ℕ, false, List, ◌++◌, length, take, drop, get_or, refl, sym, ap, subst, arith, append_assoc, length-append}
use Rattle.std.specs.Prelude.{slice_range}
use Rattle.std.specs.Str.{IsUtf8, bytes_eq}
use Rattle.std.proofs.lemmas.Bool.{false≢true}
use Rattle.std.proofs.lemmas.Slice.Eq.{bytes_eq-Decides}
use Rattle.std.proofs.Math.Seq.{take-append_seam, drop-append_seam}
use Rattle.hex.proofs.HexLemmas.{length-encode_with}
use Rattle.hex.specs.Hex.{lower_digits}
use Rattle.sha2.proofs.Facts256.{length-sha256}
use Rattle.sha2.specs.Sha256.{sha256}
use Rattle.goo_log_keyed.specs.Keyed.{hash_by, masked}
use Rattle.goo_log_entry.specs.Contents.{EntryContents, OutcomeContents, IsEntry, IsOutcome}
use Rattle.goo_log_entry.specs.Text.{entry_text, outcome_text}
use Rattle.goo_log_line.specs.Line.{framed, mac, LineContents, IsLine, line_text}
use Rattle.goo_log_line.specs.Line.LineContents.{AnEntry, AnOutcome}
use Rattle.goo_log_line.specs.declared.frame.TheConstants.{ENTRY, OUTCOME, MIDDLE, END}

abbrev tail : List ℕ → List ℕ → List ℕ
tail key text = MIDDLE.now ++ (mac key text ++ END.now)

length_mac : (key text : List ℕ) → length (mac key text) ≡ 64
unfolding hash_by
length_mac key text =
    let twice = length-encode_with lower_digits (hash_by key text) in
    let whole = length-sha256 (masked 0x5c key ++ sha256 (masked 0x36 key ++ text)) in
    omega (arith, twice, whole)

length_tail : (key text : List ℕ) → length (tail key text) ≡ 74
length_tail key text =
    let hash = length_mac key text in
    let behind = length-append (mac key text) END.now in
    let all = length-append MIDDLE.now (mac key text ++ END.now) in
    omega (arith, hash, behind, all)

in_three : (name key text : List ℕ) → framed name key text ≡ name ++ (text ++ tail key text)
unfolding framed
in_three name key text = simp append_assoc refl

length_framed : (name key text : List ℕ) → length (framed name key text) ≡ length name + (length text + 74)
length_framed name key text =
    let three = ap length (in_three name key text) in
    let all = length-append name (text ++ tail key text) in
    let behind = length-append text (tail key text) in
    let end = length_tail key text in
    omega (arith, three, all, behind, end)

middle : (name text end : List ℕ) → length end ≡ 74
    → slice_range (name ++ (text ++ end)) (length name) (length (name ++ (text ++ end)) - 74) ≡ text
middle name text end h =
    let all = length-append name (text ++ end) in
    let behind = length-append text end in
    let n : length (name ++ (text ++ end)) - 74 - length name ≡ length text = omega (arith, all, behind, h) in
    ap (λ k. take k (drop (length name) (name ++ (text ++ end)))) n
    ∙ ap (take (length text)) (drop-append_seam name (text ++ end))
    ∙ take-append_seam text end

-- a line's text stands between its name and the last 74 bytes
pub cut : (line name key text : List ℕ) → line ≡ framed name key text → slice_range line (length name) (length line - 74) ≡ text
cut line name key text same =
    ap (λ l. slice_range l (length name) (length l - 74)) (same ∙ in_three name key text)
    ∙ middle name text (tail key text) (length_tail key text)

pub framed_same : (name key t u : List ℕ) → framed name key t ≡ framed name key u → t ≡ u
framed_same name key t u e = sym (cut (framed name key t) name key t refl) ∙ cut (framed name key t) name key u e

pub too_short : (line name key text : List ℕ) → length line < length name + 74 → line ≢ framed name key text
too_short line name key text h e =
    let l = ap length e ∙ length_framed name key text in
    absurd (omega (arith, h, l))

pub not_framed : (line name key again : List ℕ) → again ≡ framed name key (slice_range line (length name) (length line - 74))
    → bytes_eq again line ≡ false → (text : List ℕ) → line ≢ framed name key text
not_framed line name key again a h text e =
    false≢true (sym h ∙ (bytes_eq-Decides again line).1 (a ∙ ap (framed name key) (cut line name key text e) ∙ sym e))

pub no_entry_is_an_outcome : (key t u : List ℕ) → framed ENTRY.now key t ≢ framed OUTCOME.now key u
unfolding framed
no_entry_is_an_outcome key t u e =
    let third : 101 ≡ 111 = ap (λ l. get_or l 2 0) e in absurd (omega (arith, third))

-- ---- lines that are refused

pub entry_refused : (line key text : List ℕ) → line ≡ framed ENTRY.now key text
    → ((e : EntryContents) → IsEntry e → IsUtf8 (entry_text e) → text ≢ entry_text e)
    → (l : LineContents) → IsLine l → line ≢ line_text key l
entry_refused line key text is h (AnEntry e) k same = h e k.0 k.1 (framed_same ENTRY.now key text (entry_text e) (sym is ∙ same))
entry_refused line key text is h (AnOutcome o) k same = no_entry_is_an_outcome key text (outcome_text o) (sym is ∙ same)

pub outcome_refused : (line key text : List ℕ) → line ≡ framed OUTCOME.now key text
    → ((o : OutcomeContents) → IsOutcome o → IsUtf8 (outcome_text o) → text ≢ outcome_text o)
    → (l : LineContents) → IsLine l → line ≢ line_text key l
outcome_refused line key text is h (AnEntry e) k same = no_entry_is_an_outcome key (entry_text e) text (sym same ∙ is)
outcome_refused line key text is h (AnOutcome o) k same = h o k.0 k.1 (framed_same OUTCOME.now key text (outcome_text o) (sym is ∙ same))

pub neither : (line key : List ℕ) → ((text : List ℕ) → line ≢ framed ENTRY.now key text) → ((text : List ℕ) → line ≢ framed OUTCOME.now key text)
    → (l : LineContents) → IsLine l → line ≢ line_text key l
neither line key h k (AnEntry e) is same = h (entry_text e) same
neither line key h k (AnOutcome o) is same = k (outcome_text o) same

pub not_utf8 : (text other : List ℕ) → ¬ (IsUtf8 text) → IsUtf8 other → text ≢ other
not_utf8 text other h u same = h (subst (λ (x : List ℕ). IsUtf8 x) (sym same) u)
