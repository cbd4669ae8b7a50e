-- One hash names one list of entries, or two texts have one hash.
use Rattle.std.proofs.Common.{◌≡◌, ◌≤◌, ◌⊎◌, ◌∙◌, ℕ, true, false, List, [], ◌∷◌, Ok, refl, sym, ap, inl, inr, arith}
use Rattle.std.specs.Prelude.{Result}
use Rattle.std.specs.Str.{bytes_eq}
use Rattle.std.proofs.lemmas.Bool.{false≢true}
use Rattle.std.proofs.lemmas.Slice.Eq.{bytes_eq-Decides}
use Rattle.hex.proofs.HexLemmas.{decode_of-encode_lower}
use Rattle.hex.specs.Hex.{IsBytes, decode_of, encode_lower}
use Rattle.sha2.specs.Sha256.{sha256}
use Rattle.goo_log_entry.proofs.Differ.{entry_texts_differ}
use Rattle.goo_log_entry.specs.Contents.{EntryContents, IsEntry}
use Rattle.goo_log_entry.specs.Text.{entry_text}
use Rattle.goo_log_line.proofs.Cut.{framed_same}
use Rattle.goo_log_line.specs.Line.{entry_line}
use Rattle.goo_log_journal.proofs.DigestBytes.{IsBytes-sha256}
use Rattle.goo_log_journal.specs.Hashes.{hash_of_entry, Chains, Collision, last_hash}

ok_same : {E : Type 0} (r s : Result (List ℕ) E) (a b : List ℕ) → r ≡ Ok a → s ≡ Ok b → r ≡ s → a ≡ b
ok_same r s a b p q e = cc

hex_same : (a b : List ℕ) → IsBytes a → IsBytes b → encode_lower a ≡ encode_lower b → a ≡ b
hex_same a b h k e =
    ok_same (decode_of (encode_lower a)) (decode_of (encode_lower b)) a b (decode_of-encode_lower a h) (decode_of-encode_lower b k) (ap decode_of e)

-- one hash of two lines: they are the same, or collide
one_line : (a b : List ℕ) → sha256 a ≡ sha256 b → (a ≡ b) ⊎ Collision
one_line a b h =
    elim (bytes_eq a b) as (λ t. bytes_eq a b ≡ t → (a ≡ b) ⊎ Collision) [
      | true ↦ λ e. inl ((bytes_eq-Decides a b).0 e)
      | false ↦ λ e. inr (record { one = a; other = b; differ = λ s. false≢true (sym e ∙ (bytes_eq-Decides a b).1 s); same = h })
    ] refl

lines_differ : (key : List ℕ) (e f : EntryContents) → IsEntry e → IsEntry f → entry_line key e ≡ entry_line key f → e ≡ f
lines_differ key e f h k same = entry_texts_differ e f h k (framed_same _ key (entry_text e) (entry_text f) same)

is_entry : (key : List ℕ) (e : EntryContents) (es : List EntryContents) → Chains key (e ∷ es) → IsEntry e
is_entry key e [] c = c.1
is_entry key e (d ∷ es) c = c.2

at_least : (key : List ℕ) (e : EntryContents) (es : List EntryContents) → Chains key (e ∷ es) → 1 ≤ e.number
at_least key e [] c = let n = c.0 in omega (arith, n)
at_least key e (d ∷ es) c = let n = c.0 in omega (arith, n)

one_entry : (key : List ℕ) (e f : EntryContents) → IsEntry e → IsEntry f → hash_of_entry key e ≡ hash_of_entry key f → (e ≡ f) ⊎ Collision
one_entry key e f h k same =
    elim (one_line (entry_line key e) (entry_line key f) (hex_same (sha256 (entry_line key e)) (sha256 (entry_line key f)) (IsBytes-sha256 (entry_line key e)) (IsBytes-sha256 (entry_line key f)) same)) [
      | inl s ↦ inl (lines_differ key e f h k s)
      | inr c ↦ inr c
    ]

-- numbers of one entry tell whether one stands before it
alone : (key : List ℕ) (e d : EntryContents) (es : List EntryContents) → e.number ≡ 1 → Chains key (e ∷ d ∷ es) → ⊥
alone key e d es one c =
    let next = c.0 in
    let least = at_least key d es c.3 in
    absurd (omega (arith, one, next, least))

module _ (e f : EntryContents) where
  first : (e ≡ f) ⊎ Collision → (e ∷ [] ≡ f ∷ []) ⊎ Collision
  first (inl s) = inl (ap (λ x. x ∷ []) s)
  first (inr k) = inr k

  shorter : (key : List ℕ) (g : EntryContents) (fs : List EntryContents) → e.number ≡ 1 → Chains key (f ∷ g ∷ fs)
      → (e ≡ f) ⊎ Collision → (e ∷ [] ≡ f ∷ g ∷ fs) ⊎ Collision
  shorter key g fs n d (inl s) = absurd (alone key f g fs (ap (λ x. x.number) (sym s) ∙ n) d)
  shorter key g fs n d (inr k) = inr k

  longer : (key : List ℕ) (g : EntryContents) (es : List EntryContents) → f.number ≡ 1 → Chains key (e ∷ g ∷ es)
      → (e ≡ f) ⊎ Collision → (e ∷ g ∷ es ≡ f ∷ []) ⊎ Collision
  longer key g es n c (inl s) = absurd (alone key e g es (ap (λ x. x.number) s ∙ n) c)
  longer key g es n c (inr k) = inr k

  joined : (es fs : List EntryContents) → e ≡ f → (es ≡ fs) ⊎ Collision → (e ∷ es ≡ f ∷ fs) ⊎ Collision
  joined es fs s (inl rest) = inl (ap (λ x. x ∷ es) s ∙ ap (λ (l : List EntryContents). f ∷ l) rest)
  joined es fs s (inr k) = inr k

  both : (es fs : List EntryContents) → (e ≡ f → (es ≡ fs) ⊎ Collision) → (e ≡ f) ⊎ Collision → (e ∷ es ≡ f ∷ fs) ⊎ Collision
  both es fs rest (inl s) = joined es fs s (rest s)
  both es fs rest (inr k) = inr k

pub one_journal : (key : List ℕ) (es fs : List EntryContents) → Chains key es → Chains key fs
    → last_hash key es ≡ last_hash key fs → (es ≡ fs) ⊎ Collision
one_journal key [] fs c d same = absurd c
one_journal key (e ∷ es) [] c d same = absurd d
one_journal key (e ∷ []) (f ∷ []) c d same = first e f (one_entry key e f c.1 d.1 same)
one_journal key (e ∷ []) (f ∷ g ∷ fs) c d same = shorter e f key g fs c.0 d (one_entry key e f c.1 d.2 same)
one_journal key (e ∷ g ∷ es) (f ∷ []) c d same = longer e f key g es d.0 c (one_entry key e f c.2 d.1 same)
one_journal key (e ∷ g ∷ es) (f ∷ h ∷ fs) c d same =
    both e f (g ∷ es) (h ∷ fs)
    (λ s. one_journal key (g ∷ es) (h ∷ fs) c.3 d.3 (sym c.1 ∙ ap (λ x. x.before) s ∙ d.1))
    (one_entry key e f c.2 d.2 same)
