-- No list of ranges that gives a map is shorter than its runs.
use Rattle.std.proofs.Common.{◌≡◌, ℕ, zero, suc, ◌+◌, ◌<◌, ◌≤◌, List, [], ◌∷◌, Option, Some, length, get_or, refl, ap, sym, subst, ◌∙◌, inl, inr, arith}
use Rattle.std.specs.Prelude.{◌⊎◌, Contains}
use Rattle.goo_types.specs.declared.piece.Piece.{Piece}
use Rattle.goo_types.specs.Piece.{Label, label_of, at_of, IsRisingFrom}
use Rattle.goo_spec.specs.Runs.{IsApart, AreRunsOf, Gives}
use Rattle.goo_ranges_pieces.proofs.Covers.{covers-inside, covers-above}
use Rattle.goo_ranges.proofs.Maximal.{not-after}

-- p is one of the pieces
abbrev pub In : Piece → List Piece → Type 0
In p [] = ⊥
In p (q ∷ qs) = (p ≡ q) ⊎ In p qs

In-from_contains : (ps : List Piece) (p : Piece) → Contains ps p → In p ps
In-from_contains ps p c = in-at ps p c.0 c.1 c.2
  where
    in-at : (ps : List Piece) (p : Piece) (k : ℕ) → k < length ps → get_or ps k p ≡ p → In p ps
    in-at [] p k lt is = absurd (omega arith)
    in-at (q ∷ qs) p zero lt is = inl (sym is)
    in-at (q ∷ qs) p (suc k) lt is = inr (in-at qs p k (omega arith) is)

Contains-from_in : (ps : List Piece) (p : Piece) → In p ps → Contains ps p
Contains-from_in [] p i = absurd i
Contains-from_in (q ∷ qs) p (inl e) = (0, omega arith, sym e)
Contains-from_in (q ∷ qs) p (inr i) = let c = Contains-from_in qs p i in (suc c.0, omega (arith, c.1), c.2)

-- the pieces without one of them
without : (q : Piece) (qs : List Piece) → In q qs → (rest : List Piece) × (length qs ≡ suc (length rest)) × ((s : Piece) → In s qs → (s ≡ q) ⊎ In s rest) × ((s : Piece) → In s rest → In s qs)
without q [] i = absurd i
without q (r ∷ rs) (inl e) = (rs, refl, λ s i. elim i [ inl same ↦ inl (same ∙ sym e) | inr later ↦ inr later ], λ s i. inr i)
without q (r ∷ rs) (inr i) =
    let w = without q rs i in (
      r ∷ w.0,
      ap suc w.1,
      λ s j. elim j [ inl same ↦ inr (inl same) | inr later ↦ elim (w.2 s later) [ inl is ↦ inl is | inr kept ↦ inr (inr kept) ] ],
      λ s j. elim j [ inl same ↦ inl same | inr later ↦ inr (w.3 s later) ],
    )

-- no q has the first numbers of two of the pieces
abbrev pub AreSeparate : List Piece → List Piece → Type 0
AreSeparate [] qs = Unit {0}
AreSeparate (p ∷ ps) qs = ((r : Piece) → In r ps → (q : Piece) → In q qs → q.first ≤ p.first → r.first ≤ q.last → ⊥) × AreSeparate ps qs

separate-fewer : (ps qs rest : List Piece) → ((s : Piece) → In s rest → In s qs) → AreSeparate ps qs → AreSeparate ps rest
separate-fewer [] qs rest sub a = tt
separate-fewer (p ∷ ps) qs rest sub a = (λ r i q j. a.0 r i q (sub q j), separate-fewer ps qs rest sub a.1)

pigeons : (ps qs : List Piece) → ((p : Piece) → In p ps → (q : Piece) × In q qs × (q.first ≤ p.first) × (p.first ≤ q.last)) → AreSeparate ps qs → length ps ≤ length qs
pigeons [] qs has apart = omega arith
pigeons (p ∷ ps) qs has apart =
    let home = has p (inl refl) in
    let w = without home.0 qs home.1 in
    let more = pigeons ps w.0
    (λ r i.
    let h = has r (inr i) in
    let kept : (h.0 ≡ home.0) ⊎ In h.0 w.0 = w.2 h.0 h.1 in
    (h.0, elim kept [ inl same ↦ absurd (apart.0 r i home.0 home.1 home.2 (subst (λ (x : Piece). r.first ≤ x.last) same h.3)) | inr j ↦ j ], h.2, h.3))
    (separate-fewer ps qs w.0 w.3 apart.1)
    in
    omega (arith, w.1)

in-rising : (low : ℕ) (ps : List Piece) (r : Piece) → IsRisingFrom low ps → In r ps → low ≤ r.first
in-rising low [] r rise i = absurd i
in-rising low (p ∷ ps) r rise (inl e) = let here : low ≤ p.first = rise.0 in rw e here
in-rising low (p ∷ ps) r rise (inr i) =
    let here : low ≤ p.first = rise.0 in
    let forward : p.first ≤ p.last = rise.1.0 in
    let more = in-rising (p.last + 1) ps r rise.2 i in
    omega arith

separate-runs : (f : ℕ → Option Label) (low : ℕ) (ps qs : List Piece) → IsRisingFrom low ps → IsApart ps → ((n : ℕ) → low ≤ n → at_of ps n ≡ f n) → ((q : Piece) → In q qs → (n : ℕ) → q.first ≤ n → n ≤ q.last → f n ≡ Some (label_of q)) → AreSeparate ps qs
separate-runs f low [] qs rise a same agrees = tt
separate-runs f low (p ∷ ps) qs rise a same agrees =
    let here : low ≤ p.first = rise.0 in
    let forward : p.first ≤ p.last = rise.1.0 in (
      λ r i q j from to.
          let later = in-rising (p.last + 1) ps r rise.2 i in
          let e = covers-inside p p.first (omega arith) forward in
          let own : at_of (p ∷ ps) p.first ≡ Some (label_of p) = rw e refl in
          let one = agrees q j p.first from (omega arith) in
          let two = agrees q j (p.last + 1) (omega arith) (omega arith) in
          let label : Some (label_of q) ≡ Some (label_of p) = sym one ∙ sym (same p.first here) ∙ own in
          not-after low [] p ps rise a (same (p.last + 1) (omega arith) ∙ two ∙ label),
      separate-runs f (p.last + 1) ps qs rise.2 a.1
          (λ n above. let past : p.last < n = omega arith in let e = covers-above p n past in (rw e at (same n (omega arith)))) agrees,
    )

has-first : (f : ℕ → Option Label) (low : ℕ) (ps : List Piece) → IsRisingFrom low ps → ((n : ℕ) → low ≤ n → at_of ps n ≡ f n) → (p : Piece) → In p ps → f p.first ≡ Some (label_of p)
has-first f low [] rise same p i = absurd i
has-first f low (q ∷ ps) rise same p (inl e) =
    let here : low ≤ q.first = rise.0 in
    let forward : q.first ≤ q.last = rise.1.0 in
    let inside = covers-inside q q.first (omega arith) forward in
    let own : at_of (q ∷ ps) q.first ≡ Some (label_of q) = rw inside refl in
    rw e (sym (same q.first here) ∙ own)
has-first f low (q ∷ ps) rise same p (inr i) =
    let here : low ≤ q.first = rise.0 in
    let forward : q.first ≤ q.last = rise.1.0 in
    has-first f (q.last + 1) ps rise.2 (λ n above. let past : q.last < n = omega arith in let e = covers-above q n past in (rw e at (same n (omega arith)))) p i

pub fewest : (f : ℕ → Option Label) (ps qs : List Piece) → AreRunsOf f ps → Gives qs f → length ps ≤ length qs
fewest f ps qs runs gives =
    pigeons ps qs
    (λ p i.
    let own = has-first f 0 ps runs.rising (λ n above. runs.same n) p i in
    let c = gives.covers p.first (label_of p) own in
    (c.0, In-from_contains qs c.0 c.1, c.2, c.3))
    (separate-runs f 0 ps qs runs.rising runs.maximal (λ n above. runs.same n) (λ q j. gives.agrees q (Contains-from_in qs q j)))
