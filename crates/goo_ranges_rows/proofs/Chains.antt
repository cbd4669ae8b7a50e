-- Edits of a book that holds the rows near a range, as edits of all rows.
use Rattle.std.proofs.Common.{◌≡◌, ℕ, ◌<◌, ◌≤◌, List, [], ◌∷◌, ◌++◌, true, false, cond, Option, refl, ap, sym, subst, ◌∙◌, ⊎_elim, arith, append_assoc}
use Rattle.std.proofs.lemmas.Bool.{cases_lt}
use Rattle.std.proofs.lemmas.Bool.Decides.{nat_tests}
use Rattle.std.specs.FinMap.{get}
use Rattle.std.proofs.lemmas.List.{append-nil}
use Rattle.goo_types.specs.Range.{Numbers}
use Rattle.goo_types.specs.declared.piece.Piece.{Piece}
use Rattle.goo_types.specs.Piece.{Label, at_of, IsRising}
use Rattle.goo_spec.specs.Lots.{Certificates}
use Rattle.goo_spec.specs.Runs.{IsApart}
use Rattle.goo_ranges.specs.declared.edits.Edit.{Edit}
use Rattle.goo_ranges.specs.Change.{inside}
use Rattle.goo_ranges.specs.Edit.{IsExact}
use Rattle.goo_ranges_rows.specs.Rows.{AreRowsOf, meeting, edited, edited_all}
use Rattle.goo_ranges_rows.specs.Plans.{IsTurned, IsEditOf, AreEditsOf, IsEditWithin, AreEditsWithin}
use Rattle.goo_ranges_rows.proofs.Editing.{edited-whole}
use Rattle.goo_ranges_rows.proofs.Framing.{IsMet, met-block, met_at, apart-met, framed-rising, framed-same, framed-apart, framed-edited}

-- the pieces after a change of a book are those before, edited
pub edited-exact : (old new : List Piece) (edit : Edit) → IsExact old new edit → IsRising old → IsRising new → edited edit old ≡ new
edited-exact old new edit exact was now =
    let whole = edited-whole [] old new [] edit exact (subst IsRising (sym (append-nil old)) was) (subst IsRising (sym (append-nil new)) now) in
    ap (edited edit) (sym (append-nil old)) ∙ whole ∙ append-nil new

-- what the clauses of a change of a book say of its edit
pub edit-of_book : (old new : List Piece) (edit : Edit) → IsExact old new edit → IsRising old → IsRising new → (IsApart old → IsApart new) → IsEditOf old edit
edit-of_book old new edit exact was now apart =
    let is : new ≡ edited edit old = sym (edited-exact old new edit exact was now) in
    record { exact = subst (λ l. IsExact old l edit) is exact; disjoint = subst IsRising is now; apart = λ a. subst IsApart is (apart a) }

pub within-of_book : (range : Numbers) (old new : List Piece) (edit : Edit) (change : ℕ → Option Label → Option Label) → IsExact old new edit → IsRising old → IsRising new → (IsApart old → IsApart new)
    → ((n : ℕ) (o : Option Label) → inside range.first range.last n ≡ false → change n o ≡ o)
    → ((n : ℕ) → at_of new n ≡ change n (at_of old n)) → IsEditWithin range old edit
within-of_book range old new edit change exact was now apart outside changes =
    record {
      is_edit = edit-of_book old new edit exact was now apart;
      outside = λ n out. ap (λ l. at_of l n) (edited-exact old new edit exact was now) ∙ changes n ∙ outside n (at_of old n) out;
    }

-- one edit more
pub edited_all-push : (rows : List Piece) (es : List Edit) (e : Edit) → edited_all (es ++ e ∷ []) rows ≡ edited e (edited_all es rows)
edited_all-push rows [] e = refl
edited_all-push rows (x ∷ es) e = edited_all-push (edited x rows) es e

pub edits-push : (rows : List Piece) (es : List Edit) (e : Edit) → AreEditsOf rows es → IsEditOf (edited_all es rows) e → AreEditsOf rows (es ++ e ∷ [])
edits-push rows [] e are is = (is, tt)
edits-push rows (x ∷ es) e are is = (are.0, edits-push (edited x rows) es e are.1 is)

pub within-push : (range : Numbers) (rows : List Piece) (es : List Edit) (e : Edit) → AreEditsWithin range rows es → IsEditWithin range (edited_all es rows) e → AreEditsWithin range rows (es ++ e ∷ [])
within-push range rows [] e are is = (is, tt)
within-push range rows (x ∷ es) e are is = (are.0, within-push range (edited x rows) es e are.1 is)

-- the rows stay disjoint, and as few as can be
pub edits-rising : (rows : List Piece) (es : List Edit) → IsRising rows → AreEditsOf rows es → IsRising (edited_all es rows)
edits-rising rows [] r are = r
edits-rising rows (e ∷ es) r are = edits-rising (edited e rows) es are.0.disjoint are.1

pub edits-apart : (rows : List Piece) (es : List Edit) → AreEditsOf rows es → IsApart rows → IsApart (edited_all es rows)
edits-apart rows [] are a = a
edits-apart rows (e ∷ es) are a = edits-apart (edited e rows) es are.1 (are.0.apart a)

pub edits-turned : (after : Certificates) (rows : List Piece) (es : List Edit) → IsRising rows → AreEditsOf rows es → ((n : ℕ) → at_of (edited_all es rows) n ≡ get after n) → IsTurned after rows es
edits-turned after rows es r are same = record { fits = record { disjoint = edits-rising rows es r are; same = same }; apart = edits-apart rows es are }

exact-framed : (front old new back all now : List Piece) (edit : Edit) → IsExact old new edit → all ≡ front ++ (old ++ back) → now ≡ front ++ (new ++ back) → IsExact all now edit
exact-framed front old new back all now edit exact was becomes = record {
  before = front ++ exact.before;
  deleted = exact.deleted;
  after = exact.after ++ back;
  was = was ∙ rw exact.was (simp append_assoc);
  becomes = becomes ∙ rw exact.becomes (simp append_assoc);
  named = exact.named;
}

-- What an edit of the rows near a range does to all rows.
module _ (range : Numbers) (up : range.first ≤ range.last) (rows book : List Piece) (block : IsMet rows book range.first range.last) (r : IsRising rows) (e : Edit) (edit : IsEditWithin range book e) where
  new : List Piece
  new = edited e book

  abbrev change : ℕ → Option Label → Option Label
  change n o = cond (inside range.first range.last n) (at_of (edited e book) n) o

  outside : (n : ℕ) (o : Option Label) → inside range.first range.last n ≡ false → change n o ≡ o
  outside n o out = rw out refl

  changes : (n : ℕ) → at_of (edited e book) n ≡ change n (at_of book n)
  changes n = elim (inside range.first range.last n) as (λ b. inside range.first range.last n ≡ b → at_of (edited e book) n ≡ cond b (at_of (edited e book) n) (at_of book n)) [
    | true ↦ λ h. refl
    | false ↦ λ h. edit.outside n h
  ] refl

  becomes : edited e rows ≡ block.front ++ (edited e book ++ block.back)
  becomes = framed-edited rows book range.first range.last block r (edited e book) up edit.is_edit.disjoint change outside changes e edit.is_edit.exact

  pub edit-framed : IsEditWithin range rows e
  edit-framed = record {
    is_edit = record {
      exact = exact-framed block.front book (edited e book) block.back rows (edited e rows) e edit.is_edit.exact block.whole becomes;
      disjoint = rw becomes (framed-rising rows book range.first range.last block r (edited e book) up edit.is_edit.disjoint change outside changes);
      apart = λ a. rw becomes (framed-apart rows book range.first range.last block r (edited e book) up edit.is_edit.disjoint change outside changes a (edit.is_edit.apart (apart-met rows book range.first range.last block r a)));
    };
    outside = λ n out. rw becomes (framed-same rows book range.first range.last block r (edited e book) up edit.is_edit.disjoint change outside changes n ∙ outside n (at_of rows n) out);
  }

  pub block-framed : IsMet (edited e rows) (edited e book) range.first range.last
  block-framed = record { front = block.front; back = block.back; whole = becomes; below = block.below; above = block.above }

-- and several
pub record AreFramed (range : Numbers) (rows book : List Piece) (es : List Edit) : Type 0 where
  pub edits : AreEditsWithin range rows es
  pub block : IsMet (edited_all es rows) (edited_all es book) range.first range.last

pub edits-framed : (range : Numbers) (rows book : List Piece) (es : List Edit) → range.first ≤ range.last → IsMet rows book range.first range.last → IsRising rows → AreEditsWithin range book es → AreFramed range rows book es
edits-framed range rows book [] up block r are = record { edits = tt; block = block }
edits-framed range rows book (e ∷ es) up block r are =
    let here = edit-framed range up rows book block r e are.0 in
    let rest = edits-framed range (edited e rows) (edited e book) es up (block-framed range up rows book block r e are.0) here.is_edit.disjoint are.1 in
    record { edits = (here, rest.edits); block = rest.block }

pub within-edits : (range : Numbers) (rows : List Piece) (es : List Edit) → AreEditsWithin range rows es → AreEditsOf rows es
within-edits range rows [] are = tt
within-edits range rows (e ∷ es) are = (are.0.is_edit, within-edits range (edited e rows) es are.1)

pub within-outside : (range : Numbers) (rows : List Piece) (es : List Edit) → AreEditsWithin range rows es → (n : ℕ) → inside range.first range.last n ≡ false → at_of (edited_all es rows) n ≡ at_of rows n
within-outside range rows [] are n out = refl
within-outside range rows (e ∷ es) are n out = within-outside range (edited e rows) es are.1 n out ∙ are.0.outside n out

-- what a book of the rows near a range does to each number, all rows do
module _ (range : Numbers) (up : range.first ≤ range.last) (rows book : List Piece) (block : IsMet rows book range.first range.last) (r : IsRising rows)
    (es : List Edit) (are : AreEditsWithin range book es) (change : ℕ → Option Label → Option Label)
    (outside : (n : ℕ) (o : Option Label) → inside range.first range.last n ≡ false → change n o ≡ o)
    (changes : (n : ℕ) → at_of (edited_all es book) n ≡ change n (at_of book n)) where
  framed : AreFramed range rows book es
  framed = edits-framed range rows book es up block r are

  pub changes-edits : AreEditsOf rows es
  changes-edits = within-edits range rows es framed.edits

  beyond : (n : ℕ) → inside range.first range.last n ≡ false → at_of (edited_all es rows) n ≡ change n (at_of rows n)
  beyond n out = within-outside range rows es framed.edits n out ∙ sym (outside n (at_of rows n) out)

  pub changes-framed : (n : ℕ) → at_of (edited_all es rows) n ≡ change n (at_of rows n)
  changes-framed n =
      ⊎_elim
      (λ (before : n < range.first). let out : inside range.first range.last n ≡ false = grind (arith, nat_tests) in beyond n out)
      (λ (from : range.first ≤ n). ⊎_elim
      (λ (after : range.last < n). let out : inside range.first range.last n ≡ false = grind (arith, nat_tests) in beyond n out)
      (λ (to : n ≤ range.last).
      sym (met_at (edited_all es rows) (edited_all es book) range.first range.last framed.block (edits-rising rows es r changes-edits) n from to)
      ∙ changes n
      ∙ ap (change n) (met_at rows book range.first range.last block r n from to))
      (cases_lt range.last n))
      (cases_lt n range.first)

-- the edits of one book of the rows near a range turn all rows into those of the changed map
pub turned-by_book : (at after : Certificates) (rows : List Piece) (range : Numbers) (es : List Edit) (change : ℕ → Option Label → Option Label) → range.first ≤ range.last → AreRowsOf at rows
    → AreEditsWithin range (meeting range rows) es
    → ((n : ℕ) (o : Option Label) → inside range.first range.last n ≡ false → change n o ≡ o)
    → ((n : ℕ) → at_of (edited_all es (meeting range rows)) n ≡ change n (at_of (meeting range rows) n))
    → ((n : ℕ) → get after n ≡ change n (get at n))
    → IsTurned after rows es
turned-by_book at after rows range es change up kept are outside changes so =
    let block = met-block range rows kept.disjoint in
    edits-turned after rows es kept.disjoint (changes-edits range up rows (meeting range rows) block kept.disjoint es are change outside changes)
    (λ n. changes-framed range up rows (meeting range rows) block kept.disjoint es are change outside changes n ∙ ap (change n) (kept.same n) ∙ sym (so n))

-- one edit more, of a book of the rows near a range as the edits before left them
pub part-edits : (range : Numbers) (rows : List Piece) (es : List Edit) (e : Edit) → range.first ≤ range.last → IsRising rows → AreEditsOf rows es
    → IsEditWithin range (meeting range (edited_all es rows)) e → AreEditsOf rows (es ++ e ∷ [])
part-edits range rows es e up r are edit =
    let now = edited_all es rows in
    let rising = edits-rising rows es r are in
    edits-push rows es e are (edit-framed range up now (meeting range now) (met-block range now rising) rising e edit).is_edit

pub part-changes : (range : Numbers) (rows : List Piece) (es : List Edit) (e : Edit) (change : ℕ → Option Label → Option Label) → range.first ≤ range.last → IsRising rows → AreEditsOf rows es
    → IsEditWithin range (meeting range (edited_all es rows)) e
    → ((n : ℕ) (o : Option Label) → inside range.first range.last n ≡ false → change n o ≡ o)
    → ((n : ℕ) → at_of (edited e (meeting range (edited_all es rows))) n ≡ change n (at_of (meeting range (edited_all es rows)) n))
    → (n : ℕ) → at_of (edited_all (es ++ e ∷ []) rows) n ≡ change n (at_of (edited_all es rows) n)
part-changes range rows es e change up r are edit outside changes n =
    let now = edited_all es rows in
    let rising = edits-rising rows es r are in
    ap (λ l. at_of l n) (edited_all-push rows es e)
    ∙ changes-framed range up now (meeting range now) (met-block range now rising) rising (e ∷ []) (edit, tt) change outside changes n
