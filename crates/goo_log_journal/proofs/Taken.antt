-- What a line that is taken does to the place.
use Rattle.std.proofs.Common.{◌≡◌, ◌<◌, Bool, true, false, List, [], ◌∷◌, ℕ, length, map, refl, arith}
use Rattle.std.proofs.lemmas.Bool.{false≢true}
use Rattle.std.specs.Prelude.{Option, Some, None}
use Rattle.hex.specs.Hex.{encode_lower}
use Rattle.sha2.specs.Sha256.{sha256}
use Rattle.goo_log_entry.specs.Contents.{EntryContents, OutcomeContents}
use Rattle.goo_log_line.specs.Line.{entry_line, LineContents}
use Rattle.goo_log_line.specs.Line.LineContents.{AnEntry, AnOutcome}
use Rattle.goo_log_journal.specs.Read.{waiting_of}
use Rattle.goo_log_journal.specs.declared.reading.Waiting.{Waiting}
use Rattle.goo_log_journal.specs.Place.{Place, after_line, comes_next, is_concluded, with_entry, with_outcome}

pub entry_taken : (key line : List ℕ) (e : EntryContents) (p q : Place) (l : LineContents) → l ≡ AnEntry e → line ≡ entry_line key e
    → comes_next e p ≡ true → q ≡ with_entry (encode_lower (sha256 line)) e p → after_line key p l ≡ Some q
entry_taken key line e p q l is same next new = rw (is, new, same, next) refl

pub outcome_taken : (key : List ℕ) (o : OutcomeContents) (p q : Place) (l : LineContents) → l ≡ AnOutcome o
    → is_concluded o p.chain p.waiting ≡ true → q ≡ with_outcome o p → after_line key p l ≡ Some q
outcome_taken key o p q l is next new = rw (is, new, next) refl

pub entry_refused : (key : List ℕ) (e : EntryContents) (p : Place) → comes_next e p ≡ false → after_line key p (AnEntry e) ≡ None
entry_refused key e p next = rw next refl

pub outcome_refused : (key : List ℕ) (o : OutcomeContents) (p : Place) → is_concluded o p.chain p.waiting ≡ false → after_line key p (AnOutcome o) ≡ None
outcome_refused key o p next = rw next refl

-- an outcome is that of an entry that waits
pub waits : (o : OutcomeContents) (chain : List ℕ) (ws : List Waiting) → is_concluded o chain (map waiting_of ws) ≡ true → 0 < length ws
waits o chain [] h = absurd (false≢true h)
waits o chain (w ∷ ws) h = omega arith
