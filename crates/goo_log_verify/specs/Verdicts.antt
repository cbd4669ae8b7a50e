-- What is said of the bytes of a journal.
use Rattle.std.specs.Prelude.{◌≡◌, ◌≢◌, ◌≤◌, ◌⊎◌, ℕ, suc, List, [], ◌∷◌, ◌++◌, length, All, Some, None}
use Rattle.goo_log_line.specs.Line.{LineContents, IsLine, line_text}
use Rattle.goo_log_journal.specs.Place.{Place, after_line, after_lines, journal_bytes, IsJournal}
use Rattle.goo_log_journal.specs.Read.{place_of}
use Rattle.goo_log_journal.specs.declared.line_fault.LineFault.{LineFault}
use Rattle.goo_log_journal.specs.declared.line_fault.LineFault.TheVariants as fault
use Rattle.goo_log_verify.specs.declared.verdict.Verdict.{Verdict}
use Rattle.goo_log_verify.specs.declared.verdict.Verdict.TheVariants as verdict
use Rattle.goo_log_verify.specs.declared.verifier.Verifier.{Verifier}
use Rattle.goo_log_verify.specs.declared.verifier.TheConstants.{MOST_LINE}

-- no line end in it
abbrev pub HasNoEnd : List ℕ → Type 0
HasNoEnd text = All (λ b. b ≢ 10) text

-- why a line is bad: it is none of a journal, or one that does not come next
abbrev pub Refuses : List ℕ → Place → List ℕ → LineFault → Type 0
Refuses key to line fault.Form = (l : LineContents) → IsLine l → line ≢ line_text key l
Refuses key to line fault.Order = (l : LineContents) × (line ≡ line_text key l) × (after_line key to l ≡ None)
Refuses key to line fault.Memory = ⊥

module _ (key : List ℕ) (from : Place) where
  -- whole lines, of which each comes next, and behind them this much of the line of that number
  pub record Reaches (bytes : List ℕ) (number : ℕ) (to : Place) (rest : List ℕ) : Type 0 where
    pub lines : List LineContents
    pub text : bytes ≡ journal_bytes key lines ++ rest
    pub after : after_lines key from lines ≡ Some to
    pub count : suc (length lines) ≡ number
    pub no_end : HasNoEnd rest

  -- the line of that number has its end, and is bad; whatever stands behind it
  pub record IsBad (bytes : List ℕ) (number : ℕ) (why : LineFault) : Type 0 where
    pub before : List ℕ
    pub behind : List ℕ
    pub text : bytes ≡ before ++ 10 ∷ behind
    pub to : Place
    pub line : List ℕ
    pub reaches : Reaches before number to line
    pub refuses : Refuses key to line why

  -- the line of that number has more bytes than a line may have, or its number is the last that there is
  pub record IsBeyond (bytes : List ℕ) (number : ℕ) : Type 0 where
    pub before : List ℕ
    pub behind : List ℕ
    pub text : bytes ≡ before ++ behind
    pub to : Place
    pub line : List ℕ
    pub reaches : Reaches before number to line
    pub beyond : (MOST_LINE ≤ length line) ⊎ (number ≡ 18446744073709551615)

  -- the line of that number has no end
  pub record IsUnfinished (bytes : List ℕ) (number : ℕ) : Type 0 where
    pub to : Place
    pub line : List ℕ
    pub reaches : Reaches bytes number to line
    pub some : line ≢ []

  abbrev pub IsVerdict : List ℕ → Verdict → Type 0
  IsVerdict bytes (verdict.Whole reading) = IsJournal key from bytes (place_of reading)
  IsVerdict bytes (verdict.Unfinished number) = IsUnfinished bytes number
  IsVerdict bytes (verdict.Bad number why) = IsBad bytes number why
  IsVerdict bytes (verdict.Beyond number) = IsBeyond bytes number

  -- where a verifier stands behind these bytes
  abbrev pub Stands : List ℕ → Verifier → Type 0
  Stands bytes v = Reaches bytes v.line (place_of v.reading) v.rest.items
