-- A line of a journal, without its line end: a text between its name and its keyed hash.
use Rattle.std.specs.Prelude.{ℕ, List, ◌++◌}
use Rattle.std.specs.Str.{IsUtf8}
use Rattle.hex.specs.Hex.{encode_lower}
use Rattle.goo_log_keyed.specs.Keyed.{hash_by}
use Rattle.goo_log_entry.specs.Contents.{EntryContents, OutcomeContents, IsEntry, IsOutcome, entry_contents, outcome_contents}
use Rattle.goo_log_entry.specs.Text.{entry_text, outcome_text}
use Rattle.goo_log_line.specs.declared.frame.TheConstants.{ENTRY, OUTCOME, MIDDLE, END}
use Rattle.goo_log_line.specs.declared.line.Line.{Line}
use Rattle.goo_log_line.specs.declared.line.Line.TheVariants as line

-- the keyed hash of a text, in hex
abbrev pub mac : List ℕ → List ℕ → List ℕ
mac key text = encode_lower (hash_by key text)

-- {"NAME":TEXT,"mac":"HASH"}
unfoldable pub framed : List ℕ → List ℕ → List ℕ → List ℕ
framed name key text = name ++ text ++ MIDDLE.now ++ mac key text ++ END.now

pub data LineContents : Type 0 where
  AnEntry : EntryContents → LineContents
  AnOutcome : OutcomeContents → LineContents

abbrev pub line_contents : Line → LineContents
line_contents (line.Entry e) = AnEntry (entry_contents e)
line_contents (line.Outcome o) = AnOutcome (outcome_contents o)

abbrev pub entry_line : List ℕ → EntryContents → List ℕ
entry_line key e = framed ENTRY.now key (entry_text e)

abbrev pub outcome_line : List ℕ → OutcomeContents → List ℕ
outcome_line key o = framed OUTCOME.now key (outcome_text o)

abbrev pub line_text : List ℕ → LineContents → List ℕ
line_text key (AnEntry e) = entry_line key e
line_text key (AnOutcome o) = outcome_line key o

-- an entry or an outcome with a text in UTF-8, as text_of_entry and text_of_outcome write it
abbrev pub IsLine : LineContents → Type 0
IsLine (AnEntry e) = IsEntry e × IsUtf8 (entry_text e)
IsLine (AnOutcome o) = IsOutcome o × IsUtf8 (outcome_text o)
