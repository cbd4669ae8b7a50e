-- Where a journal stands after each line, and which bytes are a journal.
use Rattle.std.specs.Prelude.{◌≡◌, ℕ, ◌-◌, List, [], ◌∷◌, ◌++◌, Bool, ◌&&◌, ◌||◌, ◌==◌, nat_lt, false, drop, replicate, if◌then◌else◌, Option, Some, None, option_and_then, flat_map, codes}
use Rattle.std.specs.Str.{bytes_eq}
use Rattle.goo_log_chain.specs.Chain.{chained}
use Rattle.goo_log_entry.specs.Contents.{EntryContents, OutcomeContents}
use Rattle.goo_log_line.specs.Line.{LineContents, line_text}
use Rattle.goo_log_line.specs.Line.LineContents.{AnEntry, AnOutcome}
use Rattle.goo_log_journal.specs.Hashes.{hash_of_entry}

pub record Place : Type 0 where
  pub number : ℕ  -- of the last entry, 0 before the first
  pub hash : List ℕ  -- of its line
  pub chain : List ℕ  -- of the outcomes
  pub waiting : List (ℕ × List ℕ)  -- number and route of each entry that has no outcome yet, the oldest first

-- before the first entry; its hash is looked at nowhere
abbrev pub beginning : Place
beginning = record { number = 0; hash = replicate 64 48; chain = codes "-"; waiting = [] }

-- an entry has the next number, and names the one before; the first one names any origin
abbrev pub comes_next : EntryContents → Place → Bool
comes_next e p = nat_lt 0 e.number && (e.number - 1 == p.number) && ((p.number == 0) || bytes_eq e.before p.hash)

abbrev pub with_entry : List ℕ → EntryContents → Place → Place
with_entry hash e p = record { number = e.number; hash = hash; chain = p.chain; waiting = p.waiting ++ (e.number, e.route) ∷ [] }

-- an outcome is that of the first entry that waits, and chained
abbrev pub concludes : OutcomeContents → List ℕ → ℕ × List ℕ → Bool
concludes o chain first = (o.number == first.0) && bytes_eq o.chain (chained chain first.1 o.status o.body)

abbrev pub is_concluded : OutcomeContents → List ℕ → List (ℕ × List ℕ) → Bool
is_concluded o chain [] = false
is_concluded o chain (first ∷ rest) = concludes o chain first

abbrev pub with_outcome : OutcomeContents → Place → Place
with_outcome o p = record { number = p.number; hash = p.hash; chain = o.chain; waiting = drop 1 p.waiting }

abbrev pub after_line : List ℕ → Place → LineContents → Option Place
after_line key p (AnEntry e) = if comes_next e p then Some (with_entry (hash_of_entry key e) e p) else None
after_line key p (AnOutcome o) = if is_concluded o p.chain p.waiting then Some (with_outcome o p) else None

abbrev pub after_lines : List ℕ → Place → List LineContents → Option Place
after_lines key p [] = Some p
after_lines key p (l ∷ ls) = option_and_then (λ q. after_lines key q ls) (after_line key p l)

-- whole lines, each with its line end
abbrev pub journal_bytes : List ℕ → List LineContents → List ℕ
journal_bytes key ls = flat_map (λ l. line_text key l ++ 10 ∷ []) ls

-- these bytes are lines of which each comes next, from one place to another
abbrev pub IsJournal : List ℕ → Place → List ℕ → Place → Type 0
IsJournal key from bytes to = (ls : List LineContents) × (bytes ≡ journal_bytes key ls) × (after_lines key from ls ≡ Some to)
