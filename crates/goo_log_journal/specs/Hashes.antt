-- Entries of which each names the hash of the line before.
use Rattle.std.specs.Prelude.{◌≡◌, ◌≢◌, ◌⊎◌, ℕ, suc, List, [], ◌∷◌}
use Rattle.hex.specs.Hex.{encode_lower}
use Rattle.sha2.specs.Sha256.{sha256}
use Rattle.goo_log_entry.specs.Contents.{EntryContents, IsEntry}
use Rattle.goo_log_line.specs.Line.{entry_line}

-- the hash of an entry's line, in hex
abbrev pub hash_of_entry : List ℕ → EntryContents → List ℕ
hash_of_entry key e = encode_lower (sha256 (entry_line key e))

-- entries 1, 2, 3 and so on, the newest first: each but the first names the one before
abbrev pub Chains : List ℕ → List EntryContents → Type 0
Chains key [] = ⊥
Chains key (e ∷ []) = (e.number ≡ 1) × IsEntry e
Chains key (e ∷ d ∷ es) = (e.number ≡ suc d.number) × (e.before ≡ hash_of_entry key d) × IsEntry e × Chains key (d ∷ es)

-- two texts with one hash
pub record Collision : Type 0 where
  pub one : List ℕ
  pub other : List ℕ
  pub differ : one ≢ other
  pub same : sha256 one ≡ sha256 other

-- the hash of the last entry's line
abbrev pub last_hash : List ℕ → List EntryContents → List ℕ
last_hash key [] = []
last_hash key (e ∷ es) = hash_of_entry key e

-- two journals with one hash have the same entries up to there, or two texts have one hash
abbrev pub OneHashOneJournal : Type 0
OneHashOneJournal = (key : List ℕ) (es fs : List EntryContents) → Chains key es → Chains key fs
    → last_hash key es ≡ last_hash key fs → (es ≡ fs) ⊎ Collision
