-- What the lines of statements tell of a class.
use Rattle.std.specs.Prelude.{◌≡◌, ℕ, ◌&&◌, Bool, true, cond, List, sum_by}
use Rattle.std.specs.Str.{bytes_eq}
use Rattle.goo_types.specs.Piece.{label_of}
use Rattle.goo_types.specs.declared.piece.Piece.{Piece}
use Rattle.goo_types.specs.declared.place.Place.{Place}
use Rattle.goo_spec.specs.Sound.{IsSound}
use Rattle.goo_spec.specs.State.{State}
use Rattle.goo_spec.specs.Energy.{is_taken_back}
use Rattle.goo_spec.specs.Energy as energy
use Rattle.goo_spec_laws.specs.Classes.{Class, is_of, all_of, those_in, stated_in, over_accounts}
use Rattle.goo_files.specs.Texts.{AreRunsNaming}
use Rattle.goo_files_documents.specs.Runs.{count_of}

-- whether a run is of own certificates of the class, in such a place
abbrev pub is_run_of : ℕ → Class → (Place → Bool) → Piece → Bool
is_run_of own class there p = is_of own class (p.first, label_of p) && there p.place

-- the sum of the counts that the lines of such runs tell
abbrev pub told_of : ℕ → Class → (Place → Bool) → List Piece → ℕ
told_of own class there runs = sum_by (λ p. cond (is_run_of own class there p) (count_of p) 0) runs

-- the class of what was issued to a device
abbrev pub of_device : List ℕ → Class
of_device device lot = bytes_eq lot.device device

-- what statements tell of the certificates of a registry
pub record StatementsTell (s : State) : Type 0 where
  -- the lines of an account's statement, added up, are the certificates of a class that it has in a kind of place
  pub each : (class : Class) (there : Place → Bool) (account : ℕ) (runs : List Piece) → AreRunsNaming s account runs → told_of s.own class there runs ≡ stated_in account there class s
  -- those of the statements of all accounts are all that are in such a place
  pub all : (class : Class) (there : Place → Bool) (runs : ℕ → List Piece) → ((account : ℕ) → AreRunsNaming s account (runs account))
      → over_accounts s.next_account (λ account. told_of s.own class there (runs account)) ≡ those_in there class s
  -- and without regard to places, all that were ever issued
  pub issued : (class : Class) (runs : ℕ → List Piece) → ((account : ℕ) → AreRunsNaming s account (runs account))
      → over_accounts s.next_account (λ account. told_of s.own class (λ place. true) (runs account)) ≡ all_of class s
  -- so the two numbers of certificates that the audit has of a device: those issued to it,
  pub audited : (device : List ℕ) (runs : ℕ → List Piece) → ((account : ℕ) → AreRunsNaming s account (runs account))
      → over_accounts s.next_account (λ account. told_of s.own (of_device device) (λ place. true) (runs account)) ≡ energy.issued s device
  -- and those of them that its corrections withdrew
  pub taken_back : (device : List ℕ) (runs : ℕ → List Piece) → ((account : ℕ) → AreRunsNaming s account (runs account))
      → over_accounts s.next_account (λ account. told_of s.own (of_device device) (is_taken_back device s.corrections) (runs account)) ≡ energy.corrected s device

abbrev pub StatementsAddUp : Type 0
StatementsAddUp = (s : State) → IsSound s → StatementsTell s
