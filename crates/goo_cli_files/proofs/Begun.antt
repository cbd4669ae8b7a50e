-- What is done with a registry, said of the state that it began with.
use Rattle.std.proofs.Common.{◌≡◌, ◌∙◌, ap, subst, List, ℕ, Option, Some}
use Rattle.sqlite_disk.specs.declared.Disk.{Ghosts}
use Rattle.goo_spec.specs.State.{State}
use Rattle.goo_core_shelf.specs.Shelf.{IsSafe, Moment}
use Rattle.goo_files.specs.Writes.{Began, Wrote}
use Rattle.sqlite_wal.specs.Reads.{AreClean}
use Rattle.sqlite.specs.declared.file.Leftover.{Leftover}
use Rattle.goo_cli_registry.specs.Closings.{HoldRegistry, HoldState, HoldsSome, IfRefused, IfWhole}
use Rattle.goo_cli_registry.specs.Finds.{FindsRight, HasState, IfParts}
use Rattle.goo_cli_registry.proofs.Finding.{has_state, parts_so}
use Rattle.goo_cli_registry.specs.declared.closing.Left.{Left}
use Rattle.goo_cli_registry.specs.declared.closing.Left.TheVariants.{Parts, Refused, Whole}
use Rattle.goo_desk_server.specs.Runs as serving

pub wrote_begun : (right : State → List ℕ → Type 0) (had has : Option (List ℕ)) (seen begun : State) → seen ≡ begun → Wrote had has (right seen) → Wrote had has (right begun)
wrote_begun right had has seen begun same told = subst (λ (s : State). Wrote had has (right s)) same told

pub began_begun : (right : State → List ℕ → Type 0) (had has : Option (List ℕ)) (seen begun : State) → seen ≡ begun → Began had has (right seen) → Began had has (right begun)
began_begun right had has seen begun same told = subst (λ (s : State). Began had has (right s)) same told

-- what so holds of the state that was known is so of what the file holds, where the log was copied
pub holds_some : {D : Type 0} {g : Ghosts D} (rest : Left D g) (new : State) (defects : ℕ) (right : State → Type 0) → (defects ≡ 0 → right new) → IfWhole rest (λ files. HoldState g files new)
    → IfWhole rest (λ files. AreClean g files.log files.db → defects ≡ 0) → HoldsSome rest right
holds_some (Whole files) new defects right keeps held sure = λ clean. (new, keeps (sure clean), held clean)
holds_some (Refused rest) new defects right keeps held sure = tt
holds_some (Parts rest) new defects right keeps held sure = tt

whole_as : {D : Type 0} {g : Ghosts D} (rest : Left D g) (new begun : State) (defects : ℕ) → (defects ≡ 0 → new ≡ begun) → IfWhole rest (λ files. HoldState g files new)
    → IfWhole rest (λ files. AreClean g files.log files.db → defects ≡ 0) → IfWhole rest (λ files. HoldState g files begun)
whole_as {D} {g} (Whole files) new begun defects same held sure = λ clean. subst (HoldRegistry g files) (same (sure clean)) (held clean)
whole_as (Refused rest) new begun defects same held sure = tt
whole_as (Parts rest) new begun defects same held sure = tt

-- a registry that stayed as it was, which a crash finds so
pub held_as : {D : Type 0} {g : Ghosts D} (rest : Left D g) (m : Moment) (old begun : State) → (m.defects ≡ 0 → m.state ≡ old) → IsSafe m old → old ≡ begun → IfWhole rest (λ files. HoldState g files m.state)
    → IfWhole rest (λ files. AreClean g files.log files.db → m.defects ≡ 0) → IfParts rest (FindsRight m.leaves) → HasState begun rest
held_as rest m old begun rests safe same held sure found =
    has_state rest begun (whole_as rest m.state begun m.defects (λ none. rests none ∙ same) held sure)
    (parts_so m.leaves (λ found. found ≡ Some begun) (λ found may. safe found may ∙ ap Some same) rest found)

-- of a registry that was opened nothing is said that is said of others
pub not_refused : {D : Type 0} {g : Ghosts D} (rest : Left D g) (Holds : Leftover D g → Type 0) → IfRefused rest (λ it. ⊥) → IfRefused rest Holds
not_refused (Whole files) Holds other = tt
not_refused (Refused rest) Holds other = absurd other
not_refused (Parts rest) Holds other = tt

pub served_promised : {D : Type 0} {g : Ghosts D} (rest : Left D g) (sends : ℕ → Option (List ℕ)) (was now : ℕ) (seen begun new : State) (defects : ℕ) → seen ≡ begun → (defects ≡ 0 → serving.KeepsPromise sends was now seen new)
    → IfWhole rest (λ files. HoldState g files new) → IfWhole rest (λ files. AreClean g files.log files.db → defects ≡ 0) → HoldsSome rest (serving.KeepsPromise sends was now begun)
served_promised rest sends was now seen begun new defects same keeps held sure =
    holds_some rest new defects (serving.KeepsPromise sends was now begun) (λ none. subst (λ (s : State). serving.KeepsPromise sends was now s new) same (keeps none)) held sure
