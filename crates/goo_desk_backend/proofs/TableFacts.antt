-- A registry's imports are runs.
use Rattle.std.proofs.Common.{◌≡◌, ◌∙◌, ℕ, List, [], Option, Some, None, refl, inl, inr, subst, sym}
use Rattle.std.proofs.lemmas.List.Elements.{All-nil}
use Rattle.goo_types.specs.Obeys.{Obeys}
use Rattle.goo_types.specs.declared.request.Request.{Request}
use Rattle.goo_spec.specs.Obeys.{AllObey}
use Rattle.goo_spec.specs.Run.{final}
use Rattle.goo_spec.specs.State.{State}
use Rattle.goo_files_import.specs.Import.{requests_of}
use Rattle.goo_files_import.proofs.PromiseFacts.{rows_obey}
use Rattle.goo_files_import.proofs.Runs.{a_run}
use Rattle.goo_desk_backend.specs.Showing.{imported_by, begun_by}
use Rattle.goo_desk_backend.specs.Tables.{AreOfTable, BeginTable, ImportsAreRuns}

whole : (s : State) (caller input : List ℕ) (report : Option (List ℕ)) (after : State) → imported_by s caller input report after → (qs : List Request) × AreOfTable caller input qs × (after ≡ final s qs)
whole s caller input None after (lacks, is) = ([], inr (lacks, refl), is)
whole s caller input (Some report) after (lines, is, text) = (requests_of caller is.rows, inl (is.rows, is.are_rows, refl), is.state ∙ (a_run s caller is.rows).state)

begun : (s : State) (caller input : List ℕ) (after : State) → begun_by s caller input after → (qs : List Request) × BeginTable caller input qs × (after ≡ final s qs)
begun s caller input after (rows, are, is) = (requests_of caller rows, (rows, are, refl), is ∙ (a_run s caller rows).state)

pub imports_are_runs : ImportsAreRuns imported_by begun_by
imports_are_runs = record { whole = whole; begun = begun }

-- the requests of a table are within their limits
pub table_obeys : (caller input : List ℕ) (qs : List Request) → AreOfTable caller input qs → AllObey qs
table_obeys caller input qs (inl (rows, are, is)) = subst AllObey (sym is) (rows_obey caller rows)
table_obeys caller input qs (inr (lacks, is)) = subst AllObey (sym is) (All-nil (λ q. Obeys q.command))

pub beginning_obeys : (caller input : List ℕ) (qs : List Request) → BeginTable caller input qs → AllObey qs
beginning_obeys caller input qs (rows, are, is) = subst AllObey (sym is) (rows_obey caller rows)
