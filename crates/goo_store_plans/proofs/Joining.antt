-- The changes of a plan: those of its command, then those of its edits, and the receipt.
use Rattle.std.proofs.Common.{◌≡◌, ℕ, List, [], ◌∷◌, ◌++◌, map, sym, subst, arith}
use Rattle.std.specs.Prelude.{All}
use Rattle.std.proofs.lemmas.List.Elements.{All-nil, All-append, All-map}
use Rattle.goo_types.specs.Obeys.{Obeys}
use Rattle.goo_ranges.specs.declared.edits.Edit.{Edit}
use Rattle.goo_types.specs.declared.command.Command.{Command}
use Rattle.goo_spec.specs.Step.{changed}
use Rattle.goo_core_shelf.specs.Plan.{Fits}
use Rattle.goo_core_shelf.specs.declared.plan.Plan.{Plan}
use Rattle.goo_tables_rows.specs.Rows.{Tables, Lot, receipt_in}
use Rattle.goo_tables_rows.specs.declared.piece.PieceRow.{PieceRow}
use Rattle.goo_tables_rows.specs.declared.receipt.ReceiptRow.{ReceiptRow}
use Rattle.goo_spec_tables.specs.Kept.{AreKept}
use Rattle.goo_spec_tables.specs.Places.{rows_of}
use Rattle.goo_spec_tables.specs.States.{state_of}
use Rattle.goo_store_plans.specs.Acted.{IsActed, IsReceiptOf}
use Rattle.goo_store_plans.specs.Carried.{AreInOrder, Carry}
use Rattle.goo_store_plans.specs.Carrying.{CarriesOut}
use Rattle.goo_store_changes.specs.Changes.{made_all, IsFor, AreFor, AreFree, HasRoom, HaveRoom}
use Rattle.goo_store_plans.specs.EditChanges.{AreForEdit, AreForEdits}
use Rattle.goo_store_plans.specs.LotNumbers.{AreJustWith}
use Rattle.goo_store_plans.specs.Planned.{IsPlanned}
use Rattle.goo_store_plans.specs.Room.{HaveRowids}
use Rattle.goo_store_changes.specs.declared.table_change.TableChange.{TableChange}
use Rattle.goo_store_plans.specs.declared.gathered_lots.Gathered.{Gathered}
use Rattle.goo_store_changes.specs.declared.table_change.TableChange.TheVariants.{DeletePiece, InsertPiece, AddReceipt}
use Rattle.goo_store_plans.proofs.Carrying.{IsCalm, all_one}
use Rattle.goo_store_plans.proofs.Gathering.{with_none}
use Rattle.goo_store_plans.proofs.InTurn.{both_in_turn, always_in_turn}
use Rattle.goo_store_plans.proofs.PlannedLemmas.{planned}

-- ---- what holds of each change that an edit takes

module _ (P : TableChange → Type 0) (deletes : (k : ℕ) → P (DeletePiece k)) (inserts : (x : PieceRow) → P (InsertPiece x)) (lots : List Lot) where
  each_of_edit : (e : Edit) (changes : List TableChange) → AreForEdit lots e changes → All P changes
  each_of_edit e changes it =
      subst (All P) (sym it.changes_are) (All-append P (map (λ k. DeletePiece k) e.delete.items) (map (λ x. InsertPiece x) it.rows)
      (All-map P (λ k. DeletePiece k) e.delete.items (λ i d low. deletes _)) (All-map P (λ x. InsertPiece x) it.rows (λ i d low. inserts _)))

  each_of_edits : (es : List Edit) (changes : List TableChange) → AreForEdits lots es changes → All P changes
  each_of_edits [] changes it = subst (All P) (sym it) (All-nil P)
  each_of_edits (e ∷ es) changes it = subst (All P) (sym it.2) (All-append P it.0 it.1 (each_of_edit e it.0 it.3) (each_of_edits es it.1 it.4))

-- so all of them carry out the plan
pub joined : (t : Tables) → AreKept t → AreInOrder t → (plan : Plan) → Fits (state_of t) (rows_of t) plan → Obeys plan.request.command → (act edits : List TableChange) → AreFor t act → AreFree t act → (HaveRowids t → HaveRoom t act)
    → IsActed t (made_all t act) (changed (state_of t) plan.request.command) → AreForEdits (made_all t act).lots plan.edits.items edits → (r : ReceiptRow) → IsReceiptOf plan.request plan.reply (receipt_in r) → IsPlanned t (act ++ (edits ++ AddReceipt r ∷ [])) plan
joined t kept order plan fits obeys act edits for free room acted edit r receipt =
    let lots = (made_all t act).lots in
    let calm = each_of_edits IsCalm (λ k u. tt) (λ x u. tt) lots plan.edits.items edits edit in
    let spacious = each_of_edits (λ d. (u : Tables) → HasRoom u d) (λ k u. tt) (λ x u. omega arith) lots plan.edits.items edits edit in
    planned t kept plan fits obeys order.pieces order.receipts act edits acted edit r receipt
    (both_in_turn IsFor t act (edits ++ AddReceipt r ∷ []) for (always_in_turn IsFor (made_all t act) (edits ++ AddReceipt r ∷ []) (All-append IsCalm edits (AddReceipt r ∷ []) calm (all_one IsCalm (AddReceipt r) (λ u. tt)))))
    free room (always_in_turn HasRoom (made_all t act) edits spacious)

-- changes that put no lot in carry a command out as they are
pub carried_without : (t : Tables) (command : Command) (changes : List TableChange) (g : Gathered) → g.changes.items ≡ changes → g.added.items ≡ [] → Carry t command changes → CarriesOut t command g
carried_without t command changes g same none it = record {
  for = subst (AreFor t) (sym same) it.for;
  free = subst (AreFree t) (sym same) it.free;
  room = subst (λ xs. HaveRowids t → HaveRoom t xs) (sym same) it.room;
  acted = subst (λ xs. IsActed t (made_all t xs) (changed (state_of t) command)) (sym same) it.acted;
  lots = subst (λ xs. AreJustWith t.lots g.added.items (made_all t xs).lots) (sym same)
      (subst (AreJustWith t.lots g.added.items) (sym it.lots) (subst (λ added. AreJustWith t.lots added t.lots) (sym none) (with_none t.lots)));
}
