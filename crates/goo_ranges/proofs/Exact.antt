-- Edits of a book's pieces.
use Rattle.std.proofs.Common.{◌≡◌, ℕ, ◌-◌, ◌≤◌, List, ◌++◌, Result, Ok, Err, map, length, take, drop, sym}
use Rattle.std.specs.Result.{OnOk, IfOk}
use Rattle.std.proofs.lemmas.List.{length-map}
use Rattle.goo_types.specs.declared.piece.Piece.{Piece}
use Rattle.goo_ranges.specs.declared.edits.Edit.{Edit}
use Rattle.goo_types.specs.declared.fault.Fault.{Fault}
use Rattle.goo_ranges.specs.Edit.{IsExact}
use Rattle.goo_ranges_pieces.proofs.Touching.{in-three}

pub exact-from_replaced : (r : Result Edit Fault) (old new insert : List Piece) (from to : ℕ) → from ≤ to → OnOk r (new ≡ take from old ++ (insert ++ drop to old)) → IfOk r (λ edit. edit.insert.items ≡ insert) → IfOk r (λ edit. edit.delete.items ≡ map (λ p. p.first) (take (to - from) (drop from old))) → IfOk r (IsExact old new)
exact-from_replaced (Ok edit) old new insert from to up becomes inserted deleted = record {
  before = take from old;
  deleted = take (to - from) (drop from old);
  after = drop to old;
  was = sym (in-three old from to up);
  becomes = rw inserted becomes;
  named = deleted;
}
exact-from_replaced (Err e) old new insert from to up becomes inserted deleted = tt

pub few-from_replaced : (r : Result Edit Fault) (insert deleted : List Piece) (most : ℕ) → length insert ≤ most → length deleted ≤ most → IfOk r (λ edit. edit.insert.items ≡ insert) → IfOk r (λ edit. edit.delete.items ≡ map (λ p. p.first) deleted) → IfOk r (λ edit. (length edit.delete.items ≤ most) × (length edit.insert.items ≤ most))
few-from_replaced (Ok edit) insert deleted most few fewer inserted named = (rw named (rw length-map fewer), rw inserted few)
few-from_replaced (Err e) insert deleted most few fewer inserted named = tt
