use Rattle.std.proofs.Common.{◌≡◌, ◌-◌, All, IfSome, drop, length}
use Rattle.goo_tables_accounts.specs.Changes.{PieceFits}
use Rattle.goo_spec_tables.specs.Renewed.{joined_pieces}
use Rattle.goo_store_changes.specs.Changes.{ChangeFits}
use Rattle.goo_store_plans.specs.JoiningChanges.{first_of, changes_to_join}
use Rattle.goo_store_plans.proofs.joining_pieces.joining_changes.Given as goal

abbrev pub invariant-loop-done : goal.invariant-loop-done
invariant-loop-done l = record {
  changes : l.changes.items ≡ changes_to_join (drop (length l.pieces - l.done) l.pieces);
  next : l.next ≡ first_of (joined_pieces (drop (length l.pieces - l.done) l.pieces));
  fits : All ChangeFits l.changes.items;
  low : All PieceFits l.pieces → IfSome l.next PieceFits;
}
