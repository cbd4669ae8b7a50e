-- A shelf in memory at one moment.
use Rattle.std.specs.Prelude.{◌≡◌}
use Rattle.goo_core_shelf.specs.Shelf.{Moment, IsSafe}
use Rattle.goo_core_list.specs.States.{state_of}
use Rattle.goo_core_list.specs.declared.list_shelf.ListShelf.{ListShelf}

-- nothing lies below it that could refuse a call or corrupt anything, and a crash leaves nothing of it
abbrev pub seen_in : ListShelf → Moment
seen_in s = record {
  state = state_of s;
  rows = s.rows.pieces;
  refusals = 0;
  corruptions = 0;
  defects = 0;
  failures = 0;
  leaves = λ o. ⊥;
}

pub safe_in : (s : ListShelf) → (seen_in s).defects ≡ 0 → IsSafe (seen_in s) (seen_in s).state
safe_in s fine o left = absurd left
