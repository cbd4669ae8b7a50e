-- Calls that change nothing, one after another.
use Rattle.std.proofs.Common.{◌∙◌, refl, sym}
use Rattle.sqlite.specs.State.{State}
use Rattle.goo_tables_rows.specs.Stands.{Rests, IsSettled}

pub rests_itself : (a : State) → Rests a a
rests_itself a = record { was_open = λ live. live; now = λ _. refl; committed = λ _. refl }

pub rests_then : (a b c : State) → Rests a b → Rests b c → Rests a c
rests_then a b c one two = record {
  was_open = λ live. one.was_open (two.was_open live);
  now = λ live. two.now live ∙ one.now (two.was_open live);
  committed = λ live. two.committed live ∙ one.committed (two.was_open live);
}

pub settled_still : (a b : State) → IsSettled a → Rests a b → IsSettled b
settled_still a b settled one live = one.now live ∙ settled (one.was_open live) ∙ sym (one.committed live)
