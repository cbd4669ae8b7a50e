-- The store of a connection that was given up.
use Rattle.std.specs.Prelude.{◌≡◌, IsTrue}
use Rattle.sqlite_trees.specs.View.{View}
use Rattle.sqlite.specs.State.{State}
use Rattle.sqlite.specs.Steps.{IsFresh}

-- the connection was open, and the store has the trees of its last commit, with nothing that waits for another
pub record IsSettledAs (conn : State) (store : View) : Type 0 where
  pub fresh : IsFresh store
  pub was_open : IsTrue conn.is_open
  pub trees : store.trees ≡ conn.committed.trees
