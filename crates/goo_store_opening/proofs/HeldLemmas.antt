-- The tables that a database holds, by the version that they tell.
use Rattle.std.proofs.Common.{◌≡◌, ◌==◌, ◌∙◌, sym, ap, subst, cond, ℕ, Ok}
use Rattle.sqlite.specs.State.{State}
use Rattle.sqlite.specs.Effect.{Database}
use Rattle.goo_tables_rows.specs.First.{IsFirst, with_none}
use Rattle.goo_tables_rows.specs.Rows.{Tables, tables_of}
use Rattle.goo_tables_rows.specs.Stands.{Stands, defects}
use Rattle.goo_tables_rows.proofs.Decoded.{decoded}
use Rattle.goo_spec_tables.specs.Kept.{AreKept, AreKeptIn}
use Rattle.goo_spec_tables.specs.States.{state_of}
use Rattle.goo_store_open.specs.Layout.{seen_by}
use Rattle.goo_store_open.specs.declared.layout.Layout.TheVariants.{First}
use Rattle.goo_store_judge.specs.Holding.{sure}
use Rattle.goo_store_judge.specs.Moments.{tables_in}
use Rattle.goo_store_opening.specs.FirstTables.{Renews}
use Rattle.goo_store_opening.specs.Versions.{tables_held, state_held}
use Rattle.goo_store_opening.proofs.FirstTables.{same_state}

pub version_first : (db : Database) (t : Tables) → IsFirst db t → AreKeptIn 1 t → (tables_of db.trees).meta.version ≡ 1
unfolding tables_of
version_first db t first kept = ap (λ (u : Tables). u.meta.version) (decoded (seen_by First db) t first.1) ∙ kept.readable.version

pub held_first : (db : Database) (t : Tables) → IsFirst db t → AreKeptIn 1 t → t ≡ tables_held db.trees
held_first db t first kept =
    subst (λ (n : ℕ). t ≡ cond (n == 1) (tables_of (with_none db.trees)) (tables_of db.trees)) (sym (version_first db t first kept)) (sym (decoded (seen_by First db) t first.1))

pub held_ours : (db : Database) (t : Tables) → Stands db t → AreKept t → t ≡ tables_held db.trees
held_ours db t stands kept =
    let version : (tables_of db.trees).meta.version ≡ 2 = ap (λ (u : Tables). u.meta.version) (decoded db t stands) ∙ kept.readable.version in
    subst (λ (n : ℕ). t ≡ cond (n == 1) (tables_of (with_none db.trees)) (tables_of db.trees)) (sym version) (sym (decoded db t stands))

-- a registry of version 1 that was renewed
pub state_renewed : {T : Type 0} (old new : State) (x : T) → Renews old new (Ok x) → defects new ≡ 0 → state_of (tables_in new) ≡ state_held old.now.trees
state_renewed old new x renews none =
    let them = renews.done (sure new none).0 in
    same_state old new x renews them.0 them.1 none ∙ ap state_of (held_first old.now them.0 them.1 them.2)
