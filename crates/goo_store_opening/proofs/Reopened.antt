-- A registry that is opened over what was left of one.
use Rattle.std.proofs.Common.{◌≡◌, ◌⊎◌, inl, inr, Some, None, refl, sym, ap, subst}
use Rattle.sqlite.specs.State.{State}
use Rattle.sqlite.specs.Effect.{Database, IsDatabase}
use Rattle.goo_spec.specs.State as registry
use Rattle.goo_tables_rows.specs.Columns.{registry_schema}
use Rattle.goo_tables_rows.specs.Rows.{Tables, tables_of}
use Rattle.goo_tables_rows.specs.Stands.{Stands, Holds, defects}
use Rattle.goo_tables_rows.proofs.Catalogued.{ours_of, our_schema}
use Rattle.goo_tables_rows.proofs.Committed.{holds_from}
use Rattle.goo_tables_rows.proofs.Decoded.{decoded}
use Rattle.goo_spec_tables.specs.Kept.{AreKept}
use Rattle.goo_spec_tables.specs.States.{state_of}
use Rattle.goo_store_open.specs.Found.{IsOutside}
use Rattle.goo_store_open.specs.declared.fault.OpenFault.{OpenFault}
use Rattle.goo_store_open.specs.declared.fault.OpenFault.TheVariants.{AlreadyThere, NotARegistry, Version, Damaged, Store, Memory}
use Rattle.goo_store_judge.specs.Moments.{IsWell, OpensAs, OpensAsEither, tables_in}

-- trees that hold tables, under the schema that they list
stands_in : (db : Database) (t : Tables) → db.schema ≡ registry_schema → Holds t db.trees → Stands db t
stands_in db t schema holds = subst (λ (d : Database). Stands d t) (λ i. record { schema = sym schema i; trees = db.trees }) holds

-- the database that a shelf hands back opens as its state
pub opens_well : (s : State) → IsWell s → defects s ≡ 0 → OpensAs s.now.trees (Some (state_of (tables_in s)))
opens_well s it none = (it.ours none, (holds_from s.now (tables_in s) (it.stands none), it.kept none, refl))

not_outside : (f : OpenFault) → (f ≡ Store → ⊥) → (f ≡ Memory → ⊥) → IsOutside f → ⊥
not_outside f store memory outside = elim outside [ inl is ↦ store is | inr is ↦ memory is ]

some_same : (a b : registry.State) → Some a ≡ Some b → a ≡ b
some_same a b is = cc

module _ (db : Database) (sound : IsDatabase db) (s t : registry.State) (either : OpensAsEither db.trees s t) where
  not_none : OpensAs db.trees None → ⊥
  not_none none = elim (either None none) [ inl is ↦ absurd (let e = is in cc) | inr is ↦ absurd (let e = is in cc) ]

  -- so its schema is ours
  pub listed_again : (db.schema ≡ registry_schema → ⊥) → ⊥
  listed_again other = not_none (λ ours holds kept. other (our_schema db sound ours))

  -- the state of its tables is one of the two
  pub found_again : (u : Tables) → Stands db u → AreKept u → (state_of u ≡ s) ⊎ (state_of u ≡ t)
  found_again u stands kept =
      let same : tables_of db.trees ≡ u = decoded db u stands in
      let opens : OpensAs db.trees (Some (state_of u)) =
      (ours_of db sound stands.schema, (holds_from db (tables_of db.trees) (subst (Stands db) (sym same) stands), subst AreKept (sym same) kept, ap state_of (sym same))) in
      elim (either (Some (state_of u)) opens) [ inl is ↦ inl (some_same (state_of u) s is) | inr is ↦ inr (some_same (state_of u) t is) ]

  never : (f : OpenFault) → ((u : Tables) → Stands db u → AreKept u → IsOutside f) → (IsOutside f → ⊥) → ⊥
  never f told other = not_none (λ ours holds kept. other (told (tables_of db.trees) (stands_in db (tables_of db.trees) (our_schema db sound ours) holds) kept))

  -- it is refused from outside alone, where tables that keep the rules are
  pub outside_again : (f : OpenFault) → ((u : Tables) → Stands db u → AreKept u → IsOutside f) → IsOutside f
  outside_again Store told = inl refl
  outside_again Memory told = inr refl
  outside_again AlreadyThere told = absurd (never AlreadyThere told (not_outside AlreadyThere (λ is. absurd cc) (λ is. absurd cc)))
  outside_again NotARegistry told = absurd (never NotARegistry told (not_outside NotARegistry (λ is. absurd cc) (λ is. absurd cc)))
  outside_again (Version n) told = absurd (never (Version n) told (not_outside (Version n) (λ is. absurd cc) (λ is. absurd cc)))
  outside_again Damaged told = absurd (never Damaged told (not_outside Damaged (λ is. absurd cc) (λ is. absurd cc)))
