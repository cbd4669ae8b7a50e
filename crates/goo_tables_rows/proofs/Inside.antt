-- What a statement inside a transaction leaves.
use Rattle.std.proofs.Common.{◌≡◌, inl, inr, ℕ, Bool, true, false, List, Ok, Err, Result, OnOk, IsTrue, refl, sym, ap, subst, ◌∙◌, arith, fold, take, length, get_or, ◌+◌, ◌<◌, [], ◌∷◌}
use Rattle.std.proofs.lemmas.List.{take_more}
use Rattle.std.proofs.lemmas.List.Sums.{fold-append}
use Rattle.sqlite.specs.declared.error.Error.{Error}
use Rattle.sqlite.specs.Order.{Row}
use Rattle.sqlite.specs.Store.{Ghosts}
use Rattle.sqlite.specs.Held.{Held, state}
use Rattle.sqlite.specs.State.{State, KeepsCommit, IsUnchanged, IsRolledBack, HasCleanDisk, Executes, ExecutesInside, Survives}
use Rattle.sqlite.proofs.StateLemmas.{survives_then}
use Rattle.goo_tables_rows.specs.Rows.{Tables}
use Rattle.goo_tables_rows.specs.Stands.{Stands, Sees}

unchanged_keeps : (a b : State) → IsUnchanged a b → KeepsCommit a b
unchanged_keeps a b h = record { was_open = λ _. h.0.was_open; committed = λ _. h.0.committed_is }

rolled_keeps : (a b : State) → IsRolledBack a b → KeepsCommit a b
rolled_keeps a b h = record { was_open = h.was_open; committed = λ live. (h.undone live).1 }

ran_keeps : (sql : List ℕ) (params : Row) (a b : State) (r : Result ℕ Error) → ExecutesInside 0 sql params a b r → KeepsCommit a b
ran_keeps sql params a b (Ok count) h = record { was_open = λ _. h.1.was_open; committed = λ _. h.1.committed_is }
ran_keeps sql params a b (Err e) (inl h) = elim h.1 [ inl same ↦ unchanged_keeps a b same | inr undone ↦ rolled_keeps a b undone ]
ran_keeps sql params a b (Err e) (inr h) = unchanged_keeps a b h.2

module _ {S : Type 0} (g : Ghosts S) (old new : Held S) (sql : List ℕ) (params : Row) (r : Result ℕ Error) where
  pub keeps : (old.in_transaction ≡ false → new ≡ old) → (IsTrue old.in_transaction → ExecutesInside 0 sql params (state g old) (state g new) r) → KeepsCommit (state g old) (state g new)
  keeps ended runs = go old.in_transaction refl
    where
      go : (b : Bool) → old.in_transaction ≡ b → KeepsCommit (state g old) (state g new)
      go true e = ran_keeps sql params (state g old) (state g new) r (runs e)
      go false e = subst (λ h. KeepsCommit (state g old) (state g h)) (sym (ended e)) (record { was_open = λ live. live; committed = λ _. refl })

  module _ (t after : Tables) (it : Sees (state g old) t) (does : (q : Result ℕ Error) → Stands (state g old).now t → Executes sql params (state g old) (state g new) q → OnOk q (Stands (state g new).now after)) where
    pub sees : (q : Result ℕ Error) → ExecutesInside 0 sql params (state g old) (state g new) q → OnOk q (Sees (state g new) after)
    sees (Ok count) h = record { inside = h.1.mode; stands = does (Ok count) it.stands h.0 }
    sees (Err e) h = tt

-- the same from bare tables
pub sees_begun : {S : Type 0} (g : Ghosts S) (old new : Held S) (sql : List ℕ) (params : Row) (r : Result ℕ Error) (after : Tables)
    → ((q : Result ℕ Error) → Executes sql params (state g old) (state g new) q → OnOk q (Stands (state g new).now after)) → (q : Result ℕ Error)
    → ExecutesInside 0 sql params (state g old) (state g new) q → OnOk q (Sees (state g new) after)
sees_begun g old new sql params r after does (Ok count) h = record { inside = h.1.mode; stands = does (Ok count) h.0 }
sees_begun g old new sql params r after does (Err e) h = tt

pub keeps_then : (a b c : State) → KeepsCommit a b → KeepsCommit b c → KeepsCommit a c
keeps_then a b c one two = record { was_open = λ live. one.was_open (two.was_open live); committed = λ live. two.committed live ∙ one.committed (two.was_open live) }

pub survives_both : (a b c : State) → Survives a b (λ _. ⊥) → Survives b c (λ _. ⊥) → Survives a c (λ _. ⊥)
survives_both a b c = survives_then a b c (λ _. ⊥) (λ _. ⊥) (λ _. ⊥) (λ _ db none. none) (λ _ db none. none)

-- nothing was run
pub stays : (a : State) → Survives a a (λ _. ⊥)
stays a = record { clean = omega arith; shield = λ h. h; counts = omega arith; limit = refl; closes = λ _ live. inl live; crash = λ _ db h. inl h }

pub keeps_itself : (a : State) → KeepsCommit a a
keeps_itself a = record { was_open = λ live. live; committed = λ _. refl }

-- from one moment of a transaction to a later one
pub record Goes (a b : State) (change : Tables → Tables) : Type 0 where
  pub changed : HasCleanDisk b → (t : Tables) → Sees a t → Sees b (change t)
  pub uncommitted : HasCleanDisk b → KeepsCommit a b
  pub survives : Survives a b (λ _. ⊥)

pub goes_nowhere : (a : State) → Goes a a (λ t. t)
goes_nowhere a = record { changed = λ _ t it. it; uncommitted = λ _. keeps_itself a; survives = stays a }

module _ (a b c : State) (one two : Tables → Tables) (first : Goes a b one) (keeps : HasCleanDisk c → KeepsCommit b c) (survives : Survives b c (λ _. ⊥)) where
  pub then_keeps : HasCleanDisk c → KeepsCommit a c
  then_keeps clean = keeps_then a b c (first.uncommitted (omega (arith, survives.clean))) (keeps clean)

  pub then_survives : Survives a c (λ _. ⊥)
  then_survives = survives_both a b c first.survives survives

  pub goes_then : (HasCleanDisk c → (t : Tables) → Sees b t → Sees c (two t)) → Goes a c (λ t. two (one t))
  goes_then changed = record { changed = λ clean t it. changed clean (one t) (first.changed (omega (arith, survives.clean)) t it); uncommitted = then_keeps; survives = then_survives }

-- one more step of a fold
pub fold_more : {T X : Type 0} (f : T → X → T) (t : T) (xs : List X) (i : ℕ) (d : X) → i < length xs → f (fold f t (take i xs)) (get_or xs i d) ≡ fold f t (take (i + 1) xs)
fold_more f t xs i d low = sym (ap (fold f t) (take_more xs i d low) ∙ fold-append f t (take i xs) (get_or xs i d ∷ []))
