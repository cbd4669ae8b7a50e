-- What a change may answer, under fewer words, and what the end of a transaction leaves.
use Rattle.std.proofs.Common.{◌≡◌, ◌⊎◌, inl, inr, refl, false, Ok, Err, Result, IfErr, sym, subst, ◌∙◌, true, true≢false}
use Rattle.std.specs.Prelude.{⊤}
use Rattle.sqlite.specs.declared.error.Error.{Error}
use Rattle.sqlite.specs.Effect.{IsDatabase}
use Rattle.sqlite.specs.State.{State, IsLive, Shows}
use Rattle.sqlite.specs.Steps.{FailsToCommit}
use Rattle.sqlite.specs.Store.{Ghosts}
use Rattle.sqlite.specs.Held.{Held, state}
use Rattle.goo_tables_rows.specs.First.{IsFirst}
use Rattle.goo_tables_rows.specs.Refused.{IsTooBig, IsTooBigOrFull}
use Rattle.goo_tables_rows.specs.Rows.{Tables}
use Rattle.goo_tables_rows.specs.Stands.{Stands, Sees}
use Rattle.goo_tables_rows.proofs.Committed.{begins}
use Rattle.goo_store_changes.specs.Migrated.{SeesFirst}

module _ {X : Type 0} (P : Error → Type 0) (r : Result X Error) (Room Left : Type 0) (leaves : Room → Left) where
  pub or_less : IfErr r (λ e. P e ⊎ (IsTooBigOrFull e × (Left → ⊥))) → IfErr r (λ e. P e ⊎ (IsTooBigOrFull e × (Room → ⊥)))
  or_less h = go r h
    where
      go : (q : Result X Error) → IfErr q (λ e. P e ⊎ (IsTooBigOrFull e × (Left → ⊥))) → IfErr q (λ e. P e ⊎ (IsTooBigOrFull e × (Room → ⊥)))
      go (Ok x) h = tt
      go (Err e) (inl fault) = inl fault
      go (Err e) (inr none) = inr (none.0, λ room. none.1 (leaves room))

  pub or_full : IfErr r (λ e. P e ⊎ (IsTooBig e × (Left → ⊥))) → IfErr r (λ e. P e ⊎ (IsTooBigOrFull e × (Room → ⊥)))
  or_full h = go r h
    where
      go : (q : Result X Error) → IfErr q (λ e. P e ⊎ (IsTooBig e × (Left → ⊥))) → IfErr q (λ e. P e ⊎ (IsTooBigOrFull e × (Room → ⊥)))
      go (Ok x) h = tt
      go (Err e) (inl fault) = inl fault
      go (Err e) (inr big) = inr (inl big.0, λ room. big.1 (leaves room))

pub or_big : {X : Type 0} (P : Error → Type 0) (r : Result X Error) (Room : Type 0) → IfErr r (λ e. P e ⊎ (⊥ × (⊤ → ⊥))) → IfErr r (λ e. P e ⊎ (IsTooBigOrFull e × (Room → ⊥)))
or_big P (Ok x) Room h = tt
or_big P (Err e) Room (inl fault) = inl fault
or_big P (Err e) Room (inr none) = absurd none.0

-- ---- the beginning of a transaction and its end

pub seen_first : {S : Type 0} (g : Ghosts S) (old first : Held S) (t : Tables) → first ≡ record old { in_transaction = true } → Stands (state g old).now t → Sees (state g first) t
seen_first g old first t begun it = subst (λ h. Sees (state g h) t) (sym begun) (begins g old t it)

-- the same of tables of version 1
pub first_seen : {S : Type 0} (g : Ghosts S) (old first : Held S) (t : Tables) → first ≡ record old { in_transaction = true } → IsFirst (state g old).now t → SeesFirst (state g first) t
first_seen g old first t begun it = subst (λ h. SeesFirst (state g h) t) (sym begun) (record { inside = refl; first = it })

pub committed_live : (a b : State) → IsLive a → Shows a b a.now a.now false → IsLive b
committed_live a b live h = λ _. (subst IsDatabase (sym h.now_is) (live h.was_open).0, subst IsDatabase (sym h.committed_is) (live h.was_open).0)

pub undone_live : (a b : State) (t : Tables) (e : Error) → IsLive a → Sees a t → FailsToCommit a b e → IsLive b
undone_live a b t e live sees (inl failed) = λ still.
    let back = failed.3 in
    let both = back.undone still in
    let last = (live (back.was_open still)).1 in
    (subst IsDatabase (sym both.0) last, subst IsDatabase (sym both.1) last)
undone_live a b t e live sees (inr ended) = absurd (true≢false (sym sees.inside ∙ ended.1))
