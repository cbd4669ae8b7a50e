-- What a transaction leaves, once it is committed or has failed.
use Rattle.std.proofs.Common.{◌≡◌, inl, inr, true, false, IsTrue, refl, sym, subst, ◌∙◌, arith, true≢false}
use Rattle.sqlite.specs.declared.error.Error.{Error}
use Rattle.sqlite.specs.Steps.{FailsToCommit}
use Rattle.sqlite.specs.Store.{Ghosts}
use Rattle.sqlite.specs.Effect.{Database}
use Rattle.sqlite.specs.Held.{Held, state}
use Rattle.sqlite.specs.State.{State, HasCleanDisk, Shows, KeepsCommit, IsRolledBack, Survives}
use Rattle.sqlite.proofs.StateLemmas.{survives_then}
use Rattle.sqlite.proofs.Callers.{survives_begin}
use Rattle.goo_tables_rows.specs.Rows.{Tables}
use Rattle.goo_tables_rows.specs.Lives.{IsAlive}
use Rattle.goo_tables_rows.specs.Stands.{Stands, Sees, Settled, Holds, HoldsOurs}
use Rattle.goo_tables_rows.proofs.Catalogued.{ours_of}

-- the tables that the transaction saw are committed
pub committed : (a b : State) (t : Tables) → Sees a t → Shows a b a.now a.now false → Settled b t
committed a b t it h = record { outside = h.mode; stands = subst (λ (d : Database). Stands d t) (sym h.now_is) it.stands; committed = h.committed_is ∙ sym h.now_is }

pub begins : {S : Type 0} (g : Ghosts S) (old : Held S) (t : Tables) → Stands (state g old).now t → Sees (state g (record old { in_transaction = true })) t
begins g old t it = record { inside = refl; stands = it }

pub holds_from : (d : Database) (t : Tables) → Stands d t → Holds t d.trees
holds_from d t it = record {
  schema = refl;
  meta = it.meta;
  holders = it.holders;
  accounts = it.accounts;
  devices = it.devices;
  declarations = it.declarations;
  lots = it.lots;
  pieces = it.pieces;
  peers = it.peers;
  receipts = it.receipts;
  cancellations = it.cancellations;
  withdrawals = it.withdrawals;
  notices_out = it.notices_out;
  notices_in = it.notices_in;
  corrections = it.corrections;
  device_carriers = it.device_carriers;
  lot_carriers = it.lot_carriers;
  devices_carried = it.devices_carried;
  lots_carried = it.lots_carried;
}

-- a change in a transaction and its commit: a crash finds what it could find before, or the tables after the change, listed as ours
pub survives_commit : {S : Type 0} (g : Ghosts S) (old mid new : Held S) (t : Tables) → (HasCleanDisk (state g mid) → Sees (state g mid) t)
    → (HasCleanDisk (state g mid) → IsTrue (state g old).is_open → IsAlive (state g mid))
    → Survives (state g (record old { in_transaction = true })) (state g mid) (λ _. ⊥) → Survives (state g mid) (state g new) (λ db. db ≡ (state g mid).now.trees)
    → Survives (state g old) (state g new) (HoldsOurs (state g old).is_open t)
survives_commit g old mid new t sees lives inside after =
    survives_then (state g old) (state g mid) (state g new) (λ _. ⊥) (λ db. db ≡ (state g mid).now.trees) (HoldsOurs (state g old).is_open t) (λ _ db none. absurd none)
    (λ clean db is.
    let early : HasCleanDisk (state g mid) = omega (arith, after.clean) in
    let seen = sees early in
    subst (HoldsOurs (state g old).is_open t) (sym is) (holds_from (state g mid).now t seen.stands, λ was. (let alive = lives early was in ours_of (state g mid).now (alive.1 alive.0).0 seen.stands.schema)))
    (survives_begin g old (state g mid) _ inside) after

-- a transaction that is rolled back leaves what was there before it
pub undone : {S : Type 0} (g : Ghosts S) (old : Held S) (mid end : State) → (IsTrue (state g old).is_open → (state g old).now ≡ (state g old).committed)
    → KeepsCommit (state g (record old { in_transaction = true })) mid → IsRolledBack mid end → IsTrue end.is_open → (end.now ≡ (state g old).now) × (end.committed ≡ (state g old).committed)
undone g old mid end settled keeps back live =
    let was = back.was_open live in
    let kept = keeps.committed was in
    let both = back.undone live in
    (both.0 ∙ kept ∙ sym (settled (keeps.was_open was)), both.1 ∙ kept)

pub not_committed : {S : Type 0} (g : Ghosts S) (old : Held S) (mid end : State) (t : Tables) (e : Error) → (IsTrue (state g old).is_open → (state g old).now ≡ (state g old).committed)
    → KeepsCommit (state g (record old { in_transaction = true })) mid → Sees mid t → FailsToCommit mid end e → IsTrue end.is_open
    → (end.now ≡ (state g old).now) × (end.committed ≡ (state g old).committed)
not_committed g old mid end t e settled keeps sees (inl failed) live = undone g old mid end settled keeps failed.3 live
not_committed g old mid end t e settled keeps sees (inr ended) live = absurd (true≢false (sym sees.inside ∙ ended.1))
