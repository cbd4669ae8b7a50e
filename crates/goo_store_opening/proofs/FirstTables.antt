-- Tables of version 1 are made those of version 2, or stay.
use Rattle.std.proofs.Common.{◌≡◌, ◌≤◌, ◌⊎◌, length, inl, inr, false, List, Ok, Err, Result, IsErr, IsTrue, refl, sym, ap, subst, ◌∙◌, arith, true≢false}
use Rattle.sqlite_trees.specs.View.{doubt}
use Rattle.sqlite.specs.State.{State, HasCleanDisk, IsLive, Survives}
use Rattle.sqlite.specs.Tree.{Trees}
use Rattle.sqlite.specs.Effect.{Database}
use Rattle.sqlite.specs.Schema.{Schema}
use Rattle.goo_tables_rows.specs.Columns.{first_schema, registry_schema}
use Rattle.goo_tables_rows.specs.First.{IsFirst, HasFirstTables}
use Rattle.goo_tables_rows.specs.Rows.{Tables}
use Rattle.goo_tables_rows.specs.Stands.{Stands, HoldsOurs, Settled, IsSettled, defects}
use Rattle.goo_tables_rows.specs.declared.piece.PieceRow.{PieceRow}
use Rattle.goo_tables_rows.proofs.Catalogued.{ours_of}
use Rattle.goo_tables_rows.proofs.Decoded.{decoded}
use Rattle.goo_tables_accounts.specs.Changes.{with_version}
use Rattle.goo_store_changes.specs.Changes.{made_all, AreFor}
use Rattle.goo_store_changes.specs.declared.table_change.TableChange.{TableChange}
use Rattle.goo_store_plans.specs.JoiningChanges.{JoinsPieces}
use Rattle.goo_spec_tables.specs.Kept.{AreKept, AreKeptIn}
use Rattle.goo_spec_tables.specs.Renewed.{renewed}
use Rattle.goo_spec_tables.specs.States.{state_of}
use Rattle.goo_spec_tables.proofs.RenewedLemmas.{renewed_kept, renewed_state}
use Rattle.goo_store_rules.proofs.KeptKeys.{own_fields}
use Rattle.goo_store_open.specs.Found.{IsOutside}
use Rattle.goo_store_open.specs.Layout.{seen_by}
use Rattle.goo_store_open.specs.Reading.{IsMet}
use Rattle.goo_store_open.specs.declared.fault.OpenFault.{OpenFault}
use Rattle.goo_store_open.specs.declared.layout.Layout.TheVariants.{First}
use Rattle.goo_store_values.specs.Passing.{open_fault_of}
use Rattle.goo_store_values.specs.declared.statement_fault.StatementFault.{StatementFault}
use Rattle.goo_store_values.specs.declared.statement_fault.StatementFault.TheVariants.{Memory, Refused}
use Rattle.goo_store_judge.specs.Holding.{sure}
use Rattle.goo_store_judge.specs.Moments.{IsWell, tables_in}
use Rattle.goo_store_judge.specs.Opening.{Judges}
use Rattle.goo_store_judge.proofs.Judging.{keys_of}
use Rattle.goo_store_opening.specs.FirstTables.{HoldsFirst, Rewrites, Renews}

-- ---- the pieces are joined, in one transaction

-- nothing was done yet
pub not_begun : {T E : Type 0} (s : State) (pieces : List PieceRow) (e : E) → s.in_transaction ≡ false → Rewrites {T = T} s s pieces (Err e)
not_begun s pieces e outside = record {
  clean = λ clean. clean;
  outside = outside;
  works = tt;
  done = λ _ _ _ _. tt;
  rests = λ _ _ _ _. record { was_open = λ live. live; now = λ _. refl; committed = λ _. refl };
  crash = λ _ _ _ _ db left. inl left;
}

module _ (old new : State) (pieces : List PieceRow) (changes : List TableChange)
    (joins : (t : Tables) → t.pieces ≡ pieces → IsFirst old.now t → JoinsPieces t changes)
    (clean : doubt old.is_clean ≤ doubt new.is_clean) (outside : new.in_transaction ≡ false)
    (crash : (t : Tables) → IsFirst old.now t → AreFor t changes → Survives old new (HoldsOurs old.is_open (with_version 2 (made_all t changes)))) where
  made_renewed : (t : Tables) → IsFirst old.now t → t.pieces ≡ pieces → with_version 2 (made_all t changes) ≡ renewed t
  made_renewed t first same = ap (with_version 2) (joins t same first).made

  left_so : HasCleanDisk new → (t : Tables) → IsFirst old.now t → t.pieces ≡ pieces → (db : Trees) → new.may_leave db → old.may_leave db ⊎ HoldsOurs old.is_open (renewed t) db
  left_so late t first same = subst (λ (u : Tables). (db : Trees) → new.may_leave db → old.may_leave db ⊎ HoldsOurs old.is_open u db) (made_renewed t first same) ((crash t first (joins t same first).for).crash late)

  pub rewritten : {T E : Type 0} (x : T) → (HasCleanDisk new → IsTrue new.is_open)
      → (HasCleanDisk new → (t : Tables) → IsFirst old.now t → AreFor t changes → Settled new (with_version 2 (made_all t changes))) → Rewrites {E = E} old new pieces (Ok x)
  rewritten x works done = record {
    clean = λ late. omega (arith, late, clean);
    outside = outside;
    works = works;
    done = λ late t first same. subst (Settled new) (made_renewed t first same) (done late t first (joins t same first).for);
    rests = λ _ _ _ _. tt;
    crash = left_so;
  }

  pub not_rewritten : {T E : Type 0} (e : E) → (HasCleanDisk new → IsTrue new.is_open → IsTrue old.is_open)
      → (HasCleanDisk new → IsTrue new.is_open → (t : Tables) → IsFirst old.now t → AreFor t changes → (new.now ≡ old.now) × (new.committed ≡ old.committed)) → Rewrites {T = T} old new pieces (Err e)
  not_rewritten e was_open kept = record {
    clean = λ late. omega (arith, late, clean);
    outside = outside;
    works = tt;
    done = λ _ _ _ _. tt;
    rests = λ late t first same. record {
      was_open = was_open late;
      now = λ live. (kept late live t first (joins t same first).for).0;
      committed = λ live. (kept late live t first (joins t same first).for).1;
    };
    crash = left_so;
  }

-- whatever error it is told as
pub as_told : {T E F : Type 0} (old new : State) (pieces : List PieceRow) (e : E) (r : Result T F) → IsErr r → Rewrites {T = T} old new pieces (Err e) → Rewrites old new pieces r
as_told old new pieces e (Ok x) is it = absurd (true≢false (sym is))
as_told old new pieces e (Err f) is it = record { clean = it.clean; outside = it.outside; works = tt; done = λ _ _ _ _. tt; rests = it.rests; crash = it.crash }

-- ---- judged, and then rewritten

-- tables of version 1 are those that the database shows
one_first : (db : Database) (t u : Tables) → IsFirst db t → IsFirst db u → t ≡ u
one_first db t u a b = sym (decoded (seen_by First db) t a.1) ∙ decoded (seen_by First db) u b.1

-- what was judged and refused
pub not_judged_first : {T U : Type 0} (Tells : Tables → T → Type 0) (a b : State) (f : OpenFault) → Judges First a b (Err f) Tells → (HasCleanDisk a → IsMet First a) → a.in_transaction ≡ false → Renews {T = U} a b (Err f)
not_judged_first Tells a b f judges met outside = record {
  clean = judges.clean;
  outside = judges.outside outside;
  works = tt;
  done = λ _. tt;
  rests = λ late. judges.rests late (met (judges.clean late));
  words = λ late unlimited t first. judges.words late (met (judges.clean late)) unlimited t first.1;
  crash = λ late db left. inl (judges.crash late (met (judges.clean late)) db left);
}

outside_told : (cause : StatementFault) → IsOutside (open_fault_of cause)
outside_told Memory = inr refl
outside_told Refused = inl refl

module _ {T : Type 0} (listed : T → List PieceRow) (a b c : State) (x : T) (judges : Judges First a b (Ok x) (λ t y. listed y ≡ t.pieces)) (met : HasCleanDisk a → IsMet First a) where
  module _ (late : HasCleanDisk b) where
    was_met : IsMet First a
    was_met = met (judges.clean late)

    live : IsTrue b.is_open
    live = judges.works late

    still : b.now ≡ a.now
    still = (judges.rests late was_met).now live

    them : (t : Tables) × Stands (seen_by First a.now) t × AreKeptIn 1 t × (listed x ≡ t.pieces)
    them = judges.kept late was_met

    first : IsFirst a.now them.0
    first = (was_met.schema, them.1)

    first_still : IsFirst b.now them.0
    first_still = subst (λ (d : Database). IsFirst d them.0) (sym still) first

    kept_after : AreKept (renewed them.0)
    kept_after =
        let tables = was_met.ours ((judges.rests late was_met).was_open live) in
        renewed_kept them.0 them.2 (own_fields (seen_by First a.now) them.0 (keys_of First a.now them.0 tables them.1) them.1 them.2.readable.lots (keys_of First a.now them.0 tables them.1).lots)

  -- they still hold when their renewal is told
  pub still_first : HoldsFirst b
  still_first late = ((them late).0, first_still late, (them late).2)

  pub renewed_first : {U V E : Type 0} (y : U) (z : V) (ps : List PieceRow) → ps ≡ listed x → Rewrites {E = E} b c ps (Ok y) → Renews a c (Ok z)
  renewed_first y z ps given writes = record {
    clean = λ late. judges.clean (writes.clean late);
    outside = writes.outside;
    works = writes.works;
    done = λ late.
        let mid = writes.clean late in
        ((them mid).0, first mid, (them mid).2, kept_after mid, writes.done late (them mid).0 (first_still mid) (sym (given ∙ (them mid).3)));
    rests = λ _. tt;
    words = λ _ _ _ _. tt;
    crash = λ late db left. elim (writes.crash late (them (writes.clean late)).0 (first_still (writes.clean late)) (sym (given ∙ (them (writes.clean late)).3)) db left) [
      | inl early ↦ inl (judges.crash (writes.clean late) (was_met (writes.clean late)) db early)
      | inr holds ↦ inr ((them (writes.clean late)).0, first (writes.clean late), (them (writes.clean late)).2, kept_after (writes.clean late), holds.0, holds.1 (live (writes.clean late)))
    ];
  }

  pub not_renewed : {U V : Type 0} (cause : StatementFault) (f : OpenFault) → f ≡ open_fault_of cause → (ps : List PieceRow) → ps ≡ listed x → Rewrites {T = U} b c ps (Err cause) → Renews {T = V} a c (Err f)
  not_renewed cause f word ps given writes = record {
    clean = λ late. judges.clean (writes.clean late);
    outside = writes.outside;
    works = tt;
    done = λ _. tt;
    rests = λ late.
        let mid = writes.clean late in
        let before = judges.rests mid (was_met mid) in
        let after = writes.rests late (them mid).0 (first_still mid) (sym (given ∙ (them mid).3)) in
        record { was_open = λ live. before.was_open (after.was_open live); now = λ live. after.now live ∙ before.now (after.was_open live); committed = λ live. after.committed live ∙ before.committed (after.was_open live) };
    words = λ _ _ _ _. inl (subst IsOutside (sym word) (outside_told cause));
    crash = λ late db left. elim (writes.crash late (them (writes.clean late)).0 (first_still (writes.clean late)) (sym (given ∙ (them (writes.clean late)).3)) db left) [
      | inl early ↦ inl (judges.crash (writes.clean late) (was_met (writes.clean late)) db early)
      | inr holds ↦ inr ((them (writes.clean late)).0, first (writes.clean late), (them (writes.clean late)).2, kept_after (writes.clean late), holds.0, holds.1 (live (writes.clean late)))
    ];
  }

-- ---- a registry over tables renewed

pub met_first : (s : State) → s.now.schema ≡ first_schema → (IsTrue s.is_open → HasFirstTables s.now) → IsSettled s → IsMet First s
met_first s schema ours settled = record { schema = schema; ours = ours; settled = settled }

module _ {T : Type 0} (old new : State) (x : T) (renews : Renews old new (Ok x)) where
  tables_renewed : (none : defects new ≡ 0) → tables_in new ≡ renewed (renews.done (sure new none).0).0
  tables_renewed none = decoded new.now (renewed (renews.done (sure new none).0).0) (renews.done (sure new none).0).4.stands

  pub renewed_well : IsLive new → IsWell new
  renewed_well lives = record {
    stands = λ none. subst (Stands new.now) (sym (tables_renewed none)) (renews.done (sure new none).0).4.stands;
    ours = λ none. ours_of new.now (lives (sure new none).1).0 (renews.done (sure new none).0).4.stands.schema;
    kept = λ none. subst AreKept (sym (tables_renewed none)) (renews.done (sure new none).0).3;
    settled = λ none. sym (renews.done (sure new none).0).4.committed;
  }

  -- the state is that of the tables that were there
  pub same_state : (t : Tables) → IsFirst old.now t → defects new ≡ 0 → state_of (tables_in new) ≡ state_of t
  same_state t first none =
      let them = renews.done (sure new none).0 in
      ap state_of (tables_renewed none) ∙ renewed_state them.0 them.2 ∙ ap state_of (one_first old.now them.0 t them.1 first)

  -- they kept their rules, and are renewed
  pub now_renewed : (t : Tables) → IsFirst old.now t → HasCleanDisk new → AreKeptIn 1 t × Settled new (renewed t)
  now_renewed t first late =
      let them = renews.done late in
      subst (λ (u : Tables). AreKeptIn 1 u × Settled new (renewed u)) (one_first old.now them.0 t them.1 first) (them.2, them.4)

-- ---- tables of version 1 are not ours

pub first_not_ours : (db : Database) → db.schema ≡ first_schema → db.schema ≡ registry_schema → ⊥
first_not_ours db is ours =
    let e : 13 ≡ 16 = ap (λ (s : Schema). length s.tables) (sym is ∙ ours) in
    absurd (omega (arith, e))
