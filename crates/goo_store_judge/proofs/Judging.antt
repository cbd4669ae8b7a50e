-- From what was found and judged to what opening says.
use Rattle.std.specs.Prelude.{◌↔◌, ◌<◌, ◌^◌, pos, true}
use Rattle.std.specs.List.{list_all}
use Rattle.std.proofs.lemmas.Bool.{and_parts}
use Rattle.std.proofs.Common.{◌≡◌, arith, inl, inr, None, Ok, Err, Result, IfErr, IsTrue, refl, sym, ap, subst, ◌∙◌, true≢false}
use Rattle.sqlite.specs.State.{State, HasCleanDisk}
use Rattle.sqlite.specs.Effect.{Database}
use Rattle.goo_tables_rows.specs.Rows.{Tables, tables_of, meta_in, holder_in, account_in, device_in, declaration_in, lot_in}
use Rattle.goo_tables_rows.specs.Met.{HasOurTables}
use Rattle.goo_tables_rows.specs.Columns.{registry_schema}
use Rattle.goo_tables_rows.specs.Stands.{Stands, IsSettled, AreOurs, defects}
use Rattle.goo_tables_rows.proofs.Catalogued.{ours_of}
use Rattle.goo_tables_rows.proofs.Decoded.{decoded}
use Rattle.goo_ranges_rows.proofs.CertificateLemmas.{certificates-rows}
use Rattle.goo_ranges_rows.specs.Rows.{AreRowsOf}
use Rattle.goo_spec_tables.specs.Kept.{AreKept, AreKeptIn}
use Rattle.goo_spec_tables.specs.Places.{rows_of}
use Rattle.goo_spec_tables.specs.States.{state_of}
use Rattle.goo_store_open.specs.Found.{AreOf, Finds, IsWord, ShowsTables, HasStoreFailed}
use Rattle.goo_store_open.specs.Layout.{number_of, seen_by, HasTables}
use Rattle.goo_store_open.specs.Reading.{IsMet}
use Rattle.goo_store_open.specs.declared.fault.OpenFault.{OpenFault}
use Rattle.goo_store_open.specs.declared.fault.OpenFault.TheVariants.{Damaged, Store}
use Rattle.goo_store_open.specs.declared.finding.Found.{Found}
use Rattle.goo_store_open.specs.declared.layout.Layout.{Layout}
use Rattle.goo_store_open.specs.declared.layout.Layout.TheVariants.{First, Ours}
use Rattle.goo_spec_tables.specs.Readable.{is_meta, is_holder, is_account, is_peer, is_device, is_declaration, is_lot, is_piece}
use Rattle.goo_store_rules.specs.Keeping.{has_good_values}
use Rattle.goo_store_rules.specs.Rules.{KeepsRules, HaveOwnKeys, RulesAreThose}
use Rattle.goo_store_rules.proofs.CanBeRead.{kept_can_be_read_in}
use Rattle.goo_store_rules.proofs.KeptKeys.{own_keys}
use Rattle.goo_tables_rows.proofs.Unique.{first_device}
use Rattle.goo_tables_rows.proofs.UniqueLots.{first_lot}
use Rattle.goo_store_judge.specs.Moments.{IsWell, tables_in}
use Rattle.goo_store_judge.specs.Opening.{BlamesOpening, IsRefusalIn, Judges}
use Rattle.goo_store_judge.specs.Holding.{sure}

pub met_ours : (s : State) → s.now.schema ≡ registry_schema → (IsTrue s.is_open → HasOurTables s.now) → IsSettled s → IsMet Ours s
met_ours s schema ours settled = record { schema = schema; ours = ours; settled = settled }

-- a database holds one set of tables
one_of : (db : Database) (t u : Tables) → Stands db t → Stands db u → t ≡ u
one_of db t u a b = sym (decoded db t a) ∙ decoded db u b

small : (layout : Layout) → number_of layout < 2 ^ 32
small First = omega arith
small Ours = omega arith

-- tables that can't be read don't keep the rules
refusal_of : (layout : Layout) (db : Database) (t : Tables) (f : OpenFault) → Stands db t → IsWord layout t f → IsRefusalIn (number_of layout) t f
refusal_of layout db t f stands (inl outside) = inl outside
refusal_of layout db t f stands (inr (inl unread)) = inr (inl (unread.0, ((λ kept. unread.1 (kept_can_be_read_in (number_of layout) (small layout) db t stands kept)), (λ can. absurd (unread.1 can)))))
refusal_of layout db t f stands (inr (inr other)) = inr (inr other)

-- a database of either version has keys of its own
pub keys_of : (layout : Layout) (db : Database) (t : Tables) → HasTables layout db → Stands (seen_by layout db) t → HaveOwnKeys t
keys_of First db t it stands = record { devices = λ gsrn. first_device db t gsrn it.sound (it.schema, stands); lots = λ origin device first_day. first_lot db t origin device first_day it.sound (it.schema, stands) }
keys_of Ours db t it stands = own_keys db t it.sound stands

-- only where the disk failed in this call, if the connection was open
blamed : {T : Type 0} (old new : State) (r : Result T OpenFault) → (HasCleanDisk new → old.step_limit ≡ None → IfErr r (λ f. f ≡ Store → HasStoreFailed old new)) → IfErr r (BlamesOpening old new)
blamed old new (Ok x) blames = tt
blamed old new (Err f) blames = λ clean live unlimited is. elim (blames clean unlimited is) [ inl more ↦ more | inr shut ↦ absurd (true≢false (sym live ∙ shut)) ]

-- another word than `Store`
unblamed : (old new : State) (f : OpenFault) → (f ≡ Store → ⊥) → BlamesOpening old new f
unblamed old new f other clean live unlimited is = absurd (other is)

-- pieces of good values
pub good_pieces : (x : Found) → has_good_values x ≡ true → list_all is_piece x.rows.production.pieces.items ≡ true
good_pieces x good =
    let meta = and_parts (is_meta (meta_in x.meta)) _ good in
    let holders = and_parts (list_all (λ row. is_holder (pos 0, holder_in row)) x.rows.members.holders.items) _ meta.1 in
    let accounts = and_parts (list_all (λ row. is_account (account_in row)) x.rows.members.accounts.items) _ holders.1 in
    let peers = and_parts (list_all (λ row. is_peer (pos 0, row)) x.rows.members.peers.items) _ accounts.1 in
    let devices = and_parts (list_all (λ row. is_device (pos 0, device_in row)) x.rows.production.devices.items) _ peers.1 in
    let declarations = and_parts (list_all (λ row. is_declaration (declaration_in row)) x.rows.production.declarations.items) _ devices.1 in
    let lots = and_parts (list_all (λ row. is_lot (lot_in row)) x.rows.production.lots.items) _ declarations.1 in
    (and_parts (list_all is_piece x.rows.production.pieces.items) _ lots.1).0

module _ (rules : RulesAreThose) (layout : Layout) (old new : State) where
  module _ {T : Type 0} (Tells : Tables → T → Type 0) (x : Found) (finds : Finds layout old new (Ok x) (ShowsTables layout)) where
    judged : (clean : HasCleanDisk new) (met : IsMet layout old) → KeepsRules (number_of layout) x ↔ AreKeptIn (number_of layout) (finds.seen clean met).0
    judged clean met =
        let seen = finds.seen clean met in
        rules (number_of layout) (seen_by layout old.now) seen.0 x seen.1 (keys_of layout old.now seen.0 (met.ours ((finds.rests clean met).was_open (finds.works clean))) seen.1) seen.2 seen.3

    same_tables : (clean : HasCleanDisk new) (met : IsMet layout old) (t : Tables) → Stands (seen_by layout old.now) t → t ≡ (finds.seen clean met).0
    same_tables clean met t stands = one_of (seen_by layout old.now) t (finds.seen clean met).0 stands (finds.seen clean met).1

    -- what was read keeps the rules
    pub judged_right : (y : T) → KeepsRules (number_of layout) x → ((t : Tables) → AreOf t x → Tells t y) → Judges layout old new (Ok y) Tells
    judged_right y keeps tells = record {
      clean = finds.clean;
      outside = finds.outside;
      rests = finds.rests;
      works = finds.works;
      kept = λ clean met.
          let seen = finds.seen clean met in
          (seen.0, seen.1, (judged clean met).0 keeps, tells seen.0 seen.2);
      right = λ _ _ _ _ _ _. tt;
      words = λ _ _ _ _ _. tt;
      crash = finds.crash;
      blames = λ _. tt;
    }

    -- it doesn't
    pub judged_wrong : (KeepsRules (number_of layout) x → ⊥) → Judges layout old new (Err Damaged) Tells
    judged_wrong wrong = record {
      clean = finds.clean;
      outside = finds.outside;
      rests = finds.rests;
      works = tt;
      kept = λ _ _. tt;
      right = λ clean met _ t stands kept. absurd (wrong ((judged clean met).1 (subst (AreKeptIn (number_of layout)) (same_tables clean met t stands) kept)));
      words = λ clean met _ t stands.
          let same = same_tables clean met t stands in
          inr (inl (
            refl,
            (
              (λ kept. wrong ((judged clean met).1 (subst (AreKeptIn (number_of layout)) same kept))),
              (λ can. ap (λ (u : Tables). u.meta.version) same ∙ (finds.seen clean met).3),
            ),
          ));
      crash = finds.crash;
      blames = λ _. unblamed old new Damaged (λ same. absurd cc);
    }

  -- the tables weren't found
  pub not_judged : {T : Type 0} (Tells : Tables → T → Type 0) (f : OpenFault) → Finds {T = Found} layout old new (Err f) (ShowsTables layout) → Judges layout old new (Err f) Tells
  not_judged {T = T} Tells f finds = record {
    clean = finds.clean;
    outside = finds.outside;
    rests = finds.rests;
    works = tt;
    kept = λ _ _. tt;
    right = λ clean met unlimited t stands kept. finds.right clean met unlimited t stands (kept_can_be_read_in (number_of layout) (small layout) (seen_by layout old.now) t stands kept, kept.readable.version);
    words = λ clean met unlimited t stands. refusal_of layout (seen_by layout old.now) t f stands (finds.words clean met unlimited t stands);
    crash = finds.crash;
    blames = λ met. blamed {T = T} old new (Err f) (λ clean. finds.blames clean (met clean));
  }

module _ {T : Type 0} (Tells : Tables → T → Type 0) (old new : State) (y : T) (judges : Judges Ours old new (Ok y) Tells) (met : HasCleanDisk old → IsMet Ours old) where
  before : defects new ≡ 0 → IsMet Ours old
  before none = met (judges.clean (sure new none).0)

  pub now_same : defects new ≡ 0 → new.now ≡ old.now
  now_same none = (judges.rests (sure new none).0 (before none)).now (sure new none).1

  its_tables : (none : defects new ≡ 0) → tables_in new ≡ (judges.kept (sure new none).0 (before none)).0
  its_tables none =
      ap (λ (d : Database). tables_of d.trees) (now_same none)
      ∙ decoded old.now (judges.kept (sure new none).0 (before none)).0 (judges.kept (sure new none).0 (before none)).1

  pub opened_well : IsWell new
  opened_well = record {
    stands = λ none.
        let them = judges.kept (sure new none).0 (before none) in
        subst (Stands new.now) (sym (its_tables none)) (subst (λ (d : Database). Stands d them.0) (sym (now_same none)) them.1);
    ours = λ none.
        let tables = (before none).ours ((judges.rests (sure new none).0 (before none)).was_open (sure new none).1) in
        subst (λ (d : Database). AreOurs d.trees) (sym (now_same none)) (ours_of old.now tables.sound tables.schema);
    kept = λ none. subst AreKept (sym (its_tables none)) (judges.kept (sure new none).0 (before none)).2;
    settled = λ none.
        let rests = judges.rests (sure new none).0 (before none) in
        let live = (sure new none).1 in
        now_same none ∙ (before none).settled (rests.was_open live) ∙ sym (rests.committed live);
  }

  -- the state is that of the tables that were there
  pub opened_state : (t : Tables) → Stands old.now t → defects new ≡ 0 → state_of (tables_in new) ≡ state_of t
  opened_state t stands none = ap state_of (ap (λ (d : Database). tables_of d.trees) (now_same none) ∙ decoded old.now t stands)

  -- tables that don't keep the rules aren't opened
  pub opened_kept : (t : Tables) → Stands old.now t → HasCleanDisk new → AreKept t
  opened_kept t stands clean =
      let them = judges.kept clean (met (judges.clean clean)) in
      subst AreKept (one_of old.now them.0 t them.1 stands) them.2

-- the rows of tables that keep the rules are those of the state's certificates
pub rows_fit : (t : Tables) → AreKept t → AreRowsOf (state_of t).at (rows_of t)
unfolding state_of
rows_fit t kept = certificates-rows (rows_of t) kept.rising
