-- From the rows that were read to the tables that hold them.
use Rattle.std.proofs.Common.{◌≡◌, ◌⊎◌, ◌∷◌, [], List, inl, inr, map, Ok, Err, Result, IfOk, IfErr, IsTrue, refl, sym, ap, ◌∙◌}
use Rattle.sqlite.specs.State.{State}
use Rattle.sqlite.specs.Effect.{Database}
use Rattle.sqlite.specs.Order.{Row, column}
use Rattle.sqlite.specs.declared.error.Error.{Error}
use Rattle.sqlite.specs.declared.error.Error.TheVariants.{SqliteFailure}
use Rattle.sqlite.specs.declared.error.ErrorCode.TheVariants.{OutOfMemory}
use Rattle.goo_tables_rows.specs.Readable.{is_read_error}
use Rattle.goo_tables_rows.specs.Rows.{Tables, Meta, Numbered, meta_row, meta_at, numbered_row, numbered_key, meta_in, account_in, declaration_in, lot_in, withdrawal_in, notice_out_in, correction_in, lot_carrier_in, device_in, carried_device, carried_lot}
use Rattle.goo_tables_rows.specs.Columns.{registry_schema}
use Rattle.goo_tables_rows.specs.Cells.{number_in}
use Rattle.goo_tables_rows.specs.Refused.{IsFault, is_store_error}
use Rattle.goo_tables_rows.specs.Stands.{Keeps}
use Rattle.goo_tables_rows.specs.declared.meta.MetaRow.{MetaRow}
use Rattle.goo_store_open.specs.Layout.{number_of, schema_of, seen_by}
use Rattle.goo_store_open.specs.Reading.{CanBeRead, OnlyReads}
use Rattle.goo_store_open.specs.Shown.{ShowsAll}
use Rattle.goo_store_open.specs.Found.{Finds, ShowsMeta, ShowsTables, IsOutside, IsWord, HasStoreFailed}
use Rattle.goo_store_open.specs.declared.rows.AllRows.{AllRows}
use Rattle.goo_store_open.specs.declared.fault.OpenFault.{OpenFault}
use Rattle.goo_store_open.specs.declared.fault.OpenFault.TheVariants.{Damaged, Store, Memory}
use Rattle.goo_store_open.specs.declared.layout.Layout.{Layout}
use Rattle.goo_store_open.specs.declared.layout.Layout.TheVariants.{First, Ours}
use Rattle.goo_store_open.proofs.Carrying.{devices_kept, devices_carried, devices_bare, lots_kept, lots_carried, lots_bare}
use Rattle.goo_store_open.proofs.Chaining.{reads_then}

abbrev tables : (m : MetaRow) (db : Database) (x : AllRows) → ShowsAll db x → Tables
tables m db x shows = record {
  meta = meta_in m;
  holders = shows.members.holders.0;
  accounts = map account_in x.members.accounts.items;
  devices = map (carried_device shows.carriers.devices.0) shows.production.devices.0;
  declarations = map declaration_in x.production.declarations.items;
  lots = map (carried_lot (map lot_carrier_in x.carriers.lots.items)) (map lot_in x.production.lots.items);
  pieces = x.production.pieces.items;
  peers = shows.members.peers.0;
  receipts = shows.acts.receipts.0;
  cancellations = shows.acts.cancellations.0;
  withdrawals = map withdrawal_in x.acts.withdrawals.items;
  notices_out = map notice_out_in x.notices.sent.items;
  notices_in = shows.notices.came.0;
  corrections = map correction_in x.production.corrections.items;
  device_carriers = shows.carriers.devices.0;
  lot_carriers = map lot_carrier_in x.carriers.lots.items;
}

earned : (layout : Layout) (db : Database) (m : MetaRow) (x : AllRows) → db.schema ≡ registry_schema → ShowsMeta layout db m → ShowsAll db x → ShowsTables layout db (record { meta = m; rows = x })
earned layout db m x ours one all = (
  tables m db x all,
  record {
    schema = ours;
    meta = one.only;
    holders = all.members.holders.1;
    accounts = all.members.accounts;
    devices = devices_kept all.carriers.devices.0 (db.trees 4) all.production.devices.0 all.production.devices.1;
    declarations = all.production.declarations;
    lots = lots_kept (map lot_carrier_in x.carriers.lots.items) (db.trees 8) (map lot_in x.production.lots.items) all.production.lots;
    pieces = all.production.pieces;
    peers = all.members.peers.1;
    receipts = all.acts.receipts.1;
    cancellations = all.acts.cancellations.1;
    withdrawals = all.acts.withdrawals;
    notices_out = all.notices.sent;
    notices_in = all.notices.came.1;
    corrections = all.production.corrections;
    device_carriers = all.carriers.devices.1;
    lot_carriers = all.carriers.lots;
    devices_carried = devices_carried all.carriers.devices.0 all.production.devices.0;
    lots_carried = lots_carried (map lot_carrier_in x.carriers.lots.items) (map lot_in x.production.lots.items);
  },
  record {
    meta = refl;
    holders = sym all.members.holders.2;
    accounts = refl;
    peers = sym all.members.peers.2;
    devices = devices_bare all.carriers.devices.0 all.production.devices.0 (map device_in x.production.devices.items) all.production.devices.2 all.production.bare_devices;
    declarations = refl;
    lots = lots_bare (map lot_carrier_in x.carriers.lots.items) (map lot_in x.production.lots.items) all.production.bare_lots;
    pieces = refl;
    receipts = all.acts.receipts.2;
    cancellations = all.acts.cancellations.2;
    withdrawals = refl;
    notices_out = refl;
    notices_in = sym all.notices.came.2;
    corrections = refl;
    device_carriers = sym all.carriers.devices.2;
    lot_carriers = refl;
  },
  one.version,
)

-- seen as tables of version 2
ours_seen : (layout : Layout) (db : Database) → db.schema ≡ schema_of layout → (seen_by layout db).schema ≡ registry_schema
ours_seen First db is = refl
ours_seen Ours db is = is

-- a fault of memory or of the store is none of the tables'
not_damaged : (f : OpenFault) → f ≡ Damaged → IsOutside f → ⊥
not_damaged f is (inl store) = absurd (apart (sym is ∙ store))
  where
    apart : Damaged ≡ Store → ⊥
    apart same = absurd cc
not_damaged f is (inr memory) = absurd (apart (sym is ∙ memory))
  where
    apart : Damaged ≡ Memory → ⊥
    apart same = absurd cc

-- the word where a value can't be read and where a table is missing is the same
once : (f : OpenFault) → IsOutside f ⊎ ((f ≡ Damaged) ⊎ (f ≡ Damaged)) → IsOutside f ⊎ (f ≡ Damaged)
once f (inl out) = inl out
once f (inr (inl is)) = inr is
once f (inr (inr is)) = inr is

-- a word from outside or `Damaged`, where tables that can be read are refused from outside alone
unread_word : (layout : Layout) (t : Tables) (f : OpenFault) → IsOutside f ⊎ (f ≡ Damaged) → (CanBeRead t → IsOutside f) → IsWord layout t f
unread_word layout t f (inl outside) readable = inl outside
unread_word layout t f (inr damaged) readable = inr (inl (damaged, λ can. not_damaged f damaged (readable can)))

-- `Store` is neither `Memory` nor `Damaged`
store_apart : (f : OpenFault) → (f ≡ Memory) ⊎ (f ≡ Damaged) → f ≡ Store → ⊥
store_apart f (inl memory) is = absurd (apart (sym is ∙ memory))
  where
    apart : Store ≡ Memory → ⊥
    apart same = absurd cc
store_apart f (inr damaged) is = absurd (apart (sym is ∙ damaged))
  where
    apart : Store ≡ Damaged → ⊥
    apart same = absurd cc

-- a statement failed
module _ (a c : State) (e : Error) (f : OpenFault) (memory : e ≡ SqliteFailure OutOfMemory → f ≡ Memory) (store : IsTrue (is_store_error e) → f ≡ Store) where
  outside_of : IsFault a c e → IsOutside f
  outside_of (inl want) = inr (memory want)
  outside_of (inr fault) = inl (store fault.0)

  -- `Store` is told only where the store failed
  blamed_of : (IsTrue (is_read_error e) → f ≡ Damaged) → IsFault a c e ⊎ IsTrue (is_read_error e) → f ≡ Store → HasStoreFailed a c
  blamed_of unread (inl (inl want)) is = absurd (store_apart f (inl (memory want)) is)
  blamed_of unread (inl (inr fault)) is = fault.1
  blamed_of unread (inr wrong) is = absurd (store_apart f (inr (unread wrong)) is)

  told_of : (IsTrue (is_read_error e) → f ≡ Damaged) → IsFault a c e ⊎ IsTrue (is_read_error e) → IsOutside f ⊎ (f ≡ Damaged)
  told_of unread (inl fault) = inl (outside_of fault)
  told_of unread (inr wrong) = inr (unread wrong)

  pub row_unread : {T : Type 0} (layout : Layout) (Shows : Database → T → Type 0) → OnlyReads layout a c (Err e) Shows → (IsTrue (is_read_error e) → f ≡ Damaged) → Finds layout a c (Err f) (ShowsMeta layout)
  row_unread layout Shows base unread = record {
    clean = base.clean;
    outside = base.outside;
    rests = base.rests;
    works = tt;
    seen = λ _ _. tt;
    crash = base.crash;
    counts = base.counts;
    limit = base.limit;
    right = λ clean it unlimited t stands good. outside_of (base.faulty clean it unlimited t stands good.0);
    words = λ clean it unlimited t stands. unread_word layout t f (told_of unread (base.refused clean it unlimited)) (λ can. outside_of (base.faulty clean it unlimited t stands can));
    blames = λ clean it unlimited. blamed_of unread (base.refused clean it unlimited);
  }

-- a row of `meta` as it is read
abbrev numbered_at : Row → Numbered
numbered_at r = record { id = number_in (column r 0); meta = meta_at r }

-- rows that stand for one are one
one_row : (xs : List Numbered) (m : Meta) → meta_row m ∷ [] ≡ map numbered_row xs → xs ≡ record { id = 1; meta = m } ∷ []
one_row [] m is = absurd cc
one_row (n ∷ []) m is = sym (ap (map numbered_at) is)
one_row (n ∷ o ∷ ns) m is = absurd cc

-- the rows of `meta` were read, and are a registry's or not
pub row_found : {T : Type 0} (layout : Layout) (a c : State) (x : T) (listed : T → List Numbered) (q : Result MetaRow OpenFault)
    → OnlyReads layout a c (Ok x) (λ db y. Keeps (db.trees 0) numbered_row numbered_key (listed y))
    → IfOk q (λ m. listed x ≡ record { id = 1; meta = meta_in m } ∷ []) → IfOk q (λ m. m.version ≡ number_of layout)
    → ((m : Meta) → listed x ≡ record { id = 1; meta = m } ∷ [] → m.version ≡ number_of layout → IfErr q (λ _. ⊥)) → IfErr q (λ f. f ≡ Store → ⊥)
    → ((t : Tables) → listed x ≡ record { id = 1; meta = t.meta } ∷ [] → IfErr q (IsWord layout t)) → Finds layout a c q (ShowsMeta layout)
row_found layout a c x listed (Ok m) reads only version refused unblamed words = record {
  clean = reads.clean;
  outside = reads.outside;
  rests = reads.rests;
  works = reads.works;
  seen = λ clean it. record { only = (reads.seen clean it).are ∙ ap (map numbered_row) only; version = version };
  crash = reads.crash;
  counts = reads.counts;
  limit = reads.limit;
  right = λ _ _ _ _ _ _. tt;
  words = λ _ _ _ _ _. tt;
  blames = λ _ _ _. tt;
}
row_found layout a c x listed (Err f) reads only version refused unblamed words = record {
  clean = reads.clean;
  outside = reads.outside;
  rests = reads.rests;
  works = tt;
  seen = λ _ _. tt;
  crash = reads.crash;
  counts = reads.counts;
  limit = reads.limit;
  right = λ clean it unlimited t stands good. absurd (refused t.meta (one_row (listed x) t.meta (sym stands.meta ∙ (reads.seen clean it).are)) good.1);
  words = λ clean it unlimited t stands. words t (one_row (listed x) t.meta (sym stands.meta ∙ (reads.seen clean it).are));
  blames = λ _ _ _ is. absurd (unblamed is);
}

module _ (layout : Layout) (a b c : State) (m : MetaRow) (one : Finds layout a b (Ok m) (ShowsMeta layout)) where
  first : OnlyReads layout a b (Ok m) (ShowsMeta layout)
  first = record { clean = one.clean; outside = one.outside; rests = one.rests; works = one.works; seen = one.seen; crash = one.crash; counts = one.counts; limit = one.limit; refused = λ _ _ _. tt; faulty = λ _ _ _ _ _ _. tt }

  -- all was read
  pub found : (x : AllRows) → OnlyReads layout b c (Ok x) ShowsAll → Finds layout a c (Ok (record { meta = m; rows = x })) (ShowsTables layout)
  found x two =
      let both = reads_then layout a b c m (Ok x) (ShowsMeta layout) ShowsAll first two in
      record {
        clean = both.clean;
        outside = both.outside;
        rests = both.rests;
        works = both.works;
        seen = λ clean it.
            let seen = both.seen clean it in
            earned layout (seen_by layout a.now) m x (ours_seen layout a.now it.schema) seen.0 seen.1;
        crash = both.crash;
        counts = both.counts;
        limit = both.limit;
        right = λ _ _ _ _ _ _. tt;
        words = λ _ _ _ _ _. tt;
        blames = λ _ _ _. tt;
      }

  -- the rows of the tables weren't read
  pub not_found : (e : Error) (f : OpenFault) → OnlyReads layout b c (Err e) ShowsAll → (e ≡ SqliteFailure OutOfMemory → f ≡ Memory) → (IsTrue (is_store_error e) → f ≡ Store) → (IsTrue (is_read_error e) → f ≡ Damaged)
      → IsOutside f ⊎ ((f ≡ Damaged) ⊎ (f ≡ Damaged)) → Finds layout a c (Err f) (ShowsTables layout)
  not_found e f two memory store unread said =
      let both = reads_then layout a b c m (Err e) (ShowsMeta layout) ShowsAll first two in
      record {
        clean = both.clean;
        outside = both.outside;
        rests = both.rests;
        works = tt;
        seen = λ _ _. tt;
        crash = both.crash;
        counts = both.counts;
        limit = both.limit;
        right = λ clean it unlimited t stands good. outside_of a c e f memory store (both.faulty clean it unlimited t stands good.0);
        words = λ clean it unlimited t stands. unread_word layout t f (once f said) (λ can. outside_of a c e f memory store (both.faulty clean it unlimited t stands can));
        blames = λ clean it unlimited. blamed_of a c e f memory store unread (both.refused clean it unlimited);
      }
