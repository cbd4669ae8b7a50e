-- What the named columns of tables hold, read and judged.
use Rattle.std.specs.Prelude.{◌≡◌, ◌⊎◌, ℕ, List, [], ◌∷◌, map}
use Rattle.std.specs.List.{AllZip}
use Rattle.sqlite.specs.Schema.{Schema}
use Rattle.sqlite.specs.Effect.{Database}
use Rattle.sqlite.specs.Tree.{Trees}
use Rattle.goo_tables_rows.specs.Columns.{registry_schema, first_schema}
use Rattle.goo_tables_rows.specs.Rows.{numbered_in, meta_in}
use Rattle.goo_tables_rows.specs.Reads.{numbered_meta_reads, holder_reads, account_reads, device_reads, declaration_reads, lot_reads, piece_reads, peer_reads, withdrawal_reads, notice_out_reads, notice_in_reads, correction_reads, device_carrier_reads, lot_carrier_reads}
use Rattle.goo_tables_rows.specs.declared.meta.MetaRow.{MetaRow}
use Rattle.goo_tables_rows.specs.declared.numbered_meta.NumberedMeta.{NumberedMeta}
use Rattle.goo_store_receipts.specs.Judged.{judged_reads, judged_cancellation_reads}
use Rattle.goo_store_open.specs.Layout.{number_of}
use Rattle.goo_store_open.specs.declared.layout.Layout.{Layout}
use Rattle.goo_store_open.specs.declared.layout.Layout.TheVariants.{First, Ours}
use Rattle.goo_store_open.specs.declared.rows.Members.{Members}
use Rattle.goo_store_open.specs.declared.rows.Production.{Production}
use Rattle.goo_store_open.specs.declared.rows.Acts.{Acts}
use Rattle.goo_store_open.specs.declared.rows.Notices.{Notices}
use Rattle.goo_store_open.specs.declared.rows.Carriers.{Carriers}
use Rattle.goo_store_open.specs.declared.rows.AllRows.{AllRows}
use Rattle.goo_store_open.specs.declared.finding.Found.{Found}
use Rattle.goo_store_rules.specs.Rules.{KeepsRules}
use Rattle.goo_store_anew.specs.declared.answers.Answer.{Answer}
use Rattle.goo_store_anew.specs.Answered.{rows_at, AreAnswers, IsSameIn}

-- the rows in an answer's place read as these
pub record ReadsMembers (answers : List Answer) (x : Members) : Type 0 where
  pub holders : AllZip holder_reads (rows_at answers 1) x.holders.items
  pub accounts : AllZip account_reads (rows_at answers 2) x.accounts.items
  pub peers : AllZip peer_reads (rows_at answers 7) x.peers.items

pub record ReadsProduction (answers : List Answer) (x : Production) : Type 0 where
  pub devices : AllZip device_reads (rows_at answers 3) x.devices.items
  pub declarations : AllZip declaration_reads (rows_at answers 4) x.declarations.items
  pub corrections : AllZip correction_reads (rows_at answers 13) x.corrections.items
  pub lots : AllZip (lot_reads 0) (rows_at answers 5) x.lots.items
  pub pieces : AllZip piece_reads (rows_at answers 6) x.pieces.items

pub record ReadsActs (answers : List Answer) (x : Acts) : Type 0 where
  pub receipts : AllZip judged_reads (rows_at answers 8) x.receipts.items
  pub cancellations : AllZip judged_cancellation_reads (rows_at answers 9) x.cancellations.items
  pub withdrawals : AllZip withdrawal_reads (rows_at answers 10) x.withdrawals.items

pub record ReadsNotices (answers : List Answer) (x : Notices) : Type 0 where
  pub sent : AllZip notice_out_reads (rows_at answers 11) x.sent.items
  pub came : AllZip notice_in_reads (rows_at answers 12) x.came.items

pub record ReadsCarriers (answers : List Answer) (x : Carriers) : Type 0 where
  pub devices : AllZip device_carrier_reads (rows_at answers 14) x.devices.items
  pub lots : AllZip lot_carrier_reads (rows_at answers 15) x.lots.items

pub record ReadsRows (answers : List Answer) (x : AllRows) : Type 0 where
  pub members : ReadsMembers answers x.members
  pub production : ReadsProduction answers x.production
  pub acts : ReadsActs answers x.acts
  pub notices : ReadsNotices answers x.notices
  pub carriers : ReadsCarriers answers x.carriers

-- the only row of `meta`, under the number 1
abbrev pub IsOnlyRow : List NumberedMeta → MetaRow → Type 0
IsOnlyRow rows m = map numbered_in rows ≡ record { id = 1; meta = meta_in m } ∷ []

abbrev pub ReadsMeta : List Answer → MetaRow → Type 0
ReadsMeta answers m = (rows : List NumberedMeta) × AllZip numbered_meta_reads (rows_at answers 0) rows × IsOnlyRow rows m

-- all that was answered reads as this
pub record ReadsAs (answers : List Answer) (x : Found) : Type 0 where
  pub meta : ReadsMeta answers x.meta
  pub rows : ReadsRows answers x.rows

-- what was answered reads as rows of this version, which keep its rules
pub record IsJudged (layout : Layout) (answers : List Answer) (x : Found) : Type 0 where
  pub read : ReadsAs answers x
  pub version : x.meta.version ≡ number_of layout
  pub rules : KeepsRules (number_of layout) x

abbrev pub IsRegistry : Layout → List Answer → Type 0
IsRegistry layout answers = (x : Found) × IsJudged layout answers x

-- tables in our own form, of either version
abbrev pub IsOurs : Schema → Type 0
IsOurs schema = (schema ≡ registry_schema) ⊎ (schema ≡ first_schema)

-- how many tables a registry of a version has
abbrev pub count_of : Layout → ℕ
count_of First = 13
count_of Ours = 16

-- what the named columns of a database hold is a registry of this version
abbrev pub HoldsRegistry : Layout → Database → Type 0
HoldsRegistry layout db = (answers : List Answer) × AreAnswers (count_of layout) db answers × IsRegistry layout answers

-- trees of a database whose tables have the same rows as this one, which is a registry
abbrev pub HoldSame : Database → Trees → Type 0
HoldSame db trees = (layout : Layout) × HoldsRegistry layout db × (after : Database) × (trees ≡ after.trees) × IsSameIn (count_of layout) db after
