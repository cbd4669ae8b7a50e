-- Changes that carry out a command.
use Rattle.std.specs.Prelude.{◌≡◌, ℕ, List, Option, None, IsSome, IsTrue}
use Rattle.sqlite_keyed.specs.Keyed.{IsKeyedBy}
use Rattle.goo_types.specs.Notice.{NoticeContents}
use Rattle.goo_types.specs.declared.command.Command.{Command}
use Rattle.goo_types.specs.declared.command.Command.TheVariants.{OpenAccount, Declare, Correct, Cancel, Withdraw, Export, Import}
use Rattle.goo_spec.specs.Step.{refusal, changed}
use Rattle.goo_tables_rows.specs.Rows.{Tables, kept_key, account_key, declaration_key, lot_key, piece_key, cancellation_key, withdrawal_key, notice_out_key, correction_key}
use Rattle.goo_tables_rows.specs.declared.meta.MetaRow.{MetaRow}
use Rattle.goo_tables_accounts.specs.declared.counters.CountersRow.{CountersRow}
use Rattle.goo_spec_tables.specs.Kept.{AreKept}
use Rattle.goo_spec_tables.specs.Readable.{is_act}
use Rattle.goo_spec_tables.specs.States.{state_of}
use Rattle.goo_store_plans.specs.Acted.{IsActed}
use Rattle.goo_store_plans.specs.Room.{HaveRowids}
use Rattle.goo_store_changes.specs.Changes.{made_all, AreFor, AreFree, HaveRoom}
use Rattle.goo_store_changes.specs.declared.table_change.TableChange.{TableChange}

-- the rows of each table come in the order of their keys
pub record AreInOrder (t : Tables) : Type 0 where
  pub holders : IsKeyedBy kept_key t.holders
  pub accounts : IsKeyedBy account_key t.accounts
  pub devices : IsKeyedBy kept_key t.devices
  pub declarations : IsKeyedBy declaration_key t.declarations
  pub lots : IsKeyedBy lot_key t.lots
  pub pieces : IsKeyedBy piece_key t.pieces
  pub peers : IsKeyedBy kept_key t.peers
  pub receipts : IsKeyedBy kept_key t.receipts
  pub cancellations : IsKeyedBy cancellation_key t.cancellations
  pub withdrawals : IsKeyedBy withdrawal_key t.withdrawals
  pub notices_out : IsKeyedBy notice_out_key t.notices_out
  pub notices_in : IsKeyedBy kept_key t.notices_in
  pub corrections : IsKeyedBy correction_key t.corrections

-- they can be made in turn, each where it is free and has room, they change what the command does, and they put no lot in
pub record Carry (t : Tables) (command : Command) (changes : List TableChange) : Type 0 where
  pub for : AreFor t changes
  pub free : AreFree t changes
  pub room : HaveRowids t → HaveRoom t changes
  pub acted : IsActed t (made_all t changes) (changed (state_of t) command)
  pub lots : (made_all t changes).lots ≡ t.lots

-- they do so in tables that keep the rules, whoever's request it is, where it is accepted
abbrev pub Does : Tables → Command → List TableChange → Type 0
Does t command changes = AreKept t → AreInOrder t → (caller : List ℕ) → refusal (state_of t) caller command ≡ None → Carry t command changes

-- the next numbers in the registry's row
abbrev pub counters_in : MetaRow → CountersRow
counters_in m = record {
  next_serial = m.next_serial;
  next_account = m.next_account;
  next_cancellation = m.next_cancellation;
  next_withdrawal = m.next_withdrawal;
  next_notice = m.next_notice;
}

-- the command takes a number that isn't used up, and the notice that it sends is there
abbrev pub CanTakeNumber : MetaRow → Command → Option NoticeContents → Type 0
CanTakeNumber m (OpenAccount x) notice = IsTrue (is_act m.next_account)
CanTakeNumber m (Cancel x) notice = IsTrue (is_act m.next_cancellation)
CanTakeNumber m (Withdraw x) notice = IsTrue (is_act m.next_withdrawal)
CanTakeNumber m (Export x) notice = IsTrue (is_act m.next_notice) × IsSome notice
CanTakeNumber m _ notice = ⊥

-- the command needs nothing of the registry's row, and puts no lot in
abbrev pub IsPlain : Command → Type 0
IsPlain (OpenAccount x) = ⊥
IsPlain (Cancel x) = ⊥
IsPlain (Withdraw x) = ⊥
IsPlain (Export x) = ⊥
IsPlain (Declare x) = ⊥
IsPlain (Correct x) = ⊥
IsPlain (Import x) = ⊥
IsPlain _ = Unit {0}
