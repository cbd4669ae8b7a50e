-- What a shelf in memory keeps.
use Rattle.std.specs.Prelude.{◌≡◌, Result, OnOk, OnErr, IfErr}
use Rattle.std.specs.Ordering.{nat_cmp}
use Rattle.goo_types.specs.declared.fault.Fault.{Fault}
use Rattle.goo_types.specs.declared.fault.Fault.TheVariants.{Memory}
use Rattle.goo_spec.specs.State.{State, text_cmp, receipt_cmp, notice_cmp}
use Rattle.goo_core_shelf.specs.Maps.{map_of}
use Rattle.goo_ranges_rows.specs.Certificates.{certificates_of}
use Rattle.goo_core_list.specs.declared.list_shelf.ListShelf.{ListShelf}

-- what the registry knows
unfoldable pub state_of : ListShelf → State
state_of s = record {
  own = s.own;
  today = s.today;
  next_serial = s.counters.serial;
  next_account = s.counters.account;
  next_cancellation = s.counters.cancellation;
  next_withdrawal = s.counters.withdrawal;
  next_notice = s.counters.notice;
  at = certificates_of s.rows.pieces;
  lots = map_of text_cmp s.lots;
  holders = map_of text_cmp s.holders;
  accounts = map_of nat_cmp s.accounts;
  devices = map_of text_cmp s.devices;
  declarations = s.production;
  corrections = s.corrections;
  peers = map_of nat_cmp s.peers;
  receipts = map_of receipt_cmp s.receipts;
  arrived = map_of notice_cmp s.arrived;
  sent = map_of nat_cmp s.sent;
  cancellations = map_of nat_cmp s.cancellations;
  withdrawals = map_of nat_cmp s.withdrawals;
}

-- a change of all but the rows: made whole, or not at all for want of memory
pub record Changes (old new : ListShelf) (result : Result (Unit {0}) Fault) (after : State) : Type 0 where
  pub done : OnOk result (state_of new ≡ after)
  pub undone : OnErr result (state_of new ≡ state_of old)
  pub rows : new.rows ≡ old.rows
  pub memory : IfErr result (λ fault. fault ≡ Memory)
