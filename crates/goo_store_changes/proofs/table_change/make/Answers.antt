use Rattle.std.proofs.Common.{OnOk, sym, subst}
use Rattle.std.specs.List.{filter}
use Rattle.sqlite.specs.Held.{state}
use Rattle.sqlite_typed.specs.Tests.{bytes_eq}
use Rattle.goo_tables_rows.specs.Once.{IsOnce}
use Rattle.goo_tables_rows.specs.Stands.{Sees}
use Rattle.goo_store_changes.specs.Changes.{made, ChangeFits, IsFor, IsFree, HasRoom}
use Rattle.goo_store_changes.proofs.Endings.{or_less, or_full, or_big}
use Rattle.goo_store_changes.proofs.table_change.make.Goals as goal

pub returns-in-AddHolder : goal.returns-in-AddHolder
returns-in-AddHolder g c = record {
  same_reference = c.insert_holder.ensures.same_reference;
  changed = λ clean t it for. subst (λ change. OnOk c.insert_holder.result (Sees (state g.S.Store c.insert_holder.new.tx.conn.now) (made t change))) (sym c.in-AddHolder.is) (c.insert_holder.ensures.changed clean t it);
  refused = λ clean live unlimited t it free. or_less _ c.insert_holder.result _ _ (subst (HasRoom t) c.in-AddHolder.is) (c.insert_holder.ensures.refused clean live unlimited t it (subst (IsFree t) c.in-AddHolder.is free));
  live = c.insert_holder.ensures.live;
  uncommitted = c.insert_holder.ensures.uncommitted;
  survives = c.insert_holder.ensures.survives;
}

pub returns-in-AddAccount : goal.returns-in-AddAccount
returns-in-AddAccount g c = record {
  same_reference = c.insert_account.ensures.same_reference;
  changed = λ clean t it for. subst (λ change. OnOk c.insert_account.result (Sees (state g.S.Store c.insert_account.new.tx.conn.now) (made t change))) (sym c.in-AddAccount.is) (c.insert_account.ensures.changed clean t it);
  refused = λ clean live unlimited t it free. or_full _ c.insert_account.result _ _ (subst (HasRoom t) c.in-AddAccount.is) (c.insert_account.ensures.refused clean live unlimited t it (subst (IsFree t) c.in-AddAccount.is free));
  live = c.insert_account.ensures.live;
  uncommitted = c.insert_account.ensures.uncommitted;
  survives = c.insert_account.ensures.survives;
}

pub returns-in-CloseAccount : goal.returns-in-CloseAccount
returns-in-CloseAccount g c = record {
  same_reference = c.close_account.ensures.same_reference;
  changed = λ clean t it for. subst (λ change. OnOk c.close_account.result (Sees (state g.S.Store c.close_account.new.tx.conn.now) (made t change))) (sym c.in-CloseAccount.is) (c.close_account.ensures.changed clean t it);
  refused = λ clean live unlimited t it free. or_full _ c.close_account.result _ _ (subst (HasRoom t) c.in-CloseAccount.is) (c.close_account.ensures.refused clean live unlimited t it tt);
  live = c.close_account.ensures.live;
  uncommitted = c.close_account.ensures.uncommitted;
  survives = c.close_account.ensures.survives;
}

pub insert_device-requires : goal.insert_device-requires
insert_device-requires g c = subst ChangeFits c.in-AddDevice.is c.requires

pub returns-in-AddDevice : goal.returns-in-AddDevice
returns-in-AddDevice g c = record {
  same_reference = c.insert_device.ensures.same_reference;
  changed = λ clean t it for. subst (λ change. OnOk c.insert_device.result (Sees (state g.S.Store c.insert_device.new.tx.conn.now) (made t change))) (sym c.in-AddDevice.is) (c.insert_device.ensures.changed clean t it (subst (IsFor t) c.in-AddDevice.is for));
  refused = λ clean live unlimited t it free. or_less _ c.insert_device.result _ _ (subst (HasRoom t) c.in-AddDevice.is) (c.insert_device.ensures.refused clean live unlimited t it (subst (IsFree t) c.in-AddDevice.is free));
  live = c.insert_device.ensures.live;
  uncommitted = c.insert_device.ensures.uncommitted;
  survives = c.insert_device.ensures.survives;
}

pub insert_declaration-requires : goal.insert_declaration-requires
insert_declaration-requires g c = subst ChangeFits c.in-AddDeclaration.is c.requires

pub returns-in-AddDeclaration : goal.returns-in-AddDeclaration
returns-in-AddDeclaration g c = record {
  same_reference = c.insert_declaration.ensures.same_reference;
  changed = λ clean t it for. subst (λ change. OnOk c.insert_declaration.result (Sees (state g.S.Store c.insert_declaration.new.tx.conn.now) (made t change))) (sym c.in-AddDeclaration.is) (c.insert_declaration.ensures.changed clean t it);
  refused = λ clean live unlimited t it free. or_full _ c.insert_declaration.result _ _ (subst (HasRoom t) c.in-AddDeclaration.is) (c.insert_declaration.ensures.refused clean live unlimited t it (subst (IsFree t) c.in-AddDeclaration.is free));
  live = c.insert_declaration.ensures.live;
  uncommitted = c.insert_declaration.ensures.uncommitted;
  survives = c.insert_declaration.ensures.survives;
}

pub set_progress-requires : goal.set_progress-requires
set_progress-requires g c = subst ChangeFits c.in-SetProgress.is c.requires

pub returns-in-SetProgress : goal.returns-in-SetProgress
returns-in-SetProgress g c = record {
  same_reference = c.set_progress.ensures.same_reference;
  changed = λ clean t it. subst (λ change. IsFor t change → OnOk c.set_progress.result (Sees (state g.S.Store c.set_progress.new.tx.conn.now) (made t change))) (sym c.in-SetProgress.is)
      (λ once. rw (c.deref.ensures, c.deref-in-SetProgress.ensures) at (c.set_progress.ensures.changed clean t it (subst (λ text. IsOnce (filter (λ k. bytes_eq k.1.gsrn text) t.devices)) (sym c.deref.ensures) once)));
  refused = λ clean live unlimited t it free. or_less _ c.set_progress.result _ _ (subst (HasRoom t) c.in-SetProgress.is) (rw (c.deref.ensures, c.deref-in-SetProgress.ensures) at (c.set_progress.ensures.refused clean live unlimited t it (subst (λ text. IsOnce (filter (λ k. bytes_eq k.1.gsrn text) t.devices)) (sym c.deref.ensures) (subst (IsFree t) c.in-SetProgress.is free))));
  live = c.set_progress.ensures.live;
  uncommitted = c.set_progress.ensures.uncommitted;
  survives = c.set_progress.ensures.survives;
}

pub insert_lot-requires : goal.insert_lot-requires
insert_lot-requires g c = subst ChangeFits c.in-AddLot.is c.requires

pub returns-in-AddLot : goal.returns-in-AddLot
returns-in-AddLot g c = record {
  same_reference = c.insert_lot.ensures.same_reference;
  changed = λ clean t it for. subst (λ change. OnOk c.insert_lot.result (Sees (state g.S.Store c.insert_lot.new.tx.conn.now) (made t change))) (sym c.in-AddLot.is) (c.insert_lot.ensures.changed clean t it (subst (IsFor t) c.in-AddLot.is for));
  refused = λ clean live unlimited t it free. or_full _ c.insert_lot.result _ _ (subst (HasRoom t) c.in-AddLot.is) (c.insert_lot.ensures.refused clean live unlimited t it (subst (IsFree t) c.in-AddLot.is free));
  live = c.insert_lot.ensures.live;
  uncommitted = c.insert_lot.ensures.uncommitted;
  survives = c.insert_lot.ensures.survives;
}

pub delete_piece-requires : goal.delete_piece-requires
delete_piece-requires g c = subst ChangeFits c.in-DeletePiece.is c.requires

pub returns-in-DeletePiece : goal.returns-in-DeletePiece
returns-in-DeletePiece g c = record {
  same_reference = c.delete_piece.ensures.same_reference;
  changed = λ clean t it for. subst (λ change. OnOk c.delete_piece.result (Sees (state g.S.Store c.delete_piece.new.tx.conn.now) (made t change))) (sym c.in-DeletePiece.is) (c.delete_piece.ensures.changed clean t it);
  refused = λ clean live unlimited t it free. or_big _ c.delete_piece.result _ (c.delete_piece.ensures.refused clean live unlimited t it tt);
  live = c.delete_piece.ensures.live;
  uncommitted = c.delete_piece.ensures.uncommitted;
  survives = c.delete_piece.ensures.survives;
}

pub insert_piece-requires : goal.insert_piece-requires
insert_piece-requires g c = subst ChangeFits c.in-InsertPiece.is c.requires

pub returns-in-InsertPiece : goal.returns-in-InsertPiece
returns-in-InsertPiece g c = record {
  same_reference = c.insert_piece.ensures.same_reference;
  changed = λ clean t it for. subst (λ change. OnOk c.insert_piece.result (Sees (state g.S.Store c.insert_piece.new.tx.conn.now) (made t change))) (sym c.in-InsertPiece.is) (c.insert_piece.ensures.changed clean t it);
  refused = λ clean live unlimited t it free. or_full _ c.insert_piece.result _ _ (subst (HasRoom t) c.in-InsertPiece.is) (c.insert_piece.ensures.refused clean live unlimited t it (subst (IsFree t) c.in-InsertPiece.is free));
  live = c.insert_piece.ensures.live;
  uncommitted = c.insert_piece.ensures.uncommitted;
  survives = c.insert_piece.ensures.survives;
}

pub returns-in-AddPeer : goal.returns-in-AddPeer
returns-in-AddPeer g c = record {
  same_reference = c.insert_peer.ensures.same_reference;
  changed = λ clean t it for. subst (λ change. OnOk c.insert_peer.result (Sees (state g.S.Store c.insert_peer.new.tx.conn.now) (made t change))) (sym c.in-AddPeer.is) (c.insert_peer.ensures.changed clean t it);
  refused = λ clean live unlimited t it free. or_less _ c.insert_peer.result _ _ (subst (HasRoom t) c.in-AddPeer.is) (c.insert_peer.ensures.refused clean live unlimited t it (subst (IsFree t) c.in-AddPeer.is free));
  live = c.insert_peer.ensures.live;
  uncommitted = c.insert_peer.ensures.uncommitted;
  survives = c.insert_peer.ensures.survives;
}

pub insert_receipt-requires : goal.insert_receipt-requires
insert_receipt-requires g c = subst ChangeFits c.in-AddReceipt.is c.requires

pub returns-in-AddReceipt : goal.returns-in-AddReceipt
returns-in-AddReceipt g c = record {
  same_reference = c.insert_receipt.ensures.same_reference;
  changed = λ clean t it for. subst (λ change. OnOk c.insert_receipt.result (Sees (state g.S.Store c.insert_receipt.new.tx.conn.now) (made t change))) (sym c.in-AddReceipt.is) (c.insert_receipt.ensures.changed clean t it);
  refused = λ clean live unlimited t it free. or_less _ c.insert_receipt.result _ _ (subst (HasRoom t) c.in-AddReceipt.is) (c.insert_receipt.ensures.refused clean live unlimited t it (subst (IsFree t) c.in-AddReceipt.is free));
  live = c.insert_receipt.ensures.live;
  uncommitted = c.insert_receipt.ensures.uncommitted;
  survives = c.insert_receipt.ensures.survives;
}

pub insert_cancellation-requires : goal.insert_cancellation-requires
insert_cancellation-requires g c = subst ChangeFits c.in-AddCancellation.is c.requires

pub returns-in-AddCancellation : goal.returns-in-AddCancellation
returns-in-AddCancellation g c = record {
  same_reference = c.insert_cancellation.ensures.same_reference;
  changed = λ clean t it for. subst (λ change. OnOk c.insert_cancellation.result (Sees (state g.S.Store c.insert_cancellation.new.tx.conn.now) (made t change))) (sym c.in-AddCancellation.is) (c.insert_cancellation.ensures.changed clean t it);
  refused = λ clean live unlimited t it free. or_full _ c.insert_cancellation.result _ _ (subst (HasRoom t) c.in-AddCancellation.is) (c.insert_cancellation.ensures.refused clean live unlimited t it (subst (IsFree t) c.in-AddCancellation.is free));
  live = c.insert_cancellation.ensures.live;
  uncommitted = c.insert_cancellation.ensures.uncommitted;
  survives = c.insert_cancellation.ensures.survives;
}

pub insert_withdrawal-requires : goal.insert_withdrawal-requires
insert_withdrawal-requires g c = subst ChangeFits c.in-AddWithdrawal.is c.requires

pub returns-in-AddWithdrawal : goal.returns-in-AddWithdrawal
returns-in-AddWithdrawal g c = record {
  same_reference = c.insert_withdrawal.ensures.same_reference;
  changed = λ clean t it for. subst (λ change. OnOk c.insert_withdrawal.result (Sees (state g.S.Store c.insert_withdrawal.new.tx.conn.now) (made t change))) (sym c.in-AddWithdrawal.is) (c.insert_withdrawal.ensures.changed clean t it);
  refused = λ clean live unlimited t it free. or_full _ c.insert_withdrawal.result _ _ (subst (HasRoom t) c.in-AddWithdrawal.is) (c.insert_withdrawal.ensures.refused clean live unlimited t it (subst (IsFree t) c.in-AddWithdrawal.is free));
  live = c.insert_withdrawal.ensures.live;
  uncommitted = c.insert_withdrawal.ensures.uncommitted;
  survives = c.insert_withdrawal.ensures.survives;
}

pub returns-in-AddNoticeOut : goal.returns-in-AddNoticeOut
returns-in-AddNoticeOut g c = record {
  same_reference = c.insert_notice_out.ensures.same_reference;
  changed = λ clean t it for. subst (λ change. OnOk c.insert_notice_out.result (Sees (state g.S.Store c.insert_notice_out.new.tx.conn.now) (made t change))) (sym c.in-AddNoticeOut.is) (c.insert_notice_out.ensures.changed clean t it);
  refused = λ clean live unlimited t it free. or_full _ c.insert_notice_out.result _ _ (subst (HasRoom t) c.in-AddNoticeOut.is) (c.insert_notice_out.ensures.refused clean live unlimited t it (subst (IsFree t) c.in-AddNoticeOut.is free));
  live = c.insert_notice_out.ensures.live;
  uncommitted = c.insert_notice_out.ensures.uncommitted;
  survives = c.insert_notice_out.ensures.survives;
}

pub returns-in-AddNoticeIn : goal.returns-in-AddNoticeIn
returns-in-AddNoticeIn g c = record {
  same_reference = c.keep_notice.ensures.same_reference;
  changed = λ clean t it for. subst (λ change. OnOk c.keep_notice.result (Sees (state g.S.Store c.keep_notice.new.tx.conn.now) (made t change))) (sym c.in-AddNoticeIn.is) (c.keep_notice.ensures.changed clean t it);
  refused = λ clean live unlimited t it free. or_less _ c.keep_notice.result _ _ (subst (HasRoom t) c.in-AddNoticeIn.is) (c.keep_notice.ensures.refused clean live unlimited t it (subst (IsFree t) c.in-AddNoticeIn.is free));
  live = c.keep_notice.ensures.live;
  uncommitted = c.keep_notice.ensures.uncommitted;
  survives = c.keep_notice.ensures.survives;
}

pub insert_correction-requires : goal.insert_correction-requires
insert_correction-requires g c = subst ChangeFits c.in-AddCorrection.is c.requires

pub returns-in-AddCorrection : goal.returns-in-AddCorrection
returns-in-AddCorrection g c = record {
  same_reference = c.insert_correction.ensures.same_reference;
  changed = λ clean t it for. subst (λ change. OnOk c.insert_correction.result (Sees (state g.S.Store c.insert_correction.new.tx.conn.now) (made t change))) (sym c.in-AddCorrection.is) (c.insert_correction.ensures.changed clean t it);
  refused = λ clean live unlimited t it free. or_full _ c.insert_correction.result _ _ (subst (HasRoom t) c.in-AddCorrection.is) (c.insert_correction.ensures.refused clean live unlimited t it (subst (IsFree t) c.in-AddCorrection.is free));
  live = c.insert_correction.ensures.live;
  uncommitted = c.insert_correction.ensures.uncommitted;
  survives = c.insert_correction.ensures.survives;
}

pub returns-in-SetToday : goal.returns-in-SetToday
returns-in-SetToday g c = record {
  same_reference = c.set_today.ensures.same_reference;
  changed = λ clean t it for. subst (λ change. OnOk c.set_today.result (Sees (state g.S.Store c.set_today.new.tx.conn.now) (made t change))) (sym c.in-SetToday.is) (rw (c.deref-in-SetToday.ensures) at (c.set_today.ensures.changed clean t it));
  refused = λ clean live unlimited t it free. or_full _ c.set_today.result _ _ (subst (HasRoom t) c.in-SetToday.is) (rw (c.deref-in-SetToday.ensures) at (c.set_today.ensures.refused clean live unlimited t it tt));
  live = c.set_today.ensures.live;
  uncommitted = c.set_today.ensures.uncommitted;
  survives = c.set_today.ensures.survives;
}

pub keep_counters-requires : goal.keep_counters-requires
keep_counters-requires g c = subst ChangeFits c.in-SetCounters.is c.requires

pub returns-in-SetCounters : goal.returns-in-SetCounters
returns-in-SetCounters g c = record {
  same_reference = c.keep_counters.ensures.same_reference;
  changed = λ clean t it for. subst (λ change. OnOk c.keep_counters.result (Sees (state g.S.Store c.keep_counters.new.tx.conn.now) (made t change))) (sym c.in-SetCounters.is) (c.keep_counters.ensures.changed clean t it);
  refused = λ clean live unlimited t it free. or_full _ c.keep_counters.result _ _ (subst (HasRoom t) c.in-SetCounters.is) (c.keep_counters.ensures.refused clean live unlimited t it tt);
  live = c.keep_counters.ensures.live;
  uncommitted = c.keep_counters.ensures.uncommitted;
  survives = c.keep_counters.ensures.survives;
}
