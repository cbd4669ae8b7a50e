-- Changes that carry out a plan: those of its command, then those of its edits, and the receipt.
use Rattle.std.proofs.Common.{◌≡◌, ℕ, List, [], ◌∷◌, ◌++◌, Option, Some, None, true, refl, ap, sym, subst, ◌∙◌}
use Rattle.std.specs.FinMap.{get, insert, from_entries, IsAntisymmetric, slice_cmp-IsAntisymmetric, nat_cmp-IsAntisymmetric}
use Rattle.std.proofs.lemmas.List.Sums.{fold-append}
use Rattle.std.specs.Prelude.{◌&&◌, map, find}
use Rattle.sqlite_typed.specs.Tests.{bytes_eq}
use Rattle.sqlite_keyed.specs.Keyed.{IsKeyedBy, next_key}
use Rattle.sqlite_keyed.proofs.KeyedLemmas.{next_key_is_free}
use Rattle.goo_types.specs.Obeys.{Obeys}
use Rattle.goo_types.specs.Piece.{IsRising}
use Rattle.goo_types.specs.declared.command.Command.{Command}
use Rattle.goo_types.specs.declared.outcome.Outcome.{Outcome}
use Rattle.goo_types.specs.declared.outcome.Outcome.TheVariants.{Accepted, Repeated, Refused}
use Rattle.goo_types.specs.declared.refusal.Refusal.TheVariants.{KeyReused}
use Rattle.goo_types.specs.declared.reply.Reply.{Reply}
use Rattle.goo_types.specs.declared.request.Request.{Request}
use Rattle.goo_spec.specs.Runs.{IsApart}
use Rattle.goo_spec.specs.Energy.{carry, remaining, lowered, total}
use Rattle.goo_spec.specs.Sound.{IsSound}
use Rattle.goo_spec.specs.State.{State, receipt_cmp}
use Rattle.goo_spec.specs.Step.{accept, changed, keyed_outcome, is_kept}
use Rattle.goo_spec.proofs.Again.{accepted_reply}
use Rattle.goo_spec.proofs.Stepping.{sound_accept}
use Rattle.goo_ranges_rows.specs.Rows.{edited_all}
use Rattle.goo_core_shelf.specs.Plan.{Fits, StayRising}
use Rattle.goo_core_shelf.specs.Shelf.{progress_of}
use Rattle.goo_core_shelf.specs.declared.plan.Plan.{Plan}
use Rattle.goo_core_shelf.specs.Maps.{pair-IsAntisymmetric}
use Rattle.goo_ranges_rows.specs.Certificates.{certificates_of}
use Rattle.goo_ranges_rows.proofs.CertificateLemmas.{certificates-same}
use Rattle.goo_tables_rows.specs.Rows.{Tables, Kept, kept_key, piece_key}
use Rattle.goo_tables_rows.specs.Rows as row
use Rattle.goo_tables_rows.specs.Rows.{receipt_in, receipt_row}
use Rattle.goo_tables_rows.specs.Refused.{HasRoomFor}
use Rattle.goo_tables_rows.specs.declared.receipt.ReceiptRow.{ReceiptRow}
use Rattle.goo_tables_accounts.specs.Changes.{added, with_receipt}
use Rattle.goo_store_plans.specs.Acted.{IsActed, IsReceiptOf}
use Rattle.goo_store_changes.specs.Changes.{made, made_all, AreFor, IsFree, AreFree, HasRoom, HaveRoom}
use Rattle.goo_store_plans.specs.EditChanges.{AreForEdits}
use Rattle.goo_spec_tables.specs.Kept.{AreKept}
use Rattle.goo_spec_tables.specs.Places.{rows_of}
use Rattle.goo_store_plans.specs.Planned.{IsPlanned}
use Rattle.goo_store_plans.specs.Room.{HaveRowids}
use Rattle.goo_spec_tables.specs.Readable.{is_receipt}
use Rattle.goo_spec_tables.specs.Replies.{receipt_of}
use Rattle.goo_spec_tables.specs.States.{state_of, known_receipt}
use Rattle.goo_store_changes.specs.declared.table_change.TableChange.{TableChange}
use Rattle.goo_store_changes.specs.declared.table_change.TableChange.TheVariants.{AddReceipt}
use Rattle.goo_store_plans.proofs.EditsMade.{AreGood, edits_made}
use Rattle.goo_spec_tables.proofs.Inserted.{all_inserted, map_inserted}
use Rattle.goo_spec_tables.proofs.Known.{receipt_total}
use Rattle.goo_store_plans.proofs.FreeChanges.{no_receipt}
use Rattle.goo_store_plans.proofs.InTurn.{one_in_turn, both_in_turn}
use Rattle.goo_store_plans.proofs.RoomChanges.{receipt_room}
use Rattle.goo_store_plans.proofs.RowChanges.{rows_for}

receipts_apart : IsAntisymmetric receipt_cmp
receipts_apart = pair-IsAntisymmetric (slice_cmp-IsAntisymmetric nat_cmp-IsAntisymmetric) (slice_cmp-IsAntisymmetric nat_cmp-IsAntisymmetric)

-- nothing is kept under the key of a request that is accepted
pub key_free : (o : Option (Option Command × Reply)) (c : Command) (fresh : Outcome) (r : Reply) → keyed_outcome o c fresh ≡ Accepted r → o ≡ None
key_free None c fresh r is = refl
key_free (Some kept) c fresh r is = elim (is_kept kept.0 c) as (λ b. Rattle.std.specs.Prelude.cond b (Repeated kept.1) (Refused KeyReused) ≡ Accepted r → Some kept ≡ None) [ true ↦ λ h. absurd (cc) | Rattle.std.specs.Prelude.false ↦ λ h. absurd (cc) ] is

pub receipt_added : (q : Request) (reply : Reply) (r : row.Receipt) → IsReceiptOf q reply r → (xs : List (Kept row.Receipt)) → IsKeyedBy kept_key xs
    → get (from_entries {R = receipt_cmp} (map known_receipt xs)) (q.caller, q.key) ≡ None
    → from_entries {R = receipt_cmp} (map known_receipt (added xs r)) ≡ insert (from_entries (map known_receipt xs)) (q.caller, q.key) (Some q.command, reply)
receipt_added q reply r it xs rise none =
    map_inserted receipt_total kept_key known_receipt (next_key kept_key xs, r) receipts_apart xs (next_key_is_free kept_key xs rise)
    (ap (λ e. get (from_entries {R = receipt_cmp} (map known_receipt xs)) e.0) it.states ∙ none)
    ∙ ap (λ e. insert (from_entries {R = receipt_cmp} (map known_receipt xs)) e.0 e.1) it.states

module _ (t : Tables) (kept : AreKept t) (plan : Plan) (fits : Fits (state_of t) (rows_of t) plan) (obeys : Obeys plan.request.command)
    (pieces_rise : IsKeyedBy piece_key t.pieces) (receipts_rise : IsKeyedBy kept_key t.receipts)
    (act edits : List TableChange) (acted : IsActed t (made_all t act) (changed (state_of t) plan.request.command)) (edit : AreForEdits (made_all t act).lots plan.edits.items edits)
    (kept_as : ReceiptRow) (receipt : IsReceiptOf plan.request plan.reply (receipt_in kept_as)) where
  abbrev r : row.Receipt
  r = receipt_in kept_as

  abbrev all_changes : List TableChange
  all_changes = act ++ (edits ++ AddReceipt kept_as ∷ [])

  abbrev s : State
  s = state_of t

  abbrev q : Request
  q = plan.request

  abbrev t1 : Tables
  t1 = made_all t act

  good : AreGood t1.lots t1.pieces
  good = subst (AreGood t1.lots) (sym acted.pieces) (record { have = acted.have; rise = pieces_rise; read = kept.readable.pieces })

  rows_before : rows_for t1.lots t1.pieces ≡ rows_of t
  unfolding rows_of
  rows_before = ap (rows_for t1.lots) acted.pieces ∙ acted.rows

  leave : Rattle.goo_store_plans.proofs.EditsMade.Leave t1.lots t1 edits (edited_all plan.edits.items (rows_for t1.lots t1.pieces))
  leave = edits_made t1.lots plan.edits.items edits edit t1 good (subst (StayRising plan.edits.items) (sym rows_before) fits.rising)

  abbrev t3 : Tables
  t3 = with_receipt (record t1 { pieces = leave.pieces }) r

  all_made : made_all t all_changes ≡ t3
  all_made = fold-append made t act (edits ++ AddReceipt kept_as ∷ []) ∙ fold-append made t1 edits (AddReceipt kept_as ∷ []) ∙ ap (λ u. with_receipt u r) leave.tables

  rows_after : rows_of t3 ≡ edited_all plan.edits.items (rows_of t)
  unfolding rows_of
  rows_after = leave.rows_are ∙ ap (edited_all plan.edits.items) rows_before

  none_kept : get s.receipts (q.caller, q.key) ≡ None
  none_kept = key_free (get s.receipts (q.caller, q.key)) q.command _ plan.reply fits.accepted

  receipts_after : from_entries {R = receipt_cmp} (map known_receipt (added t1.receipts r)) ≡ insert s.receipts (q.caller, q.key) (Some q.command, plan.reply)
  unfolding state_of
  receipts_after = ap (λ xs. from_entries {R = receipt_cmp} (map known_receipt (added xs r))) acted.receipts ∙ receipt_added q plan.reply r receipt t.receipts receipts_rise none_kept

  state_after : state_of t3 ≡ accept s q
  unfolding state_of accept
  state_after =
      (λ i. record (state_of t1) { at = (ap certificates_of rows_after ∙ certificates-same (accept s q).at (edited_all plan.edits.items (rows_of t)) fits.turned.fits) i; receipts = receipts_after i })
      ∙ (λ i. record (acted.state (accept s q).at i) { receipts = insert s.receipts (q.caller, q.key) (Some q.command, sym (accepted_reply s q plan.reply fits.accepted) i) })

  progress_after : (gsrn : List ℕ) → progress_of (changed s q.command) gsrn ≡ progress_of (accept s q) gsrn
  unfolding accept carry remaining lowered total
  progress_after gsrn = refl

  kept_after : AreKept t3
  kept_after = record {
    readable = record {
      version = acted.readable.version;
      meta = acted.readable.meta;
      holders = acted.readable.holders;
      accounts = acted.readable.accounts;
      devices = acted.readable.devices;
      declarations = acted.readable.declarations;
      lots = acted.readable.lots;
      pieces = leave.good.read;
      peers = acted.readable.peers;
      receipts = all_inserted kept_key is_receipt (next_key kept_key t1.receipts, r) receipt.reads t1.receipts acted.readable.receipts;
      cancellations = acted.readable.cancellations;
      withdrawals = acted.readable.withdrawals;
      notices_out = acted.readable.notices_out;
      notices_in = acted.readable.notices_in;
      corrections = acted.readable.corrections;
      device_carriers = acted.readable.device_carriers;
      lot_carriers = acted.readable.lot_carriers;
    };
    carried_devices_there = acted.carried_devices;
    carried_lots_there = acted.carried_lots;
    lots_there = leave.good.have;
    rising = subst IsRising (sym rows_after) fits.turned.fits.disjoint;
    apart = λ two. subst IsApart (sym rows_after) (fits.turned.apart (kept.apart two));
    lots = acted.lots;
    devices = acted.devices;
    progress = λ gsrn. acted.progress gsrn ∙ progress_after gsrn ∙ ap (λ u. progress_of u gsrn) (sym state_after);
    sound = subst IsSound (sym state_after) (sound_accept s q plan.reply obeys fits.accepted fits.sound);
  }

  -- the receipt comes where nothing is kept under its key
  receipt_free : IsFree (record t1 { pieces = leave.pieces }) (AddReceipt kept_as)
  unfolding state_of
  receipt_free =
      subst (λ xs. find (λ k. bytes_eq k.1.caller r.caller && bytes_eq k.1.key r.key) xs ≡ None) (sym acted.receipts)
      (no_receipt (λ (k : Kept row.Receipt). receipt_of k.1) (λ k. k.1.caller) (λ k. k.1.key) r.caller r.key t.receipts (ap (λ e. get s.receipts e.0) receipt.states ∙ none_kept))

  free_after : AreFree t act → AreFree t all_changes
  free_after free =
      both_in_turn IsFree t act (edits ++ AddReceipt kept_as ∷ []) free
      (both_in_turn IsFree t1 edits (AddReceipt kept_as ∷ []) leave.free (one_in_turn IsFree (made_all t1 edits) (AddReceipt kept_as) (subst (λ u. IsFree u (AddReceipt kept_as)) (sym leave.tables) receipt_free)))

  -- and has room, where rowids are left
  room_after : (HaveRowids t → HaveRoom t act) → HaveRoom t1 edits → HaveRowids t → HaveRoom t all_changes
  room_after room rest can =
      let kept_too = subst (λ rows. HasRoomFor receipt_row rows r) (sym acted.receipts) (receipt_room q plan.reply r receipt t.receipts can.receipts) in
      both_in_turn HasRoom t act (edits ++ AddReceipt kept_as ∷ []) (room can)
      (both_in_turn HasRoom t1 edits (AddReceipt kept_as ∷ []) rest (one_in_turn HasRoom (made_all t1 edits) (AddReceipt kept_as) (subst (λ u. HasRoom u (AddReceipt kept_as)) (sym leave.tables) kept_too)))

  -- so they carry it out
  pub planned : AreFor t all_changes → AreFree t act → (HaveRowids t → HaveRoom t act) → HaveRoom t1 edits → IsPlanned t all_changes plan
  planned for free room rest = record {
    for = for;
    free = free_after free;
    room = room_after room rest;
    state = ap state_of all_made ∙ state_after;
    rows = ap rows_of all_made ∙ rows_after;
    kept = subst AreKept (sym all_made) kept_after;
  }
