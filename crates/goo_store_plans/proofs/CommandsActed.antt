-- What commands change beside the certificates.
use Rattle.std.proofs.Common.{◌≡◌, ℕ, ℤ, pos, ◌≤◌, List, true, map, None, refl, ap, sym, subst, ◌∙◌}
use Rattle.std.specs.FinMap.{get, insert, from_entries, IsAntisymmetric, slice_cmp-IsAntisymmetric, nat_cmp-IsAntisymmetric}
use Rattle.std.specs.Cmp.{nat_cmp_total}
use Rattle.std.specs.Cmp.Lexicographic.{nat_list_cmp_total}
use Rattle.std.specs.Ordering.{nat_cmp}
use Rattle.std.specs.List.{list_all, list_any}
use Rattle.sqlite_keyed.specs.Keyed.{IsKeyedBy, next_key, has_key}
use Rattle.sqlite_keyed.proofs.KeyedLemmas.{next_key_is_free}
use Rattle.sqlite_typed.specs.Tests.{bytes_eq}
use Rattle.goo_types.specs.declared.command.OpenHolder.{OpenHolder}
use Rattle.goo_types.specs.declared.command.AddPeer.{AddPeer}
use Rattle.goo_types.specs.declared.command.Transfer.{Transfer}
use Rattle.goo_spec.specs.AddPeer.{with_peer}
use Rattle.goo_spec.specs.Energy.{carry, remaining, lowered, total}
use Rattle.goo_spec.specs.Lots.{Certificates}
use Rattle.goo_spec.specs.OpenHolder.{with_holder}
use Rattle.goo_spec.specs.State.{State, text_cmp}
use Rattle.goo_spec.specs.Transfer.{with_transfer}
use Rattle.goo_core_shelf.specs.Shelf.{progress_of}
use Rattle.goo_ranges_rows.specs.Certificates.{beside}
use Rattle.goo_tables_rows.specs.Rows.{Tables, kept_key, lot_key}
use Rattle.goo_tables_rows.specs.Rows as row
use Rattle.goo_tables_rows.specs.declared.peer.PeerRow.{PeerRow}
use Rattle.goo_tables_accounts.specs.Changes as change
use Rattle.goo_tables_accounts.specs.Changes.{added}
use Rattle.goo_store_plans.specs.Acted.{IsActed}
use Rattle.goo_spec_tables.specs.Devices.{progress_in, device_row}
use Rattle.goo_spec_tables.specs.Kept.{AreKept, AreReadable}
use Rattle.goo_spec_tables.specs.Readable.{is_holder, is_peer}
use Rattle.goo_spec_tables.specs.States.{state_of, known_holder, known_peer}
use Rattle.goo_spec_tables.proofs.Inserted.{all_inserted, map_inserted}
use Rattle.goo_spec_tables.proofs.ReadableLemmas.{with_holders, with_peers}

pub texts_apart : IsAntisymmetric text_cmp
texts_apart = slice_cmp-IsAntisymmetric nat_cmp-IsAntisymmetric

-- a device's progress is read off the declarations and the corrections
pub progress_same : (a b : State) → a.declarations ≡ b.declarations → a.corrections ≡ b.corrections → (gsrn : List ℕ) → progress_of a gsrn ≡ progress_of b gsrn
unfolding carry remaining lowered total
progress_same a b same corrected gsrn = λ i. progress_of (record a { declarations = same i; corrections = corrected i }) gsrn

-- a change that leaves pieces, lots, devices, their carriers, declarations, corrections and receipts
pub quiet : (t after : Tables) (s : State) → AreKept t → after.pieces ≡ t.pieces → after.receipts ≡ t.receipts → after.lots ≡ t.lots → after.devices ≡ t.devices
    → after.lot_carriers ≡ t.lot_carriers → after.device_carriers ≡ t.device_carriers → s.declarations ≡ (state_of t).declarations → s.corrections ≡ (state_of t).corrections
    → ((at : Certificates) → beside at (state_of after) ≡ beside at s) → AreReadable after → IsActed t after s
quiet t after s kept pieces receipts lots devices lot_carriers device_carriers declarations corrections state readable = record {
  pieces = pieces;
  receipts = receipts;
  state = state;
  readable = readable;
  have = ap (λ ls. Rattle.std.specs.List.list_all (λ p. has_key lot_key ls (pos p.lot)) t.pieces) lots ∙ kept.lots_there;
  rows = ap (λ ls. map Rattle.goo_spec_tables.specs.Places.piece_of (Rattle.goo_tables_rows.specs.Beside.beside ls t.pieces)) lots;
  lots = λ id l is. kept.lots id l (ap (λ ls. Rattle.sqlite_keyed.specs.Keyed.get_by lot_key ls id) (sym lots) ∙ is);
  devices = λ gsrn. subst (λ ds. Rattle.std.specs.Prelude.length (Rattle.std.specs.List.filter (λ k. Rattle.sqlite_typed.specs.Tests.bytes_eq k.1.gsrn gsrn) ds) ≤ 1) (sym devices) (kept.devices gsrn);
  progress = λ gsrn. ap (λ ds. progress_in (device_row ds gsrn)) devices ∙ kept.progress gsrn ∙ progress_same (state_of t) s (sym declarations) (sym corrections) gsrn;
  carried_devices = (λ i. list_all (λ c. list_any (λ d. bytes_eq d.1.gsrn c.1.gsrn) (devices i)) (device_carriers i)) ∙ kept.carried_devices_there;
  carried_lots = (λ i. list_all (λ c. has_key lot_key (lots i) (pos c.lot)) (lot_carriers i)) ∙ kept.carried_lots_there;
}

module _ (t : Tables) (kept : AreKept t) where
  -- certificates alone are transferred
  pub transfer_acted : (x : Transfer) → IsActed t t (with_transfer (state_of t) x)
  unfolding with_transfer
  transfer_acted x = quiet t t (with_transfer (state_of t) x) kept refl refl refl refl refl refl refl refl (λ at. refl) kept.readable

  -- a holder more
  pub holder_acted : (x : OpenHolder) (h : row.Holder) → ((k : ℤ) → known_holder (k, h) ≡ (x.holder, x.name)) → ((k : ℤ) → is_holder (k, h) ≡ true) → IsKeyedBy kept_key t.holders
      → get (state_of t).holders x.holder ≡ None → IsActed t (change.with_holder t h) (with_holder (state_of t) x)
  unfolding state_of with_holder
  holder_acted x h states reads rise none =
      let key = next_key kept_key t.holders in
      let put = map_inserted nat_list_cmp_total kept_key known_holder (key, h) texts_apart t.holders (next_key_is_free kept_key t.holders rise) (ap (λ e. get (from_entries {R = text_cmp} (map known_holder t.holders)) e.0) (states key) ∙ none)
      ∙ ap (λ e. insert (from_entries {R = text_cmp} (map known_holder t.holders)) e.0 e.1) (states key) in
      quiet t (change.with_holder t h) (with_holder (state_of t) x) kept refl refl refl refl refl refl refl refl (λ at i. record (beside at (state_of t)) { holders = put i })
      (with_holders t kept.readable (added t.holders h) (all_inserted kept_key is_holder (key, h) (reads key) t.holders kept.readable.holders))

  -- another registry more
  pub peer_acted : (x : AddPeer) (p : PeerRow) → ((k : ℤ) → known_peer (k, p) ≡ (x.peer, tt)) → ((k : ℤ) → is_peer (k, p) ≡ true) → IsKeyedBy kept_key t.peers
      → get (state_of t).peers x.peer ≡ None → IsActed t (change.with_peer t p) (with_peer (state_of t) x)
  unfolding state_of with_peer
  peer_acted x p states reads rise none =
      let key = next_key kept_key t.peers in
      let put = map_inserted nat_cmp_total kept_key known_peer (key, p) nat_cmp-IsAntisymmetric t.peers (next_key_is_free kept_key t.peers rise) (ap (λ e. get (from_entries {R = nat_cmp} (map known_peer t.peers)) e.0) (states key) ∙ none)
      ∙ ap (λ e. insert (from_entries {R = nat_cmp} (map known_peer t.peers)) e.0 e.1) (states key) in
      quiet t (change.with_peer t p) (with_peer (state_of t) x) kept refl refl refl refl refl refl refl refl (λ at i. record (beside at (state_of t)) { peers = put i })
      (with_peers t kept.readable (added t.peers p) (all_inserted kept_key is_peer (key, p) (reads key) t.peers kept.readable.peers))
