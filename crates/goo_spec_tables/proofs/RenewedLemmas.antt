-- Tables of version 1, renewed: the same state, under the rules of version 2.
use Rattle.std.proofs.Common.{◌≡◌, ◌∙◌, refl, ap, sym, subst}
use Rattle.goo_types.specs.Piece.{IsRising}
use Rattle.goo_spec.specs.Runs.{IsApart}
use Rattle.goo_spec.specs.Sound.{IsSound}
use Rattle.goo_core_shelf.specs.Shelf.{progress_of}
use Rattle.goo_ranges_pieces.specs.Joining.{IsJoining}
use Rattle.goo_ranges_rows.specs.Certificates.{certificates_of}
use Rattle.goo_ranges_rows.proofs.CertificateLemmas.{certificates-rows, certificates-same}
use Rattle.goo_tables_rows.specs.Rows.{Tables}
use Rattle.goo_spec_tables.specs.Kept.{AreKeptIn}
use Rattle.goo_spec_tables.specs.Places.{rows_of}
use Rattle.goo_spec_tables.specs.Renewed.{joined_pieces, renewed, HaveOwnFields}
use Rattle.goo_spec_tables.specs.States.{state_of}
use Rattle.goo_spec_tables.proofs.Renewing.{AreJoined, all_joined, joined_apart}

module _ (t : Tables) (kept : AreKeptIn 1 t) where
  all : AreJoined t.lots t.pieces (joined_pieces t.pieces)
  all = all_joined t.lots t.pieces kept.readable.pieces kept.lots_there

  rows_joined : IsJoining (rows_of t) (rows_of (renewed t))
  unfolding rows_of
  rows_joined = all.joining

  rising_after : IsRising (rows_of (renewed t))
  rising_after = rows_joined.rising 0 kept.rising

  apart_after : HaveOwnFields t.lots → IsApart (rows_of (renewed t))
  unfolding rows_of
  apart_after own = joined_apart t.lots own t.pieces kept.readable.pieces kept.lots_there

  same_certificates : certificates_of (rows_of (renewed t)) ≡ certificates_of (rows_of t)
  same_certificates =
      certificates-same (certificates_of (rows_of t)) (rows_of (renewed t))
      (record { disjoint = rising_after; same = λ n. rows_joined.same 0 kept.rising n ∙ (certificates-rows (rows_of t) kept.rising).same n })

  -- the state stays
  pub renewed_state : state_of (renewed t) ≡ state_of t
  unfolding state_of
  renewed_state = λ i. record (state_of t) { at = same_certificates i }

  -- and the rules of version 2 are kept
  pub renewed_kept : HaveOwnFields t.lots → AreKeptIn 2 (renewed t)
  renewed_kept own = record {
    readable = record {
      version = refl;
      meta = kept.readable.meta;
      holders = kept.readable.holders;
      accounts = kept.readable.accounts;
      devices = kept.readable.devices;
      declarations = kept.readable.declarations;
      lots = kept.readable.lots;
      pieces = all.good;
      peers = kept.readable.peers;
      receipts = kept.readable.receipts;
      cancellations = kept.readable.cancellations;
      withdrawals = kept.readable.withdrawals;
      notices_out = kept.readable.notices_out;
      notices_in = kept.readable.notices_in;
      corrections = kept.readable.corrections;
      device_carriers = kept.readable.device_carriers;
      lot_carriers = kept.readable.lot_carriers;
    };
    carried_devices_there = kept.carried_devices_there;
    carried_lots_there = kept.carried_lots_there;
    lots_there = all.have;
    rising = rising_after;
    apart = λ _. apart_after own;
    lots = kept.lots;
    devices = kept.devices;
    progress = λ gsrn. kept.progress gsrn ∙ ap (λ s. progress_of s gsrn) (sym renewed_state);
    sound = subst IsSound (sym renewed_state) kept.sound;
  }
