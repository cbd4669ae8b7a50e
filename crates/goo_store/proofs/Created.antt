-- A new registry.
use Rattle.std.proofs.Common.{◌≡◌, ◌&&◌, ℕ, true, refl, sym, ap, subst, arith}
use Rattle.std.proofs.lemmas.Bool.{le-leb}
use Rattle.sqlite.specs.State.{State, HasCleanDisk, IsLive}
use Rattle.goo_types.specs.Day.{CalendarDay}
use Rattle.goo_types.proofs.DayLemmas.{day_reading-day_text}
use Rattle.goo_spec.specs.Created.{created}
use Rattle.goo_spec.specs.Energy.{carry, remaining, lowered, total}
use Rattle.goo_spec.specs.Sound.{IsSound}
use Rattle.goo_spec.proofs.Creating.{created_is_sound}
use Rattle.goo_ranges_rows.specs.Certificates.{certificates_of}
use Rattle.goo_tables_rows.specs.Stands.{Stands, Settled, defects}
use Rattle.goo_tables_rows.proofs.Catalogued.{ours_of}
use Rattle.goo_tables_rows.proofs.Decoded.{decoded}
use Rattle.goo_tables_accounts.specs.Changes.{begun}
use Rattle.goo_store_opening.specs.Creating.{meta_of, IsFirst}
use Rattle.goo_spec_tables.specs.Kept.{AreKept}
use Rattle.goo_store_judge.specs.Moments.{IsWell, tables_in}
use Rattle.goo_spec_tables.specs.Places.{rows_of}
use Rattle.goo_spec_tables.specs.Readable.{is_meta, reads}
use Rattle.goo_spec_tables.specs.States.{state_of}
use Rattle.goo_store_judge.specs.Holding.{sure}
use Rattle.goo_spec_tables.proofs.Known.{day_back}

module _ (code : ℕ) (today : CalendarDay) (next_serial : ℕ) (it : IsFirst code today next_serial) where
  -- its tables stand for the state of a new registry
  pub begun_state : state_of (begun (meta_of code today next_serial)) ≡ created code today next_serial
  unfolding state_of created rows_of certificates_of
  begun_state = λ i. record (created code today next_serial) { today = day_back today it.today i }

  meta_read : is_meta (meta_of code today next_serial) ≡ true
  meta_read = λ i. (le-leb 1 code it.code.0 i && le-leb code 99 it.code.1 i) && (ap reads (day_reading-day_text today it.today) i && ((le-leb 1 next_serial it.serial.0 i && le-leb next_serial 1000000000000 (omega (arith, it.serial)) i) && true))

  pub begun_kept : AreKept (begun (meta_of code today next_serial))
  unfolding state_of rows_of carry remaining lowered total
  begun_kept = record {
    readable = record { version = refl; meta = meta_read; holders = refl; accounts = refl; devices = refl; declarations = refl; lots = refl; pieces = refl; peers = refl; receipts = refl; cancellations = refl; withdrawals = refl; notices_out = refl; notices_in = refl; corrections = refl; device_carriers = refl; lot_carriers = refl };
    carried_devices_there = refl;
    carried_lots_there = refl;
    lots_there = refl;
    rising = tt;
    apart = λ _. tt;
    lots = λ id l is. absurd cc;
    devices = λ gsrn. omega arith;
    progress = λ gsrn. refl;
    sound = subst IsSound (sym begun_state) (created_is_sound code today next_serial it.code it.serial.0 (omega (arith, it.serial)));
  }

  module _ (s : State) (done : HasCleanDisk s → Settled s (begun (meta_of code today next_serial))) where
    pub created_tables : defects s ≡ 0 → tables_in s ≡ begun (meta_of code today next_serial)
    created_tables none = decoded s.now (begun (meta_of code today next_serial)) (done (sure s none).0).stands

    pub created_well : IsLive s → IsWell s
    created_well live = record {
      stands = λ none. subst (Stands s.now) (sym (created_tables none)) (done (sure s none).0).stands;
      ours = λ none. ours_of s.now (live (sure s none).1).0 (done (sure s none).0).stands.schema;
      kept = λ none. subst AreKept (sym (created_tables none)) begun_kept;
      settled = λ none. sym (done (sure s none).0).committed;
    }
