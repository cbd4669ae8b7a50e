-- What was judged of production is what the rules of the tables ask for.
use Rattle.std.proofs.Common.{◌≡◌, ◌≤◌, ℕ, ◌+◌, List, map, length, nat_le, None, true, sym, ap, ◌∙◌, subst, arith}
use Rattle.std.specs.Prelude.{string_bytes, sum_by}
use Rattle.std.specs.List.{filter, list_all}
use Rattle.std.specs.Ordering.{eq_by_cmp}
use Rattle.std.proofs.lemmas.List.Elements.{All-from_recursion, recursion_from_All}
use Rattle.std.proofs.lemmas.List.Folds.{list_all-map}
use Rattle.sqlite_keyed.proofs.ListLemmas.{all_weaker, all_map, all_unmap}
use Rattle.sqlite_typed.specs.Tests.{bytes_eq}
use Rattle.goo_types.specs.Piece.{IsRising}
use Rattle.goo_types.specs.declared.command.Declare.{Declare}
use Rattle.goo_spec.specs.Declare.{declared_by}
use Rattle.goo_spec.specs.Energy.{net, lowered_by, issued, due, corrected, total, lowered, remaining, carry}
use Rattle.goo_spec.specs.Sound.{do_rise}
use Rattle.goo_spec.specs.State.{Correction, text_cmp}
use Rattle.goo_core_shelf.specs.Shelf.{progress_of}
use Rattle.goo_ranges_rows.proofs.CertificateLemmas.{issued-rows, corrected-rows}
use Rattle.goo_tables_rows.specs.Beside.{beside}
use Rattle.goo_tables_rows.specs.Rows.{Tables, Device, Lot, device_in, declaration_in, bare_device, bare_lot}
use Rattle.goo_tables_rows.specs.declared.piece.PieceRow.{PieceRow}
use Rattle.goo_spec_tables.specs.Devices.{declaration_of, progress_in, device_row}
use Rattle.goo_spec_tables.specs.Places.{piece_of, rows_of}
use Rattle.goo_spec_tables.specs.Records.{correction_of}
use Rattle.goo_spec_tables.specs.States.{state_of}
use Rattle.goo_store_open.specs.Found.{AreOf, values}
use Rattle.goo_store_open.specs.declared.finding.Found.{Found}
use Rattle.goo_store_rules.specs.Production.{IsCorrectedKept, HasItsProgress, KeepsProduction, standing_in}
use Rattle.goo_store_rules.specs.WellKept.{has_device}
use Rattle.goo_store_rules.proofs.Bare.{bare_standing}
use Rattle.goo_store_rules.proofs.EachRow.{list_any-map}
use Rattle.goo_store_rules.proofs.DevicesKept.{progress_kept, progress_back}
use Rattle.goo_store_rules.proofs.IssueLemmas.{issued_parts}

-- a device's certificates: those that stand, and those that its corrections withdrew
module _ (t : Tables) (rising : IsRising (rows_of t)) (device : List ℕ) where
  issued_is : issued (state_of t) device ≡ sum_by (standing_in t.meta.code device (map correction_of t.corrections)) (rows_of t) + corrected (state_of t) device
  unfolding state_of issued corrected
  issued_is =
      let cs = map correction_of t.corrections in
      let all = issued-rows t.meta.code device 0 (rows_of t) rising in
      let back = corrected-rows t.meta.code device cs 0 (rows_of t) rising in
      all ∙ issued_parts t.meta.code device cs (rows_of t) ∙ ap (λ n. sum_by (standing_in t.meta.code device cs) (rows_of t) + n) (sym back)

-- neither what devices keep nor what was issued looks at a carrier
module _ (own : ℕ) (devices : List Device) (xs : List Declare) (cs : List Correction) (lots : List Lot) (ps : List PieceRow) where
  with_carriers : IsCorrectedKept own (map bare_device devices) xs cs (map piece_of (beside (map bare_lot lots) ps)) → IsCorrectedKept own devices xs cs (map piece_of (beside lots ps))
  with_carriers it = record {
    covered = it.covered;
    kept = record {
      rising = it.kept.rising;
      progress = All-from_recursion (HasItsProgress xs cs) devices (all_weaker _ _ (λ d h. record { last_day = h.last_day; carry = h.carry }) devices
          (all_unmap (HasItsProgress xs cs) bare_device devices (recursion_from_All (HasItsProgress xs cs) (map bare_device devices) it.kept.progress)));
      issued = λ device. sym (bare_standing own lots cs device ps) ∙ it.kept.issued device;
    };
  }

  without_carriers : IsCorrectedKept own devices xs cs (map piece_of (beside lots ps)) → IsCorrectedKept own (map bare_device devices) xs cs (map piece_of (beside (map bare_lot lots) ps))
  without_carriers it = record {
    covered = it.covered;
    kept = record {
      rising = it.kept.rising;
      progress = All-from_recursion (HasItsProgress xs cs) (map bare_device devices) (all_map (HasItsProgress xs cs) bare_device devices (all_weaker _ _ (λ d h. record { last_day = h.last_day; carry = h.carry }) devices
          (recursion_from_All (HasItsProgress xs cs) devices it.kept.progress)));
      issued = λ device. bare_standing own lots cs device ps ∙ it.kept.issued device;
    };
  }

module _ (t : Tables) (x : Found) (are : AreOf t x) where
  own_is : x.meta.code ≡ t.meta.code
  own_is = ap (λ m. m.code) are.meta

  -- what was read has no carriers
  same : KeepsProduction x.meta.code x.rows.production
      ≡ IsCorrectedKept t.meta.code (map bare_device (values t.devices)) (map declaration_of t.declarations) (map correction_of t.corrections) (map piece_of (beside (map bare_lot t.lots) t.pieces))
  same = λ i. IsCorrectedKept (own_is i) (are.devices i) (map declaration_of (are.declarations i)) (map correction_of (are.corrections i)) (map piece_of (beside (are.lots i) (are.pieces i)))

  a_device : (q : List ℕ) → has_device (map bare_device (values t.devices)) q ≡ has_device (values t.devices) q
  a_device q = list_any-map (λ d. eq_by_cmp text_cmp q d.gsrn) bare_device (values t.devices)

  there_is : list_all (λ row. has_device (map device_in x.rows.production.devices.items) (string_bytes row.device)) x.rows.production.declarations.items ≡ true → list_all (λ d. has_device (values t.devices) d.device) t.declarations ≡ true
  there_is there =
      (λ i. list_all (λ d. sym (a_device d.device) i) t.declarations) ∙ (λ i. list_all (λ d. has_device (sym are.devices i) d.device) (sym are.declarations i)) ∙ list_all-map (λ d. has_device (map device_in x.rows.production.devices.items) d.device) declaration_in x.rows.production.declarations.items ∙ there

  module _ (kept : KeepsProduction x.meta.code x.rows.production) where
    of : IsCorrectedKept t.meta.code (values t.devices) (map declaration_of t.declarations) (map correction_of t.corrections) (rows_of t)
    unfolding rows_of
    of = with_carriers t.meta.code (values t.devices) (map declaration_of t.declarations) (map correction_of t.corrections) t.lots t.pieces (subst (λ T. T) same kept)

    pub production_rises : (device : List ℕ) → do_rise None (declared_by device (state_of t).declarations) ≡ true
    unfolding state_of
    production_rises = of.kept.rising

    pub production_covered : list_all (λ x. nat_le (lowered_by (state_of t).corrections x) (net x)) (state_of t).declarations ≡ true
    unfolding state_of
    production_covered = of.covered

    pub production_issued : IsRising (rows_of t) → (device : List ℕ) → issued (state_of t) device ≡ due (state_of t) device + corrected (state_of t) device
    unfolding state_of due remaining total lowered
    production_issued rising device = issued_is t rising device ∙ ap (λ n. n + corrected (state_of t) device) (of.kept.issued device)

    pub production_progress : list_all (λ row. has_device (map device_in x.rows.production.devices.items) (string_bytes row.device)) x.rows.production.declarations.items ≡ true
        → (gsrn : List ℕ) → progress_in (device_row t.devices gsrn) ≡ progress_of (state_of t) gsrn
    unfolding state_of carry remaining total lowered
    production_progress there gsrn = progress_kept t.devices t.declarations (map correction_of t.corrections) of.kept.progress (there_is there) gsrn

  -- and back
  pub production_back : ((device : List ℕ) → do_rise None (declared_by device (state_of t).declarations) ≡ true) → list_all (λ x. nat_le (lowered_by (state_of t).corrections x) (net x)) (state_of t).declarations ≡ true
      → ((gsrn : List ℕ) → length (filter (λ k. bytes_eq k.1.gsrn gsrn) t.devices) ≤ 1)
      → ((gsrn : List ℕ) → progress_in (device_row t.devices gsrn) ≡ progress_of (state_of t) gsrn) → IsRising (rows_of t) → ((device : List ℕ) → issued (state_of t) device ≡ due (state_of t) device + corrected (state_of t) device)
      → KeepsProduction x.meta.code x.rows.production
  unfolding state_of rows_of carry due remaining total lowered
  production_back rises covered one progress rising when = subst (λ T. T) (sym same) (without_carriers t.meta.code (values t.devices) (map declaration_of t.declarations) (map correction_of t.corrections) t.lots t.pieces (record {
    covered = covered;
    kept = record {
      rising = rises;
      progress = progress_back t.devices t.declarations (map correction_of t.corrections) one progress;
      issued = λ device. let both = sym (issued_is t rising device) ∙ when device in omega (arith, both);
    };
  }))
