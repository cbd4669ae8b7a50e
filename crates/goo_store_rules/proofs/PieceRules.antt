-- The rules of pieces over the tables, and what the state asks of single certificates.
use Rattle.std.specs.Prelude.{◌≡◌, Bool, true, None, map}
use Rattle.std.specs.List.{list_all}
use Rattle.goo_types.specs.Number.{code_of}
use Rattle.goo_types.specs.Piece.{IsRising}
use Rattle.goo_spec.specs.Sound.{AreOfKnownLots, ArePlacesThere, AreTimely}
use Rattle.goo_tables_rows.specs.Rows.{Tables}
use Rattle.goo_tables_rows.specs.declared.piece.PieceRow.{PieceRow}
use Rattle.goo_spec_tables.specs.Places.{rows_of}
use Rattle.goo_spec_tables.specs.States.{state_of}
use Rattle.goo_store_receipts.specs.Judged.{judged_cancellation}
use Rattle.goo_store_rules.specs.WellKept.{is_issued, are_apart, has_account, has_cancellation, has_withdrawal, has_sent, has_lot_of, has_over, has_closed, act_in, is_timely}
use Rattle.goo_store_rules.proofs.KeptCertificates.{have_lots}

-- ---- the rules, as they are judged of what was read

abbrev pub is_given : Tables → PieceRow → Bool
is_given t = is_issued t.meta.code t.meta.next_serial

abbrev pub has_its_account : Tables → PieceRow → Bool
has_its_account t p = has_account t.accounts p.account

abbrev pub has_its_act : Tables → PieceRow → Bool
has_its_act t = act_in (has_cancellation (map judged_cancellation t.cancellations)) (has_withdrawal t.withdrawals) (has_sent t.notices_out)

abbrev pub has_its_lot : Tables → PieceRow → Bool
has_its_lot t p = has_lot_of (code_of p.first) t.lots p.lot

abbrev pub is_in_time : Tables → PieceRow → Bool
is_in_time t = is_timely (has_over t.meta.today t.lots) (has_closed t.accounts)

pub record ArePiecesJudged (t : Tables) : Type 0 where
  pub apart : are_apart None t.pieces ≡ true
  pub issued : list_all (is_given t) t.pieces ≡ true
  pub accounts : list_all (has_its_account t) t.pieces ≡ true
  pub acts : list_all (has_its_act t) t.pieces ≡ true
  pub lots : list_all (has_its_lot t) t.pieces ≡ true
  pub timely : list_all (is_in_time t) t.pieces ≡ true

-- ---- what a sound state asks

abbrev pub KnowsLots : Tables → Type 0
KnowsLots t = AreOfKnownLots (state_of t).own (state_of t).next_serial (state_of t).at (state_of t).lots

abbrev pub HasPlaces : Tables → Type 0
HasPlaces t = ArePlacesThere (state_of t).at (state_of t).accounts (state_of t).cancellations (state_of t).withdrawals (state_of t).sent

abbrev pub IsTimely : Tables → Type 0
IsTimely t = AreTimely (state_of t).today (state_of t).at (state_of t).accounts

pub record ArePiecesKept (t : Tables) : Type 0 where
  pub lots_there : have_lots t.lots t.pieces ≡ true
  pub rising : IsRising (rows_of t)
  pub known : KnowsLots t
  pub places : HasPlaces t
  pub times : IsTimely t
