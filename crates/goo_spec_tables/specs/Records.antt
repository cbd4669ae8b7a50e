-- The records of acts, the corrections, and the notices, that rows stand for.
use Rattle.std.specs.Prelude.{ℕ, ◌==◌, cond, Option, Some, None}
use Rattle.goo_types.specs.Notice.{NoticeContents}
use Rattle.goo_spec.specs.State.{Cancellation, Withdrawal, Correction, Sent}
use Rattle.goo_tables_rows.specs.Rows as row
use Rattle.goo_spec_tables.specs.Texts.{day_of, notice_of}

abbrev pub cancellation_of : row.Cancellation → Cancellation
cancellation_of c = record {
  account = c.account;
  range = record { first = c.first; last = c.last };
  beneficiary = c.beneficiary;
  use_first = day_of c.use_first;
  use_last = day_of c.use_last;
  day = day_of c.day;
}

abbrev pub withdrawal_of : row.Withdrawal → Withdrawal
withdrawal_of w = record { range = record { first = w.first; last = w.last }; reason = w.reason; day = day_of w.day }

-- the number of an act, 0 for none
abbrev pub act_or_none : ℕ → Option ℕ
act_or_none n = cond (n == 0) None (Some n)

abbrev pub correction_of : row.Correction → Correction
correction_of c = record { device = c.device; first_day = day_of c.first_day; less = c.less; withdrawal = act_or_none c.withdrawal }

abbrev pub sent_of : row.NoticeOut → Sent
sent_of n = record { account = n.account; notice = notice_of n.body }

abbrev pub arrived_of : row.NoticeIn → NoticeContents
arrived_of n = notice_of n.body
