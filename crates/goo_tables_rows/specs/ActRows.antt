-- The rows of receipts, cancellations, withdrawals and notices, as plain records.
use Rattle.std.specs.Prelude.{ℕ, ℤ, pos, List, [], ◌∷◌, string_bytes}
use Rattle.sqlite.specs.declared.types.Value.TheVariants.{Null, Int, Text, Blob}
use Rattle.sqlite.specs.Order.{Row, column}
use Rattle.sqlite_typed.specs.Columns.{bytes_of, int_of}
use Rattle.goo_tables_rows.specs.declared.receipt.ReceiptRow.{ReceiptRow}
use Rattle.goo_tables_rows.specs.declared.cancellation.CancellationRow.{CancellationRow}
use Rattle.goo_tables_rows.specs.declared.withdrawal.WithdrawalRow.{WithdrawalRow}
use Rattle.goo_tables_rows.specs.declared.notice_out.NoticeOutRow.{NoticeOutRow}
use Rattle.goo_tables_rows.specs.declared.notice_in.NoticeInRow.{NoticeInRow}
use Rattle.goo_tables_rows.specs.Cells.{number_in, Kept}

-- ---- receipt: what an accepted request left: its command and its reply

pub record Receipt : Type 0 where
  pub caller : List ℕ
  pub key : List ℕ
  pub command : List ℕ
  pub kind : ℕ
  pub n1 : ℕ
  pub n2 : ℕ
  pub n3 : ℕ

-- as a query shows it
abbrev pub receipt_columns : Receipt → Row
receipt_columns r = Text r.caller ∷ Text r.key ∷ Blob r.command ∷ Int (pos r.kind) ∷ Int (pos r.n1) ∷ Int (pos r.n2) ∷ Int (pos r.n3) ∷ []

-- as the table keeps it, under its rowid
abbrev pub receipt_row : Kept Receipt → Row
receipt_row k = Int k.0 ∷ receipt_columns k.1

abbrev pub receipt_in : ReceiptRow → Receipt
receipt_in r = record { caller = string_bytes r.caller; key = string_bytes r.key; command = r.command.items; kind = r.kind; n1 = r.n1; n2 = r.n2; n3 = r.n3 }

-- as it is read from a stored row, whatever that holds
abbrev pub receipt_at : Row → Kept Receipt
receipt_at r = (
  int_of (column r 0),
  record {
    caller = bytes_of (column r 1);
    key = bytes_of (column r 2);
    command = bytes_of (column r 3);
    kind = number_in (column r 4);
    n1 = number_in (column r 5);
    n2 = number_in (column r 6);
    n3 = number_in (column r 7);
  },
)

-- ---- cancellation: a cancellation

pub record Cancellation : Type 0 where
  pub number : ℕ
  pub account : ℕ
  pub first : ℕ
  pub last : ℕ
  pub beneficiary : List ℕ
  pub use_first : List ℕ
  pub use_last : List ℕ
  pub day : List ℕ

abbrev pub cancellation_key : Cancellation → ℤ
cancellation_key c = pos c.number

-- as the table keeps it, the number being the rowid
abbrev pub cancellation_row : Cancellation → Row
cancellation_row c =
    Int (pos c.number) ∷ Null ∷ Int (pos c.account) ∷ Int (pos c.first) ∷ Int (pos c.last) ∷ Text c.beneficiary ∷ Text c.use_first ∷ Text c.use_last ∷ Text c.day ∷ []

-- as a query shows it
abbrev pub cancellation_columns : Cancellation → Row
cancellation_columns c =
    Int (pos c.number) ∷ Int (pos c.account) ∷ Int (pos c.first) ∷ Int (pos c.last) ∷ Text c.beneficiary ∷ Text c.use_first ∷ Text c.use_last ∷ Text c.day ∷ []

abbrev pub cancellation_in : CancellationRow → Cancellation
cancellation_in c = record { number = c.number; account = c.account; first = c.first; last = c.last; beneficiary = string_bytes c.beneficiary; use_first = string_bytes c.use_first; use_last = string_bytes c.use_last; day = string_bytes c.day }

-- as it is read from a stored row, whatever that holds
abbrev pub cancellation_at : Row → Cancellation
cancellation_at r = record {
  number = number_in (column r 0);
  account = number_in (column r 2);
  first = number_in (column r 3);
  last = number_in (column r 4);
  beneficiary = bytes_of (column r 5);
  use_first = bytes_of (column r 6);
  use_last = bytes_of (column r 7);
  day = bytes_of (column r 8);
}

-- ---- withdrawal: a withdrawal

pub record Withdrawal : Type 0 where
  pub number : ℕ
  pub first : ℕ
  pub last : ℕ
  pub reason : List ℕ
  pub day : List ℕ

abbrev pub withdrawal_key : Withdrawal → ℤ
withdrawal_key w = pos w.number

-- as the table keeps it, the number being the rowid
abbrev pub withdrawal_row : Withdrawal → Row
withdrawal_row w =
    Int (pos w.number) ∷ Null ∷ Int (pos w.first) ∷ Int (pos w.last) ∷ Text w.reason ∷ Text w.day ∷ []

-- as a query shows it
abbrev pub withdrawal_columns : Withdrawal → Row
withdrawal_columns w =
    Int (pos w.number) ∷ Int (pos w.first) ∷ Int (pos w.last) ∷ Text w.reason ∷ Text w.day ∷ []

abbrev pub withdrawal_in : WithdrawalRow → Withdrawal
withdrawal_in w = record { number = w.number; first = w.first; last = w.last; reason = string_bytes w.reason; day = string_bytes w.day }

-- as it is read from a stored row, whatever that holds
abbrev pub withdrawal_at : Row → Withdrawal
withdrawal_at r = record {
  number = number_in (column r 0);
  first = number_in (column r 2);
  last = number_in (column r 3);
  reason = bytes_of (column r 4);
  day = bytes_of (column r 5);
}

-- ---- notice_out: a notice that was sent

pub record NoticeOut : Type 0 where
  pub number : ℕ
  pub account : ℕ
  pub body : List ℕ

abbrev pub notice_out_key : NoticeOut → ℤ
notice_out_key n = pos n.number

-- as the table keeps it, the number being the rowid
abbrev pub notice_out_row : NoticeOut → Row
notice_out_row n =
    Int (pos n.number) ∷ Null ∷ Int (pos n.account) ∷ Text n.body ∷ []

-- as a query shows it
abbrev pub notice_out_columns : NoticeOut → Row
notice_out_columns n =
    Int (pos n.number) ∷ Int (pos n.account) ∷ Text n.body ∷ []

abbrev pub notice_out_in : NoticeOutRow → NoticeOut
notice_out_in n = record { number = n.number; account = n.account; body = n.body.items }

-- as it is read from a stored row, whatever that holds
abbrev pub notice_out_at : Row → NoticeOut
notice_out_at r = record {
  number = number_in (column r 0);
  account = number_in (column r 2);
  body = bytes_of (column r 3);
}

-- ---- notice_in: a notice that came in

pub record NoticeIn : Type 0 where
  pub sender : ℕ
  pub number : ℕ
  pub body : List ℕ

-- as a query shows it
abbrev pub notice_in_columns : NoticeIn → Row
notice_in_columns n = Int (pos n.sender) ∷ Int (pos n.number) ∷ Text n.body ∷ []

-- as the table keeps it, under its rowid
abbrev pub notice_in_row : Kept NoticeIn → Row
notice_in_row k = Int k.0 ∷ notice_in_columns k.1

abbrev pub notice_in_in : NoticeInRow → NoticeIn
notice_in_in n = record { sender = n.sender; number = n.number; body = n.body.items }

-- as it is read from a stored row, whatever that holds
abbrev pub notice_in_at : Row → Kept NoticeIn
notice_in_at r = (
  int_of (column r 0),
  record {
    sender = number_in (column r 1);
    number = number_in (column r 2);
    body = bytes_of (column r 3);
  },
)
