-- The rows of the registry itself, of holders, accounts and other registries, as plain records.
use Rattle.std.specs.Prelude.{ℕ, ℤ, pos, List, [], ◌∷◌, string_bytes}
use Rattle.sqlite.specs.declared.types.Value.TheVariants.{Null, Int, Text}
use Rattle.sqlite.specs.Order.{Row, column}
use Rattle.sqlite_typed.specs.Columns.{bytes_of, int_of}
use Rattle.goo_tables_rows.specs.declared.meta.MetaRow.{MetaRow}
use Rattle.goo_tables_rows.specs.declared.holder.HolderRow.{HolderRow}
use Rattle.goo_tables_rows.specs.declared.account.AccountRow.{AccountRow}
use Rattle.goo_tables_rows.specs.declared.peer.PeerRow.{PeerRow}
use Rattle.goo_tables_rows.specs.declared.numbered_meta.NumberedMeta.{NumberedMeta}
use Rattle.goo_tables_rows.specs.Cells.{number_in, Kept}

-- ---- meta: the registry itself

pub record Meta : Type 0 where
  pub version : ℕ
  pub code : ℕ
  pub today : List ℕ
  pub next_serial : ℕ
  pub next_account : ℕ
  pub next_cancellation : ℕ
  pub next_withdrawal : ℕ
  pub next_notice : ℕ

abbrev pub meta_row : Meta → Row
meta_row m =
    Int (pos 1) ∷ Null ∷ Int (pos m.version) ∷ Int (pos m.code) ∷ Text m.today ∷ Int (pos m.next_serial) ∷ Int (pos m.next_account) ∷ Int (pos m.next_cancellation) ∷ Int (pos m.next_withdrawal) ∷ Int (pos m.next_notice) ∷ []

abbrev pub meta_columns : Meta → Row
meta_columns m = Int (pos m.version) ∷ Int (pos m.code) ∷ Text m.today ∷ Int (pos m.next_serial) ∷ Int (pos m.next_account) ∷ Int (pos m.next_cancellation) ∷ Int (pos m.next_withdrawal) ∷ Int (pos m.next_notice) ∷ []

abbrev pub meta_in : MetaRow → Meta
meta_in m = record { version = m.version; code = m.code; today = string_bytes m.today; next_serial = m.next_serial; next_account = m.next_account; next_cancellation = m.next_cancellation; next_withdrawal = m.next_withdrawal; next_notice = m.next_notice }

-- as it is read from a stored row, whatever that holds
abbrev pub meta_at : Row → Meta
meta_at r = record {
  version = number_in (column r 2);
  code = number_in (column r 3);
  today = bytes_of (column r 4);
  next_serial = number_in (column r 5);
  next_account = number_in (column r 6);
  next_cancellation = number_in (column r 7);
  next_withdrawal = number_in (column r 8);
  next_notice = number_in (column r 9);
}

-- a row of `meta` under any number
pub record Numbered : Type 0 where
  pub id : ℕ
  pub meta : Meta

abbrev pub numbered_key : Numbered → ℤ
numbered_key n = pos n.id

abbrev pub numbered_row : Numbered → Row
numbered_row n = Int (pos n.id) ∷ Null ∷ meta_columns n.meta

abbrev pub numbered_in : NumberedMeta → Numbered
numbered_in n = record { id = n.id; meta = meta_in n.meta }

-- ---- holder: a holder

pub record Holder : Type 0 where
  pub code : List ℕ
  pub name : List ℕ

-- as a query shows it
abbrev pub holder_columns : Holder → Row
holder_columns h = Text h.code ∷ Text h.name ∷ []

-- as the table keeps it, under its rowid
abbrev pub holder_row : Kept Holder → Row
holder_row k = Int k.0 ∷ holder_columns k.1

abbrev pub holder_in : HolderRow → Holder
holder_in h = record { code = string_bytes h.code; name = string_bytes h.name }

-- as it is read from a stored row, whatever that holds
abbrev pub holder_at : Row → Kept Holder
holder_at r = (
  int_of (column r 0),
  record {
    code = bytes_of (column r 1);
    name = bytes_of (column r 2);
  },
)

-- ---- account: an account, open where `closed` is 0

pub record Account : Type 0 where
  pub number : ℕ
  pub holder : List ℕ
  pub closed : ℕ

abbrev pub account_key : Account → ℤ
account_key a = pos a.number

-- as the table keeps it, the number being the rowid
abbrev pub account_row : Account → Row
account_row a =
    Int (pos a.number) ∷ Null ∷ Text a.holder ∷ Int (pos a.closed) ∷ []

-- as a query shows it
abbrev pub account_columns : Account → Row
account_columns a =
    Int (pos a.number) ∷ Text a.holder ∷ Int (pos a.closed) ∷ []

abbrev pub account_in : AccountRow → Account
account_in a = record { number = a.number; holder = string_bytes a.holder; closed = a.closed }

-- as it is read from a stored row, whatever that holds
abbrev pub account_at : Row → Account
account_at r = record {
  number = number_in (column r 0);
  holder = bytes_of (column r 2);
  closed = number_in (column r 3);
}

-- ---- peer

-- as a query shows it
abbrev pub peer_columns : PeerRow → Row
peer_columns p = Int (pos p.code) ∷ []

-- as the table keeps it, under its rowid
abbrev pub peer_row : Kept PeerRow → Row
peer_row k = Int k.0 ∷ peer_columns k.1

-- as it is read from a stored row, whatever that holds
abbrev pub peer_at : Row → Kept PeerRow
peer_at r = (
  int_of (column r 0),
  record {
    code = number_in (column r 1);
  },
)
