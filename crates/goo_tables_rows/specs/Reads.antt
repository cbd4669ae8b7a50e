-- Which rows of an answer read as a value, column by column.
use Rattle.std.specs.Prelude.{◌≡◌, ◌⊎◌, List, ℕ, ◌+◌, pos, string_bytes, option_map}
use Rattle.sqlite.specs.declared.types.Value.TheVariants.{Int, Text, Blob}
use Rattle.sqlite.specs.declared.types.Value.{Value}
use Rattle.sqlite.specs.Order.{Row, column}
use Rattle.sqlite_typed.specs.Columns.{or_null}
use Rattle.goo_tables_rows.specs.declared.meta.MetaRow.{MetaRow}
use Rattle.goo_tables_rows.specs.declared.holder.HolderRow.{HolderRow}
use Rattle.goo_tables_rows.specs.declared.account.AccountRow.{AccountRow}
use Rattle.goo_tables_rows.specs.declared.device.DeviceRow.{DeviceRow}
use Rattle.goo_tables_rows.specs.declared.declaration.DeclarationRow.{DeclarationRow}
use Rattle.goo_tables_rows.specs.declared.lot.LotRow.{LotRow}
use Rattle.goo_tables_rows.specs.declared.piece.PieceRow.{PieceRow}
use Rattle.goo_tables_rows.specs.declared.peer.PeerRow.{PeerRow}
use Rattle.goo_tables_rows.specs.declared.receipt.ReceiptRow.{ReceiptRow}
use Rattle.goo_tables_rows.specs.declared.cancellation.CancellationRow.{CancellationRow}
use Rattle.goo_tables_rows.specs.declared.withdrawal.WithdrawalRow.{WithdrawalRow}
use Rattle.goo_tables_rows.specs.declared.notice_out.NoticeOutRow.{NoticeOutRow}
use Rattle.goo_tables_rows.specs.declared.notice_in.NoticeInRow.{NoticeInRow}
use Rattle.goo_tables_rows.specs.declared.correction.CorrectionRow.{CorrectionRow}
use Rattle.goo_tables_rows.specs.declared.device_carrier.DeviceCarrierRow.{DeviceCarrierRow}
use Rattle.goo_tables_rows.specs.declared.lot_carrier.LotCarrierRow.{LotCarrierRow}
use Rattle.goo_tables_rows.specs.declared.numbered_meta.NumberedMeta.{NumberedMeta}
use Rattle.goo_tables_rows.specs.declared.plant.PlantRow.{PlantRow}
use Rattle.goo_tables_rows.specs.declared.joined.JoinedRow.{JoinedRow}

-- the value is these bytes, as a text or as a blob
abbrev pub IsOctets : Value → List ℕ → Type 0
IsOctets v bytes = (v ≡ Text bytes) ⊎ (v ≡ Blob bytes)

-- from a place on
abbrev pub plant_reads : ℕ → Row → PlantRow → Type 0
plant_reads i r p =
    (column r (i + 0) ≡ Text (string_bytes p.country))
    × (column r (i + 1) ≡ Text (string_bytes p.site))
    × (column r (i + 2) ≡ Text (string_bytes p.tech))
    × (column r (i + 3) ≡ Text (string_bytes p.source))
    × (column r (i + 4) ≡ Int (pos p.capacity_w))
    × (column r (i + 5) ≡ Text (string_bytes p.commissioned))
    × (column r (i + 6) ≡ Text (string_bytes p.support))

abbrev pub meta_reads : Row → MetaRow → Type 0
meta_reads r x = (column r 0 ≡ Int (pos x.version))
    × (column r 1 ≡ Int (pos x.code))
    × (column r 2 ≡ Text (string_bytes x.today))
    × (column r 3 ≡ Int (pos x.next_serial))
    × (column r 4 ≡ Int (pos x.next_account))
    × (column r 5 ≡ Int (pos x.next_cancellation))
    × (column r 6 ≡ Int (pos x.next_withdrawal))
    × (column r 7 ≡ Int (pos x.next_notice))

abbrev pub holder_reads : Row → HolderRow → Type 0
holder_reads r x = (column r 0 ≡ Text (string_bytes x.code))
    × (column r 1 ≡ Text (string_bytes x.name))

abbrev pub account_reads : Row → AccountRow → Type 0
account_reads r x = (column r 0 ≡ Int (pos x.number))
    × (column r 1 ≡ Text (string_bytes x.holder))
    × (column r 2 ≡ Int (pos x.closed))

abbrev pub device_reads : Row → DeviceRow → Type 0
device_reads r x = (column r 0 ≡ Text (string_bytes x.gsrn))
    × (column r 1 ≡ Int (pos x.account))
    × plant_reads 2 r x.plant
    × (column r 9 ≡ or_null Text (option_map string_bytes x.last_day))
    × (column r 10 ≡ Int (pos x.carry))
    × (column r 11 ≡ or_null Text (option_map string_bytes x.carrier))

abbrev pub declaration_reads : Row → DeclarationRow → Type 0
declaration_reads r x = (column r 0 ≡ Int (pos x.id))
    × (column r 1 ≡ Text (string_bytes x.device))
    × (column r 2 ≡ Text (string_bytes x.first_day))
    × (column r 3 ≡ Text (string_bytes x.last_day))
    × (column r 4 ≡ Int (pos x.gross))
    × (column r 5 ≡ Int (pos x.aux))

-- from a place on
abbrev pub lot_reads : ℕ → Row → LotRow → Type 0
lot_reads i r x =
    (column r (i + 0) ≡ Int (pos x.id))
    × (column r (i + 1) ≡ Int (pos x.origin))
    × (column r (i + 2) ≡ Text (string_bytes x.device))
    × plant_reads (i + 3) r x.plant
    × (column r (i + 10) ≡ Text (string_bytes x.first_day))
    × (column r (i + 11) ≡ Text (string_bytes x.last_day))
    × (column r (i + 12) ≡ or_null Text (option_map string_bytes x.expires_on))
    × (column r (i + 13) ≡ Text (string_bytes x.issued_on))
    × (column r (i + 14) ≡ or_null Text (option_map string_bytes x.carrier))

abbrev pub piece_reads : Row → PieceRow → Type 0
piece_reads r x = (column r 0 ≡ Int (pos x.first))
    × (column r 1 ≡ Int (pos x.last))
    × (column r 2 ≡ Int (pos x.lot))
    × (column r 3 ≡ Int (pos x.kind))
    × (column r 4 ≡ Int (pos x.account))
    × (column r 5 ≡ Int (pos x.act))

abbrev pub peer_reads : Row → PeerRow → Type 0
peer_reads r x = (column r 0 ≡ Int (pos x.code))

abbrev pub receipt_reads : Row → ReceiptRow → Type 0
receipt_reads r x = (column r 0 ≡ Text (string_bytes x.caller))
    × (column r 1 ≡ Text (string_bytes x.key))
    × IsOctets (column r 2) x.command.items
    × (column r 3 ≡ Int (pos x.kind))
    × (column r 4 ≡ Int (pos x.n1))
    × (column r 5 ≡ Int (pos x.n2))
    × (column r 6 ≡ Int (pos x.n3))

abbrev pub cancellation_reads : Row → CancellationRow → Type 0
cancellation_reads r x = (column r 0 ≡ Int (pos x.number))
    × (column r 1 ≡ Int (pos x.account))
    × (column r 2 ≡ Int (pos x.first))
    × (column r 3 ≡ Int (pos x.last))
    × (column r 4 ≡ Text (string_bytes x.beneficiary))
    × (column r 5 ≡ Text (string_bytes x.use_first))
    × (column r 6 ≡ Text (string_bytes x.use_last))
    × (column r 7 ≡ Text (string_bytes x.day))

abbrev pub withdrawal_reads : Row → WithdrawalRow → Type 0
withdrawal_reads r x = (column r 0 ≡ Int (pos x.number))
    × (column r 1 ≡ Int (pos x.first))
    × (column r 2 ≡ Int (pos x.last))
    × (column r 3 ≡ Text (string_bytes x.reason))
    × (column r 4 ≡ Text (string_bytes x.day))

abbrev pub notice_out_reads : Row → NoticeOutRow → Type 0
notice_out_reads r x = (column r 0 ≡ Int (pos x.number))
    × (column r 1 ≡ Int (pos x.account))
    × IsOctets (column r 2) x.body.items

abbrev pub notice_in_reads : Row → NoticeInRow → Type 0
notice_in_reads r x = (column r 0 ≡ Int (pos x.sender))
    × (column r 1 ≡ Int (pos x.number))
    × IsOctets (column r 2) x.body.items

abbrev pub correction_reads : Row → CorrectionRow → Type 0
correction_reads r x = (column r 0 ≡ Int (pos x.id))
    × (column r 1 ≡ Text (string_bytes x.device))
    × (column r 2 ≡ Text (string_bytes x.first_day))
    × (column r 3 ≡ Int (pos x.less))
    × (column r 4 ≡ Int (pos x.withdrawal))

abbrev pub device_carrier_reads : Row → DeviceCarrierRow → Type 0
device_carrier_reads r x = (column r 0 ≡ Text (string_bytes x.gsrn))
    × (column r 1 ≡ Text (string_bytes x.carrier))

abbrev pub lot_carrier_reads : Row → LotCarrierRow → Type 0
lot_carrier_reads r x = (column r 0 ≡ Int (pos x.lot))
    × (column r 1 ≡ Text (string_bytes x.carrier))

-- a piece and then its lot
abbrev pub joined_reads : Row → JoinedRow → Type 0
joined_reads r x = piece_reads r x.piece × lot_reads 6 r x.lot

abbrev pub numbered_meta_reads : Row → NumberedMeta → Type 0
numbered_meta_reads r x = (column r 0 ≡ Int (pos x.id))
    × (column r 1 ≡ Int (pos x.meta.version))
    × (column r 2 ≡ Int (pos x.meta.code))
    × (column r 3 ≡ Text (string_bytes x.meta.today))
    × (column r 4 ≡ Int (pos x.meta.next_serial))
    × (column r 5 ≡ Int (pos x.meta.next_account))
    × (column r 6 ≡ Int (pos x.meta.next_cancellation))
    × (column r 7 ≡ Int (pos x.meta.next_withdrawal))
    × (column r 8 ≡ Int (pos x.meta.next_notice))
