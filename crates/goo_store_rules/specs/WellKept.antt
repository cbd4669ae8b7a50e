-- The rules that the tables of a registry keep, one by one.
use Rattle.std.specs.Prelude.{String}
use Rattle.std.specs.declared.alloc.Global.{Global}
use Rattle.std.specs.BTreeSet.{BTreeSet}
use Rattle.std.specs.Prelude.{string_bytes, if◌then◌else◌, ℕ, ◌==◌, ◌&&◌, ◌||◌, not, Bool, true, false, nat_le, nat_lt, List, [], ◌∷◌, Option, Some, None}
use Rattle.std.specs.declared.cmp.Ordering.{Ordering}
use Rattle.std.specs.Str.{bytes_eq}
use Rattle.std.specs.List.{list_any}
use Rattle.goo_types.specs.Number.{code_of, serial_of}
use Rattle.std.specs.Ordering.{nat_cmp, eq_by_cmp, is_lt, ordering_then}
use Rattle.goo_spec.specs.State.{text_cmp}
use Rattle.goo_spec.specs.Checks.{issuer}
use Rattle.goo_tables_rows.specs.Rows.{Holder, Account, Lot, Device, Declaration, Correction, Withdrawal, NoticeOut}
use Rattle.goo_tables_rows.specs.declared.peer.PeerRow.{PeerRow}
use Rattle.goo_tables_rows.specs.declared.piece.PieceRow.{PieceRow}
use Rattle.goo_spec_tables.specs.Renewed.{goes_on}
use Rattle.goo_store_receipts.specs.declared.cancellations.JudgedCancellation.{JudgedCancellation}

-- the issuing body is no holder
abbrev pub is_no_issuer : Holder → Bool
is_no_issuer h = not (bytes_eq h.code issuer)

-- no peer is the registry itself
abbrev pub is_another : ℕ → PeerRow → Bool
is_another own p = not (p.code == own)

-- no auxiliaries use more than was produced
abbrev pub covers_aux : Declaration → Bool
covers_aux d = nat_le d.aux d.gross

-- numbers that were given are below the next one
abbrev pub account_given : ℕ → Account → Bool
account_given next a = nat_lt a.number next

abbrev pub cancellation_given : ℕ → JudgedCancellation → Bool
cancellation_given next c = nat_lt c.number next

abbrev pub withdrawal_given : ℕ → Withdrawal → Bool
withdrawal_given next w = nat_lt w.number next

abbrev pub notice_given : ℕ → NoticeOut → Bool
notice_given next n = nat_lt n.number next

-- certificates of the own code were issued: they end below the next serial
abbrev pub is_issued : ℕ → ℕ → PieceRow → Bool
is_issued own next p = not (code_of p.last == own) || nat_lt (serial_of p.last) next

-- each piece begins above the last number of the piece before it
abbrev pub are_apart : Option ℕ → List PieceRow → Bool
are_apart before [] = true
are_apart None (p ∷ ps) = are_apart (Some p.last) ps
are_apart (Some last) (p ∷ ps) = nat_lt last p.first && are_apart (Some p.last) ps

-- no piece goes on where the one before it ends
abbrev pub are_joined : Option PieceRow → List PieceRow → Bool
are_joined before [] = true
are_joined None (p ∷ ps) = are_joined (Some p) ps
are_joined (Some before) (p ∷ ps) = not (goes_on before p) && are_joined (Some p) ps

-- ---- names that have to be there

abbrev pub has_holder : List Holder → List ℕ → Bool
has_holder holders code = list_any (λ h. eq_by_cmp text_cmp code h.code) holders

abbrev pub has_account : List Account → ℕ → Bool
has_account accounts number = list_any (λ a. eq_by_cmp nat_cmp number a.number) accounts

abbrev pub has_device : List Device → List ℕ → Bool
has_device devices gsrn = list_any (λ d. eq_by_cmp text_cmp gsrn d.gsrn) devices

-- a lot with this number
abbrev pub has_lot : List Lot → ℕ → Bool
has_lot lots id = list_any (λ l. eq_by_cmp nat_cmp id l.id) lots

abbrev pub has_cancellation : List JudgedCancellation → ℕ → Bool
has_cancellation acts number = list_any (λ c. eq_by_cmp nat_cmp number c.number) acts

abbrev pub has_withdrawal : List Withdrawal → ℕ → Bool
has_withdrawal acts number = list_any (λ w. eq_by_cmp nat_cmp number w.number) acts

abbrev pub has_sent : List NoticeOut → ℕ → Bool
has_sent notices number = list_any (λ n. eq_by_cmp nat_cmp number n.number) notices

-- the act that a piece names, if it names one: 2 a cancellation, 4 a withdrawal, 5 a notice that was sent
abbrev pub act_in : (ℕ → Bool) → (ℕ → Bool) → (ℕ → Bool) → PieceRow → Bool
act_in is_cancellation is_withdrawal is_sent p =
    if p.kind == 2 then is_cancellation p.act
    else (if p.kind == 4 then is_withdrawal p.act
    else (if p.kind == 5 then is_sent p.act else true))

-- whether a set of texts has one
abbrev pub has_text : BTreeSet (String Global) → List ℕ → Bool
has_text set text = list_any (λ k. eq_by_cmp text_cmp text (string_bytes k)) set.keys

-- ---- what the lots and accounts of pieces allow

abbrev pub has_closed : List Account → ℕ → Bool
has_closed accounts number = list_any (λ a. (a.closed == 1) && eq_by_cmp nat_cmp number a.number) accounts

-- the lot's certificates that are still held have expired before this day
abbrev pub is_over_at : List ℕ → Option (List ℕ) → Bool
is_over_at today None = false
is_over_at today (Some expires_on) = is_lt (text_cmp expires_on today)

abbrev pub has_over : List ℕ → List Lot → ℕ → Bool
has_over today lots id = list_any (λ l. is_over_at today l.expires_on && eq_by_cmp nat_cmp id l.id) lots

-- pairs of numbers, by the first and then by the second
abbrev pub pair_cmp : ℕ × ℕ → ℕ × ℕ → Ordering
pair_cmp a b = ordering_then (nat_cmp a.0 b.0) (nat_cmp a.1 b.1)

-- a lot with this number, of this origin
abbrev pub has_lot_of : ℕ → List Lot → ℕ → Bool
has_lot_of origin lots id = list_any (λ l. eq_by_cmp pair_cmp (id, origin) (l.id, l.origin)) lots

-- a held piece is of a lot that isn't over, in an account that isn't closed; an expired one of a lot that is over
abbrev pub is_timely : (ℕ → Bool) → (ℕ → Bool) → PieceRow → Bool
is_timely is_over is_closed p =
    if p.kind == 1 then not (is_over p.lot) && not (is_closed p.account)
    else (if p.kind == 3 then is_over p.lot else true)

-- ---- lots of the registry itself

-- pairs of texts, by the first and then by the second
abbrev pub text_pair_cmp : List ℕ × List ℕ → List ℕ × List ℕ → Ordering
text_pair_cmp a b = ordering_then (text_cmp a.0 b.0) (text_cmp a.1 b.1)

-- a declaration of the device with this first day
abbrev pub has_declaration : List Declaration → List ℕ → List ℕ → Bool
has_declaration declarations device first_day = list_any (λ d. eq_by_cmp text_pair_cmp (device, first_day) (d.device, d.first_day)) declarations

abbrev pub bytes_pair : String Global × String Global → List ℕ × List ℕ
bytes_pair p = (string_bytes p.0, string_bytes p.1)

abbrev pub has_pair : BTreeSet (String Global × String Global) → List ℕ → List ℕ → Bool
has_pair set a b = list_any (λ k. eq_by_cmp text_pair_cmp (a, b) (bytes_pair k)) set.keys

-- a lot of the device
abbrev pub has_lot_device : List Lot → List ℕ → Bool
has_lot_device lots device = list_any (λ l. eq_by_cmp text_cmp device l.device) lots

-- a correction of the device
abbrev pub has_corrected : List Correction → List ℕ → Bool
has_corrected corrections device = list_any (λ c. eq_by_cmp text_cmp device c.device) corrections

-- a declaration of the lot's device with its first day
abbrev pub is_of_lot : Lot → Declaration → Bool
is_of_lot l d = bytes_eq l.device d.device && bytes_eq l.first_day d.first_day

-- an own lot was declared
abbrev pub is_declared : (List ℕ → List ℕ → Bool) → ℕ → Lot → Bool
is_declared has own l = not (l.origin == own) || has l.device l.first_day

-- ---- corrections

-- the withdrawal that a correction names is there, if it names one
abbrev pub is_withdrawn : (ℕ → Bool) → ℕ → Bool
is_withdrawn has act = (act == 0) || has act
