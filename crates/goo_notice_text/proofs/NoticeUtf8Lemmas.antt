-- The text of a notice is UTF-8.
use Rattle.std.proofs.Common.{◌<◌, Bool, true, false, refl, arith}
use Rattle.std.specs.Str.{IsUtf8}
use Rattle.json.proofs.Printed.Utf8.{IsUtf8-are_ascii}
use Rattle.goo_types.specs.Notice.{NoticeContents}
use Rattle.goo_notice_text.specs.Notice.{are_carried, version_of, notice_data, notice_text, IsStatedNotice}
use Rattle.goo_notice_json.proofs.FieldLemmas.{fits}
use Rattle.goo_notice_json.proofs.Utf8Lemmas.{HasUtf8, IsUtf8-decimal, IsUtf8-compact_text}
use Rattle.goo_notice_json.proofs.PartsUtf8Lemmas.{parts_utf8}

small : (b : Bool) → version_of b < 18446744073709551616
small true = omega arith
small false = omega arith

notice_utf8 : (n : NoticeContents) → IsStatedNotice n → HasUtf8 (notice_data n)
unfolding notice_data
notice_utf8 n h = (
  IsUtf8-are_ascii _ refl,
  IsUtf8-decimal n.account (fits 1 999999999 n.account h.account (omega arith)),
  (
    IsUtf8-are_ascii _ refl,
    IsUtf8-decimal n.addressee (fits 1 99 n.addressee h.addressee (omega arith)),
    (
      IsUtf8-are_ascii _ refl,
      IsUtf8-decimal n.number (fits 1 999999999 n.number h.number (omega arith)),
      (
        IsUtf8-are_ascii _ refl,
        parts_utf8 (are_carried n.parts) n.parts h.parts,
        (
          IsUtf8-are_ascii _ refl,
          IsUtf8-decimal n.sender (fits 1 99 n.sender h.sender (omega arith)),
          (IsUtf8-are_ascii _ refl, IsUtf8-decimal (version_of (are_carried n.parts)) (small (are_carried n.parts)), tt),
        ),
      ),
    ),
  ),
)

pub IsUtf8-notice_text : (n : NoticeContents) → IsStatedNotice n → IsUtf8 (notice_text n)
unfolding notice_text
IsUtf8-notice_text n h = IsUtf8-compact_text (notice_data n) (notice_utf8 n h)
