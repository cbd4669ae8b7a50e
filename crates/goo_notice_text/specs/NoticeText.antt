-- Which notice a text is read as.
use Rattle.std.specs.Prelude.{◌≡◌, ◌↔◌, ℕ, List, Result, Ok, Err, if◌then◌else◌}
use Rattle.std.specs.Option.{ok_or}
use Rattle.std.specs.Str.{bytes_eq}
use Rattle.goo_types.specs.Notice.{NoticeContents}
use Rattle.goo_notice_text.specs.declared.notice_fault.NoticeFault.{NoticeFault}
use Rattle.goo_notice_text.specs.declared.notice_fault.NoticeFault.TheVariants.{NotJson, Canonical}
use Rattle.goo_notice_json.specs.Faults.{◌>>=◌}
use Rattle.goo_notice_text.specs.NoticeFaults.{as_notice}
use Rattle.goo_notice_json.specs.Json.{json_in}
use Rattle.goo_notice_text.specs.Notice.{notice_text, IsStatedNotice, notice_of}

-- the notice, where the bytes are its text
abbrev pub canonical : List ℕ → NoticeContents → Result NoticeContents NoticeFault
canonical bytes n = if bytes_eq (notice_text n) bytes then Ok n else Err Canonical

-- what bytes are read as
unfoldable pub notice_in : List ℕ → Result NoticeContents NoticeFault
notice_in bytes = do
  d ← ok_or (json_in bytes) NotJson
  n ← as_notice (notice_of d)
  canonical bytes n

-- ---- laws

-- a notice is read from its text, and from no other bytes
abbrev pub NoticesAreReadFromTheirTexts : Type 0
NoticesAreReadFromTheirTexts =
    (bytes : List ℕ) (n : NoticeContents) → (notice_in bytes ≡ Ok n) ↔ (IsStatedNotice n × (bytes ≡ notice_text n))

-- so two notices with one text are one notice
abbrev pub NoticeTextsDiffer : Type 0
NoticeTextsDiffer = (a b : NoticeContents) → IsStatedNotice a → IsStatedNotice b → notice_text a ≡ notice_text b → a ≡ b
