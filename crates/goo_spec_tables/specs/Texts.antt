-- What the texts of columns state.
use Rattle.std.specs.Prelude.{ℕ, List, [], Option, Some, None}
use Rattle.std.specs.Result.{result_unwrap_or}
use Rattle.goo_types.specs.Carrier.{carrier_reading}
use Rattle.goo_types.specs.Day.{CalendarDay, day_reading}
use Rattle.goo_types.specs.Notice.{NoticeContents}
use Rattle.goo_types.specs.Support.{support_reading}
use Rattle.goo_types.specs.declared.carrier.Carrier.{Carrier}
use Rattle.goo_types.specs.declared.carrier.Carrier.TheVariants as carrier
use Rattle.goo_types.specs.declared.support.Support.{Support}
use Rattle.goo_types.specs.declared.support.Support.TheVariants as support
use Rattle.goo_notice_text.specs.NoticeText.{notice_in}

-- no day of the calendar
abbrev pub no_day : CalendarDay
no_day = record { year = 0; month = 0; day = 0 }

abbrev pub day_of : List ℕ → CalendarDay
day_of text = result_unwrap_or (day_reading text) no_day

abbrev pub support_of : List ℕ → Support
support_of text = result_unwrap_or (support_reading text) support.None

-- what makes a carrier known: a word for another than electricity, or none
abbrev pub carrier_of : Option (List ℕ) → Carrier
carrier_of None = carrier.Electricity
carrier_of (Some word) = result_unwrap_or (carrier_reading word) carrier.Electricity

-- no notice of any registry
abbrev pub no_notice : NoticeContents
no_notice = record { sender = 0; addressee = 0; number = 0; account = 0; parts = [] }

abbrev pub notice_of : List ℕ → NoticeContents
notice_of body = result_unwrap_or (notice_in body) no_notice
