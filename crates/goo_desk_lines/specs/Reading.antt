-- What a reader of a line returns.
use Rattle.std.specs.Prelude.{◌≡◌, Result, Ok, Err}
use Rattle.goo_types.specs.declared.request.Request.{Request}
use Rattle.goo_desk_outcome.specs.declared.unreadable.Unreadable.{Unreadable}
use Rattle.goo_desk_lines.specs.declared.unread.Unread.{Unread}
use Rattle.goo_desk_lines.specs.declared.unread.Unread.TheVariants as unread

abbrev pub Because : Unread → Result Request Unreadable → Type 0
Because (unread.Unreadable reason) reading = reading ≡ Err reason
Because unread.Memory reading = Unit {0}

-- what the line states, unless memory ran out
abbrev pub Reads : Result Request Unread → Result Request Unreadable → Type 0
Reads (Ok request) reading = reading ≡ Ok request
Reads (Err why) reading = Because why reading
