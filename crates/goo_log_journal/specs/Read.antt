-- Where a reader of a journal stands.
use Rattle.std.specs.Prelude.{ℕ, List, map, string_bytes}
use Rattle.goo_log_journal.specs.Place.{Place}
use Rattle.goo_log_journal.specs.declared.reading.Reading.{Reading}
use Rattle.goo_log_journal.specs.declared.reading.Waiting.{Waiting}

abbrev pub waiting_of : Waiting → ℕ × List ℕ
waiting_of w = (w.number, string_bytes w.route)

abbrev pub place_of : Reading → Place
place_of r = record { number = r.number; hash = r.hash; chain = r.chain.items; waiting = map waiting_of r.waiting.items }
