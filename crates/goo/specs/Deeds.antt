-- What was done with files, as the system tells it.
use Rattle.std.specs.Prelude.{string_bytes}
use Rattle.goo.specs.declared.deed.Deed.{Deed}
use Rattle.goo.specs.declared.deed.Deed.TheVariants as own
use Rattle.goo_cli_system.specs.Deeds as system

abbrev pub deed_of : Deed → system.Deed
deed_of (own.OpenKept path) = system.OpenKept (string_bytes path)
deed_of (own.OpenNew path) = system.OpenNew (string_bytes path)
deed_of (own.RemoveLog path) = system.RemoveLog (string_bytes path)
