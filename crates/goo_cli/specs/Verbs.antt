-- The commands, by their words.
use Rattle.std.specs.Prelude.{List, ℕ, codes, Option, Some, None, if◌then◌else◌}
use Rattle.std.specs.Str.{bytes_eq}
use Rattle.goo_cli.specs.declared.verb.Verb.{Verb}
use Rattle.goo_cli.specs.declared.verb.Verb.TheVariants as verb

abbrev pub verb_in : List ℕ → Option Verb
verb_in word =
    if bytes_eq word (codes "init") then Some verb.Init else
    if bytes_eq word (codes "run") then Some verb.Run else
    if bytes_eq word (codes "declare") then Some verb.Declare else
    if bytes_eq word (codes "statement") then Some verb.Statement else
    if bytes_eq word (codes "audit") then Some verb.Audit else
    if bytes_eq word (codes "serve") then Some verb.Serve else None
