use Rattle.std.proofs.Common.{rules, inl}
use Rattle.goo_files_streams.specs.Streams.{IsWhole}
use Rattle.goo_files_import.proofs.import.import_declarations.Goals as goal

pub returns-in-Ok-clause-runs : goal.returns-in-Ok-clause-runs
returns-in-Ok-clause-runs g c =
    let read : IsWhole (g.R.Read.remaining c.args.reader.now) (g.R.Read.remaining c.read_whole.new.reader) 16777216 c.deref.result.now = search rules in
    inl (record { input = c.deref.result.now; read = read; stops = c.import_bytes.ensures.stops; imports = c.import_bytes.ensures.imports })
