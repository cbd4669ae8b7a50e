use Rattle.std.proofs.Common.{rules}
use Rattle.clap.specs.Words.{found_of}
use Rattle.goo_cli.proofs.Parsing.{values-read}
use Rattle.goo_cli.proofs.given.read_options.Goals as goal

pub returns : goal.returns
returns c =
    let read = values-read (found_of c.args.under.now) in
    search (rules, read)
