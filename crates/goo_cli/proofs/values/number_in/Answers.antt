use Rattle.std.proofs.Common.{rules, sym}
use Rattle.goo_cli.proofs.Numbers.{none-unparsed}
use Rattle.goo_cli.proofs.values.number_in.Goals as goal

pub returns-in-Err-clause-value : goal.returns-in-Err-clause-value
returns-in-Err-clause-value c =
    sym (none-unparsed c.args.text.now c.parse.result c.in-Err.field-0 c.args.least c.args.most c.parse.ensures.value.0 c.in-Err.is (search rules) c.ranges.most.fits)
