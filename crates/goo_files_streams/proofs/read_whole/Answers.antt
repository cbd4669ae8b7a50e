use Rattle.std.proofs.Common.{rules, ◌≡◌, IsErrAnd}
use Rattle.goo_files_streams.specs.declared.InputFault.TheVariants.{Memory}
use Rattle.goo_files_streams.proofs.Reading.{broken_over, broken_full}
use Rattle.goo_files_streams.proofs.read_whole.Goals as goal

pub returns-then-count-limit : goal.returns-then-count-limit
returns-then-count-limit g c =
    broken_over (g.R.Read.remaining c.args.reader.now) (g.R.Read.remaining c.loop-input.reader) (g.R.Read.remaining c.read_some.new.reader) c.args.limit c.loop-input.input.items c.read_some.new.buffer c.in_ok-count.count
    c.loop-input.invariant.taken c.in_ok-count.ensures.bytes c.in_ok-count.ensures.bound.0 c.loop-input.invariant.within (search rules)

pub returns-in_err-extend_from_slice : goal.returns-in_err-extend_from_slice
returns-in_err-extend_from_slice g c =
    let is : IsErrAnd c.from_residual-in_err-extend_from_slice.result (λ e. e ≡ Memory) = search rules in
    broken_full (g.R.Read.remaining c.args.reader.now) (g.R.Read.remaining c.loop-input.reader) (g.R.Read.remaining c.read_some.new.reader) c.args.limit c.loop-input.input.items c.read_some.new.buffer c.in_ok-count.count _ is
    c.loop-input.invariant.taken c.in_ok-count.ensures.bytes c.in_ok-count.ensures.bound.0 c.loop-input.invariant.within (search rules)
