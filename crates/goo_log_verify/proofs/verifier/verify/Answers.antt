use Rattle.std.proofs.Common.{rules, ◌≡◌, ◌++◌, [], List, ℕ, take, ap}
use Rattle.std.proofs.KnownBytes.{Consumes-trans}
use Rattle.goo_log_journal.specs.Place.{Place}
use Rattle.std.specs.Io.KnownBytes.{Consumes, IsAtEnd}
use Rattle.goo_log_journal.specs.Read.{place_of}
use Rattle.goo_log_verify.specs.Stops.{IsStop}
use Rattle.goo_log_verify.specs.Verdicts.{Stands, IsVerdict}
use Rattle.goo_log_verify.proofs.Steps.{ended, stopped}
use Rattle.goo_log_verify.proofs.verifier.verify.Goals as goal

pub returns-then-count-eq0 : goal.returns-then-count-eq0
returns-then-count-eq0 g c =
    let part = take c.in_ok-count.count c.read_some.new.buffer in
    let given : Consumes (g.R.Read.remaining c.loop.journal) (g.R.Read.remaining c.read_some.new.reader) part = search rules in
    let none : part ≡ [] = ap (λ n. take n c.read_some.new.buffer) c.if-count-eq0.true in
    let end : IsAtEnd (g.R.Read.remaining c.read_some.new.reader) = search rules in
    ended (g.R.Read.remaining c.args.journal.now) (g.R.Read.remaining c.loop.journal) (g.R.Read.remaining c.read_some.new.reader)
    c.loop.invariant.0 part (λ bytes. IsVerdict c.args.key.now (place_of c.args.from) bytes c.end.result) c.loop.invariant.1 given none end
    (c.end.ensures c.args.key.now (place_of c.args.from) c.loop.invariant.0 c.loop.invariant.2)

pub returns-in-Err : goal.returns-in-Err
returns-in-Err g c =
    let part = take c.in_ok-count.count c.read_some.new.buffer in
    let given : Consumes (g.R.Read.remaining c.loop.journal) (g.R.Read.remaining c.read_some.new.reader) part = search rules in
    let is : IsStop c.args.key.now (place_of c.args.from) (c.loop.invariant.0 ++ part) c.in-Err.stop = search (rules, c.loop.invariant.2) in
    stopped c.args.key.now (place_of c.args.from) (g.R.Read.remaining c.args.journal.now) (g.R.Read.remaining c.loop.journal)
    (g.R.Read.remaining c.read_some.new.reader) c.loop.invariant.0 part c.in-Err.stop c.verdict.result c.loop.invariant.1 given is c.verdict.ensures

pub loop-preserved : goal.loop-preserved
loop-preserved g c =
    let part = take c.in_ok-count.count c.read_some.new.buffer in
    let given : Consumes (g.R.Read.remaining c.loop.journal) (g.R.Read.remaining c.read_some.new.reader) part = search rules in
    let on : (from : Place) (bytes : List ℕ) → Stands c.args.key.now from bytes c.loop.verifier
    → Stands c.args.key.now from (bytes ++ part) c.take_piece.new.self = search rules in (
      c.loop.invariant.0 ++ part,
      Consumes-trans (g.R.Read.remaining c.args.journal.now) (g.R.Read.remaining c.loop.journal) (g.R.Read.remaining c.read_some.new.reader)
          c.loop.invariant.0 part c.loop.invariant.1 given,
      on (place_of c.args.from) c.loop.invariant.0 c.loop.invariant.2,
    )
