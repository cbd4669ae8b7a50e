use Rattle.std.proofs.Common.{◌∙◌, take, sym, ap, arith}
use Rattle.goo_ranges_pieces.proofs.Joining.{piece-forward, take-piece}
use Rattle.goo_types.specs.Piece.{at_of}
use Rattle.goo_core_moves.specs.Withdraw.{runs_withdrawn}
use Rattle.goo_core_moves.proofs.Withdrawing.{runs_withdrawn_push, counted_push}
use Rattle.goo_core_moves.proofs.withdraw.withdraw_runs.Goals as goal

pub withdraw_run-requires-clause-forward : goal.withdraw_run-requires-clause-forward
withdraw_run-requires-clause-forward c = piece-forward 0 c.args.runs.now c.loop-run.run-index c.run-item.result c.requires.runs_rise (omega arith) c.run-item.is

pub loop-run-preserved : goal.loop-run-preserved
loop-run-preserved c =
    let run = c.run-item.result in
    let before = take c.loop-run.run-index c.args.runs.now in
    let more = take-piece c.args.runs.now c.loop-run.run-index run (omega arith) c.run-item.is in
    let step = c.in_ok-withdraw_run.ensures.made c.args.book.now (runs_withdrawn c.args.range c.args.act before) c.loop-run.invariant.made in
    record {
      made = record {
        within = step.within;
        book_is = step.book_is;
        small = step.small;
        lots = step.lots;
        changes = λ n. step.changes n ∙ sym (ap (λ l. runs_withdrawn c.args.range c.args.act l n (at_of c.args.book.now n)) more ∙ runs_withdrawn_push c.args.range c.args.act before run n (at_of c.args.book.now n));
      };
      one_each = rw more (omega (arith, c.in_ok-withdraw_run.ensures.one, c.loop-run.invariant.one_each, counted_push c.args.range before run));
      rising = c.in_ok-withdraw_run.ensures.stays;
    }
