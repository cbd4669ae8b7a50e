use Rattle.std.proofs.Common.{length-set, arith}
use Rattle.std.specs.Prelude.{bit_xor}
use Rattle.goo_log_keyed.proofs.Masks.{mixed_more, mixed_all}
use Rattle.goo_log_keyed.proofs.key.masked.Goals as goal

pub loop-index-preserved : goal.loop-index-preserved
loop-index-preserved c =
    let inside = c.loop-index-test.true in
    let whole = c.loop-index.invariant.whole in
    let block = c.told-block in
    record {
      whole = rw length-set whole;
      mixed = mixed_more (λ b. bit_xor b c.args.byte) c.args.block.now c.loop-index.mixed c.loop-index.index (omega arith) (omega arith) c.loop-index.invariant.mixed;
    }

pub returns : goal.returns
returns c =
    let over = c.loop-index-test.false in
    let whole = c.loop-index.invariant.whole in
    let block = c.told-block in
    mixed_all (λ b. bit_xor b c.args.byte) c.args.block.now c.loop-index.mixed c.loop-index.index (omega arith) (omega arith) c.loop-index.invariant.mixed
