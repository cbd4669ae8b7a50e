use Rattle.std.proofs.Common.{rules, ◌≡◌}
use Rattle.sqlite.specs.Held.{state as view}
use Rattle.goo_store_opening.proofs.FirstTables.{still_first, not_judged_first, renewed_first, not_renewed}
use Rattle.goo_store_opening.proofs.renewing.renew.Goals as goal

pub begins-requires : goal.begins-requires
begins-requires g c =
    let mid = view g.S.Store c.judge.new.conn in
    record { first = still_first (λ pieces. pieces.items) (view g.S.Store c.args.conn.now) mid mid c.in-Ok.pieces c.in-Ok.ensures.judges c.requires.met }

pub returns-in-Ok-rewrite : goal.returns-in-Ok-rewrite
returns-in-Ok-rewrite g c =
    let same : c.deref.result.now ≡ c.in-Ok.pieces.items = search rules in
    renewed_first (λ pieces. pieces.items) (view g.S.Store c.args.conn.now) (view g.S.Store c.judge.new.conn) (view g.S.Store c.rewrite.new.conn) c.in-Ok.pieces c.in-Ok.ensures.judges c.requires.met _ _ c.deref.result.now same c.in-Ok-rewrite.ensures

pub returns-in-Ok : goal.returns-in-Ok
returns-in-Ok g c =
    let same : c.deref.result.now ≡ c.in-Ok.pieces.items = search rules in
    not_renewed (λ pieces. pieces.items) (view g.S.Store c.args.conn.now) (view g.S.Store c.judge.new.conn) (view g.S.Store c.rewrite.new.conn) c.in-Ok.pieces c.in-Ok.ensures.judges c.requires.met c.in-Err-rewrite.cause _ c.from.ensures c.deref.result.now same c.in-Err-rewrite.ensures

pub returns : goal.returns
returns g c = not_judged_first _ (view g.S.Store c.args.conn.now) (view g.S.Store c.judge.new.conn) c.in-Err.fault c.in-Err.ensures.judges c.requires.met c.requires.outside
