use Rattle.std.proofs.Common.{◌<◌, ◌+◌, ◌++◌, [], ◌∷◌, map, drop, length, append_assoc, ap, sym, subst, ◌∙◌, arith}
use Rattle.std.proofs.lemmas.List.{drop_more}
use Rattle.std.proofs.lemmas.List.Elements.{All-cons, All-nil}
use Rattle.goo_tables_rows.specs.Beside.{joined_in}
use Rattle.goo_spec_tables.specs.Places.{piece_of}
use Rattle.goo_store_pieces.specs.Found.{IsBeside}
use Rattle.goo_store_pieces.proofs.pieces.read_each.Goals as goal

pub loop-row-preserved : goal.loop-row-preserved
loop-row-preserved c =
    let rows = c.args.rows.now in
    let i = c.loop-row.row-index in
    let row = c.row-item.result in
    let low : i < length rows = omega (arith, c.loop-row-test.true) in
    let left = map piece_of (map joined_in (drop (i + 1) rows)) in
    record {
      pieces =
          ap (λ ps. ps ++ left) c.in_ok-push_read.ensures.pushed ∙ append_assoc c.loop-row.pieces.items (piece_of (joined_in row) ∷ []) left
          ∙ ap (λ rs. c.loop-row.pieces.items ++ map piece_of (map joined_in rs)) (sym (drop_more rows i row low ∙ ap (λ r. r ∷ drop (i + 1) rows) (sym c.row-item.is))) ∙ c.loop-row.invariant.pieces;
      kept = λ lots are each.
          c.in_ok-push_read.ensures.kept lots (c.loop-row.invariant.kept lots are each)
          (All-cons (λ r. IsBeside lots (joined_in r)) row [] (subst (λ r. IsBeside lots (joined_in r)) (sym c.row-item.is) (each i row low)) (All-nil (λ r. IsBeside lots (joined_in r))));
    }

pub returns-in_err-push_read-clause-kept : goal.returns-in_err-push_read-clause-kept
returns-in_err-push_read-clause-kept c lots are each =
    let row = c.row-item.result in
    let low : c.loop-row.row-index < length c.args.rows.now = omega (arith, c.loop-row-test.true) in
    c.in_err-push_read.ensures.kept lots (c.loop-row.invariant.kept lots are each)
    (All-cons (λ r. IsBeside lots (joined_in r)) row [] (subst (λ r. IsBeside lots (joined_in r)) (sym c.row-item.is) (each c.loop-row.row-index row low)) (All-nil (λ r. IsBeside lots (joined_in r))))
