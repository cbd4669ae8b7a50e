use Rattle.std.proofs.Common.{◌≡◌, ◌≤◌, ◌+◌, ℕ, List, Some, None, Option, refl, sym, subst, arith}
use Rattle.std.specs.Option.{ForSome}
use Rattle.std.specs.FinMap.{get}
use Rattle.goo_types.specs.declared.piece.Piece.{Piece}
use Rattle.goo_types.specs.Piece.{Label, Follows}
use Rattle.goo_spec.specs.State.{State}
use Rattle.goo_core_shelf.specs.Rows.{naming_account, next_row, EndsFrom}
use Rattle.goo_spec_runs.specs.NextRun.{from_of, ending_from, first_of, IsNextRun}
use Rattle.goo_spec_runs.proofs.Next.{cut_first}
use Rattle.goo_spec_runs.proofs.Reaching.{IsReaching, reaching_start, reaching_on, reaching_end, reaching_last}
use Rattle.goo_core_reads.specs.Reads.{kept_where, names}
use Rattle.goo_core_reads.specs.Ahead.{IsSeen}
use Rattle.goo_core_reads.specs.declared.run_place.RunPlace.{RunPlace}
use Rattle.goo_core_shelf.proofs.Looking.{looked, looked_both}
use Rattle.goo_core_reads.proofs.Naming.{named}
use Rattle.goo_core_reads.proofs.next_run.reach.Goals as goal

-- the run is whole where the row ahead isn't joined with it, or there is none
whole : (map : ℕ → Option Label) (from : ℕ) (rows : List Piece) (run : Piece) (ahead : Option Piece) → IsReaching map from rows run → ahead ≡ first_of (ending_from (run.last + 1) rows) → ForSome ahead (λ row. ¬ (Follows run row)) → IsNextRun map from (Some run)
whole map from rows run None reach found apart = reaching_last map from rows run reach found
whole map from rows run (Some next) reach found apart = reaching_end map from rows run next reach found (apart next refl)

seen : (account : ℕ) (after : Option ℕ) (rows : List Piece) (ahead : Option Piece) → ahead ≡ next_row account after rows → IsSeen account after rows ahead
seen account after rows None found = tt
seen account after rows (Some row) found = found

pub loop-next-init : goal.loop-next-init
loop-next-init g c =
    let m = g.S.Shelf.seen c.args.shelf.now in
    let from = from_of c.args.after.now in
    let map = kept_where (names c.args.account) (get m.state.at) in
    let rows = naming_account c.args.account m.rows in
    let run = c.part_from-run.result in
    let cut = cut_first from c.args.row.now c.requires.ahead.0 c.requires.ahead.1.0 in
    record {
      reaches = looked m (g.S.Shelf.seen c.next_of.new.self) c.in_ok-ahead.ahead (run, c.in_ok-ahead.ahead)
          (λ (found : Option Piece). found ≡ next_row c.args.account (Some run.last) m.rows)
          (λ (found : Piece × Option Piece). (Some c.args.row.now ≡ next_row c.args.account c.args.after.now m.rows → IsReaching map from rows found.0) × found.1 ≡ next_row c.args.account (Some found.0.last) m.rows)
          c.in_ok-ahead.ensures.looks
          (λ none found. (
            λ first.
                let n = named m.state m.rows c.args.account (c.requires.rows none) (c.requires.sound none) in
                subst (IsReaching map from rows) (sym c.part_from-run.ensures) (reaching_start map from rows c.args.row.now n.rising n.coded n.same first),
            found,
          ));
      starts = subst (λ (p : Piece). from ≤ p.first) (sym c.part_from-run.ensures) cut.0;
      runs = subst (λ (p : Piece). p.first ≤ p.last) (sym c.part_from-run.ensures) cut.1;
      ahead = c.in_ok-ahead.ensures.ahead;
    }

pub loop-next-preserved : goal.loop-next-preserved
loop-next-preserved g c =
    let m = g.S.Shelf.seen c.args.shelf.now in
    let from = from_of c.args.after.now in
    let map = kept_where (names c.args.account) (get m.state.at) in
    let rows = naming_account c.args.account m.rows in
    let run = c.loop-next.run in
    let next = c.in-Some.next in
    let further : Piece = record run { last = next.last } in
    let right : Piece × Option Piece → Type 0 = λ (found : Piece × Option Piece). (Some c.args.row.now ≡ next_row c.args.account c.args.after.now m.rows → IsReaching map from rows found.0) × found.1 ≡ next_row c.args.account (Some found.0.last) m.rows in
    let follows = c.in-Some.ensures.follows next refl in
    let beyond : EndsFrom (run.last + 1) next = rw follows.0 at c.loop-next.invariant.ahead in
    record {
      reaches = looked_both m (g.S.Shelf.seen c.loop-next.shelf) (g.S.Shelf.seen c.next_of-in-Some.new.self) (run, c.loop-next.ahead) c.in_ok-ahead-2.ahead (further, c.in_ok-ahead-2.ahead) right
          (λ (s : State) (rs : List Piece) (found : Option Piece). found ≡ next_row c.args.account (Some next.last) rs) right c.loop-next.invariant.reaches c.in_ok-ahead-2.ensures.looks
          (λ none reach found. (
            λ first.
                let n = named m.state m.rows c.args.account (c.requires.rows none) (c.requires.sound none) in
                reaching_on map from rows run next n.rising (reach.0 first) (rw follows.0 at reach.1) follows.1,
            found,
          ));
      starts = c.loop-next.invariant.starts;
      runs = omega (arith, c.loop-next.invariant.runs, beyond.0);
      ahead = c.in_ok-ahead-2.ensures.ahead;
    }

pub returns-clause-looks : goal.returns-clause-looks
returns-clause-looks g c =
    let m = g.S.Shelf.seen c.args.shelf.now in
    let from = from_of c.args.after.now in
    let map = kept_where (names c.args.account) (get m.state.at) in
    let rows = naming_account c.args.account m.rows in
    let run = c.loop-next.run in
    let ahead = c.loop-next.ahead in
    looked m (g.S.Shelf.seen c.loop-next.shelf) (run, ahead) (run, c.before-2.result)
    (λ (found : Piece × Option Piece). (Some c.args.row.now ≡ next_row c.args.account c.args.after.now m.rows → IsReaching map from rows found.0) × found.1 ≡ next_row c.args.account (Some found.0.last) m.rows)
    (λ (found : Piece × RunPlace). (Some c.args.row.now ≡ next_row c.args.account c.args.after.now m.rows → IsNextRun map from (Some found.0)) × IsSeen c.args.account (Some found.0.last) m.rows found.1.ahead)
    c.loop-next.invariant.reaches
    (λ none reach. (λ first. whole map from rows run ahead (reach.0 first) reach.1 (c.in_default.ensures.apart refl), subst (IsSeen c.args.account (Some run.last) m.rows) (sym c.before-2.ensures.1) (seen c.args.account (Some run.last) m.rows ahead reach.1)))
