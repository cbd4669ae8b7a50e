use Rattle.std.proofs.Common.{rules, ◌≡◌, ℕ, Option, Ok, Err, Some, None, refl, sym, subst}
use Rattle.std.specs.Io.KnownBytes.{Appends}
use Rattle.goo_files_streams.specs.Streams.{AppendsPrefix}
use Rattle.goo_core_shelf.specs.Shelf.{Looks}
use Rattle.goo_spec_runs.specs.NextRun.{from_of, BeginsFrom}
use Rattle.goo_registry_reads.specs.AccountReads.{IsNextRunFound}
use Rattle.goo_core_reads.specs.Ahead.{IsSeen}
use Rattle.goo_registry.specs.Shown.{split_denial}
use Rattle.goo_types.specs.declared.piece.Piece.{Piece}
use Rattle.goo_files.specs.Lines.{held_row, no_sum, AreHeldRows, IsRowFault}
use Rattle.goo_files.specs.Writes.{Writes}
use Rattle.goo_files.proofs.Lining.{IsGoing, found_after, seen_on, going_start, going_on, going_ends, going_broken, going_fails}
use Rattle.goo_files.proofs.holdings.write_rows.Goals as goal

pub loop-run-init : goal.loop-run-init
loop-run-init g c =
    let m = g.S.Shelf.seen c.args.registry.now.shelf in
    let b = g.W.Write.contents c.args.writer.now in
    record {
      going = subst (λ (o : Option ℕ). IsGoing held_row no_sum m m b b c.args.account (from_of o) tt) (sym c.after-place.ensures.0)
          (going_start held_row no_sum m b c.args.account c.requires.ready (record { sound = c.args.registry.now.sound; rows = c.args.registry.now.kept }));
      seen = λ none. subst (IsSeen c.args.account c.after-place.result.after m.rows) (sym c.after-place.ensures.1) tt;
    }

pub returns-in-Err-write_row : goal.returns-in-Err-write_row
returns-in-Err-write_row g c =
    let old = g.S.Shelf.seen c.args.registry.now.shelf in
    let mid = g.S.Shelf.seen c.loop-run.registry.shelf in
    let new = g.S.Shelf.seen c.read_run.new.self.shelf in
    let p = c.in-Ok-Some.run' in
    let look : Looks mid new (Ok (Ok (Some p))) (IsNextRunFound mid.state c.args.account c.loop-run.place.after) = found_after mid new c.args.account c.loop-run.place (Ok (Ok (Some p))) c.loop-run.invariant.seen (rw c.in-Ok-Some.field-0-is at c.in-Ok-Some.ensures.shows) in
    let begins : BeginsFrom (from_of c.loop-run.place.after) p = rw c.in-Ok-Some.field-0-is at c.in-Ok-Some.ensures.begins in
    let part : AppendsPrefix (g.W.Write.contents c.loop-run.writer) (g.W.Write.contents c.write_row.new.writer) (held_row p) = search rules in
    let kind : IsRowFault c.in-Err-write_row.fault = c.in-Err-write_row.ensures.kinds in
    going_broken held_row no_sum old mid new (g.W.Write.contents c.args.writer.now) (g.W.Write.contents c.loop-run.writer) c.args.account c.loop-run.place.after tt c.loop-run.invariant.going
    (g.W.Write.contents c.write_row.new.writer) p c.in-Err-write_row.fault kind begins look part

pub loop-run-preserved : goal.loop-run-preserved
loop-run-preserved g c =
    let old = g.S.Shelf.seen c.args.registry.now.shelf in
    let mid = g.S.Shelf.seen c.loop-run.registry.shelf in
    let new = g.S.Shelf.seen c.read_run.new.self.shelf in
    let p = c.in-Ok-Some.run' in
    let look : Looks mid new (Ok (Ok (Some p))) (IsNextRunFound mid.state c.args.account c.loop-run.place.after) = found_after mid new c.args.account c.loop-run.place (Ok (Ok (Some p))) c.loop-run.invariant.seen (rw c.in-Ok-Some.field-0-is at c.in-Ok-Some.ensures.shows) in
    let begins : BeginsFrom (from_of c.loop-run.place.after) p = rw c.in-Ok-Some.field-0-is at c.in-Ok-Some.ensures.begins in
    let wrote : Appends (g.W.Write.contents c.loop-run.writer) (g.W.Write.contents c.write_row.new.writer) (held_row p) = search rules in
    let after : c.read_run.new.place.after ≡ Some p.last = rw c.in-Ok-Some.field-0-is at c.in-Ok-Some.ensures.place in
    record {
      going = subst (λ (o : Option ℕ). IsGoing held_row no_sum old new (g.W.Write.contents c.args.writer.now) (g.W.Write.contents c.write_row.new.writer) c.args.account (from_of o) tt) (sym after)
          (going_on held_row no_sum old mid new (g.W.Write.contents c.args.writer.now) (g.W.Write.contents c.loop-run.writer) c.args.account c.loop-run.place.after tt c.loop-run.invariant.going
          (λ u q. u) (λ ps q. refl) (g.W.Write.contents c.write_row.new.writer) p begins look wrote);
      seen = seen_on mid new c.args.account p.last c.read_run.new.place.after c.read_run.new.place.ahead after look.rows_same (rw c.in-Ok-Some.field-0-is at c.in-Ok-Some.ensures.ahead);
    }

pub returns-in-Ok-None : goal.returns-in-Ok-None
returns-in-Ok-None g c =
    let old = g.S.Shelf.seen c.args.registry.now.shelf in
    let mid = g.S.Shelf.seen c.loop-run.registry.shelf in
    let new = g.S.Shelf.seen c.read_run.new.self.shelf in
    let look : Looks mid new (Ok (Ok None)) (IsNextRunFound mid.state c.args.account c.loop-run.place.after) = found_after mid new c.args.account c.loop-run.place (Ok (Ok None)) c.loop-run.invariant.seen (rw c.in-Ok-None.field-0-is at c.in-Ok-None.ensures.shows) in
    going_ends held_row no_sum old mid new (g.W.Write.contents c.args.writer.now) (g.W.Write.contents c.loop-run.writer) c.args.account c.loop-run.place.after tt c.loop-run.invariant.going look

pub returns-in-Err : goal.returns-in-Err
returns-in-Err g c =
    let old = g.S.Shelf.seen c.args.registry.now.shelf in
    let mid = g.S.Shelf.seen c.loop-run.registry.shelf in
    let new = g.S.Shelf.seen c.read_run.new.self.shelf in
    subst (λ f. Writes {T = Unit {0}} old new (g.W.Write.contents c.args.writer.now) (g.W.Write.contents c.loop-run.writer) (Err f) None (AreHeldRows old.state c.args.account)) (sym c.from.ensures)
    (going_fails held_row no_sum old mid new (g.W.Write.contents c.args.writer.now) (g.W.Write.contents c.loop-run.writer) c.args.account c.loop-run.place.after tt c.loop-run.invariant.going
    c.in-Err.fault (found_after mid new c.args.account c.loop-run.place (split_denial {T = Option Piece} (Err c.in-Err.fault)) c.loop-run.invariant.seen c.in-Err.ensures.shows))
