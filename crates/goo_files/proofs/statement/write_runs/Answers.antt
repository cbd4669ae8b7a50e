use Rattle.std.proofs.Common.{rules, ◌≡◌, ℕ, ◌+◌, ◌≤◌, Option, Ok, Err, Some, None, sym, subst, arith}
use Rattle.std.specs.Io.KnownBytes.{Appends}
use Rattle.goo_files_streams.specs.Streams.{AppendsPrefix}
use Rattle.goo_core_shelf.specs.Shelf.{Looks}
use Rattle.goo_spec_runs.specs.NextRun.{from_of, BeginsFrom}
use Rattle.goo_registry_reads.specs.AccountReads.{IsNextRunFound}
use Rattle.goo_core_reads.specs.Ahead.{IsSeen}
use Rattle.goo_registry.specs.Shown.{split_denial}
use Rattle.goo_types.specs.declared.piece.Piece.{Piece}
use Rattle.goo_files_documents.specs.Counts.{all_of, no_counts, with_run, counts_of}
use Rattle.goo_files_documents.specs.Runs.{statement_line, count_of}
use Rattle.goo_files_documents.specs.declared.counts.Counts.{Counts}
use Rattle.goo_files.specs.Lines.{AreRunLines}
use Rattle.goo_files.specs.Writes.{Writes}
use Rattle.goo_files.proofs.LineFacts.{counts-last}
use Rattle.goo_files.proofs.Lining.{found_after, seen_on, IsGoing, going_start, going_on, going_ends, going_cut, going_fails}
use Rattle.goo_files.proofs.statement.write_runs.Goals as goal

pub loop-run-init : goal.loop-run-init
loop-run-init g c =
    let m = g.S.Shelf.seen c.args.registry.now.shelf in
    let b = g.W.Write.contents c.args.writer.now in
    record {
      going = subst (λ (o : Option ℕ). IsGoing statement_line counts_of m m b b c.args.account (from_of o) c.none-counts.result) (sym c.after-place.ensures.0)
          (subst (IsGoing statement_line counts_of m m b b c.args.account 0) (sym c.none-counts.ensures) (going_start statement_line counts_of m b c.args.account c.requires.ready (record { sound = c.args.registry.now.sound; rows = c.args.registry.now.kept })));
      seen = λ none. subst (IsSeen c.args.account c.after-place.result.after m.rows) (sym c.after-place.ensures.1) tt;
      counted = subst (λ (k : Counts). all_of k ≤ from_of c.after-place.result.after) (sym c.none-counts.ensures) (omega arith);
    }

pub returns-then-is_err : goal.returns-then-is_err
returns-then-is_err g c =
    let old = g.S.Shelf.seen c.args.registry.now.shelf in
    let mid = g.S.Shelf.seen c.loop-run.registry.shelf in
    let new = g.S.Shelf.seen c.read_run.new.self.shelf in
    let p = c.in-Ok-Some.run' in
    let look : Looks mid new (Ok (Ok (Some p))) (IsNextRunFound mid.state c.args.account c.loop-run.place.after) = found_after mid new c.args.account c.loop-run.place (Ok (Ok (Some p))) c.loop-run.invariant.seen (rw c.in-Ok-Some.field-0-is at c.in-Ok-Some.ensures.shows) in
    let begins : BeginsFrom (from_of c.loop-run.place.after) p = rw c.in-Ok-Some.field-0-is at c.in-Ok-Some.ensures.begins in
    let part : AppendsPrefix (g.W.Write.contents c.loop-run.writer) (g.W.Write.contents c.write_line.new.writer) c.statement_line.result.bytes = search rules in
    going_cut statement_line counts_of old mid new (g.W.Write.contents c.args.writer.now) (g.W.Write.contents c.loop-run.writer) c.args.account c.loop-run.place.after c.loop-run.counts c.loop-run.invariant.going
    (g.W.Write.contents c.write_line.new.writer) p begins look (rw c.statement_line.ensures at part)

pub loop-run-preserved : goal.loop-run-preserved
loop-run-preserved g c =
    let old = g.S.Shelf.seen c.args.registry.now.shelf in
    let mid = g.S.Shelf.seen c.loop-run.registry.shelf in
    let new = g.S.Shelf.seen c.read_run.new.self.shelf in
    let p = c.in-Ok-Some.run' in
    let look : Looks mid new (Ok (Ok (Some p))) (IsNextRunFound mid.state c.args.account c.loop-run.place.after) = found_after mid new c.args.account c.loop-run.place (Ok (Ok (Some p))) c.loop-run.invariant.seen (rw c.in-Ok-Some.field-0-is at c.in-Ok-Some.ensures.shows) in
    let begins : BeginsFrom (from_of c.loop-run.place.after) p = rw c.in-Ok-Some.field-0-is at c.in-Ok-Some.ensures.begins in
    let wrote : Appends (g.W.Write.contents c.loop-run.writer) (g.W.Write.contents c.write_line.new.writer) c.statement_line.result.bytes = search rules in
    let low : from_of c.loop-run.place.after ≤ p.first = begins.0 in
    let high : p.first ≤ p.last = begins.1 in
    let was : all_of c.loop-run.counts ≤ from_of c.loop-run.place.after = c.loop-run.invariant.counted in
    let more : all_of c.add.new.self ≡ all_of c.loop-run.counts + count_of p = c.add.ensures.all in
    let after : c.read_run.new.place.after ≡ Some p.last = rw c.in-Ok-Some.field-0-is at c.in-Ok-Some.ensures.place in
    let counted : all_of c.add.new.self ≤ p.last + 1 = omega (arith, low, high, was, more) in
    let going = subst (IsGoing statement_line counts_of old new (g.W.Write.contents c.args.writer.now) (g.W.Write.contents c.write_line.new.writer) c.args.account (p.last + 1)) (sym c.add.ensures.counts)
    (going_on statement_line counts_of old mid new (g.W.Write.contents c.args.writer.now) (g.W.Write.contents c.loop-run.writer) c.args.account c.loop-run.place.after c.loop-run.counts c.loop-run.invariant.going
    with_run (counts-last no_counts) (g.W.Write.contents c.write_line.new.writer) p begins look (rw c.statement_line.ensures at wrote)) in
    record {
      going = subst (λ (o : Option ℕ). IsGoing statement_line counts_of old new (g.W.Write.contents c.args.writer.now) (g.W.Write.contents c.write_line.new.writer) c.args.account (from_of o) c.add.new.self) (sym after) going;
      seen = seen_on mid new c.args.account p.last c.read_run.new.place.after c.read_run.new.place.ahead after look.rows_same (rw c.in-Ok-Some.field-0-is at c.in-Ok-Some.ensures.ahead);
      counted = subst (λ (o : Option ℕ). all_of c.add.new.self ≤ from_of o) (sym after) counted;
    }

pub returns-in-Ok-None : goal.returns-in-Ok-None
returns-in-Ok-None g c =
    let old = g.S.Shelf.seen c.args.registry.now.shelf in
    let mid = g.S.Shelf.seen c.loop-run.registry.shelf in
    let new = g.S.Shelf.seen c.read_run.new.self.shelf in
    let look : Looks mid new (Ok (Ok None)) (IsNextRunFound mid.state c.args.account c.loop-run.place.after) = found_after mid new c.args.account c.loop-run.place (Ok (Ok None)) c.loop-run.invariant.seen (rw c.in-Ok-None.field-0-is at c.in-Ok-None.ensures.shows) in
    going_ends statement_line counts_of old mid new (g.W.Write.contents c.args.writer.now) (g.W.Write.contents c.loop-run.writer) c.args.account c.loop-run.place.after c.loop-run.counts c.loop-run.invariant.going look

pub returns-in-Err : goal.returns-in-Err
returns-in-Err g c =
    let old = g.S.Shelf.seen c.args.registry.now.shelf in
    let mid = g.S.Shelf.seen c.loop-run.registry.shelf in
    let new = g.S.Shelf.seen c.read_run.new.self.shelf in
    subst (λ f. Writes {T = Counts} old new (g.W.Write.contents c.args.writer.now) (g.W.Write.contents c.loop-run.writer) (Err f) None (AreRunLines old.state c.args.account)) (sym c.from.ensures)
    (going_fails statement_line counts_of old mid new (g.W.Write.contents c.args.writer.now) (g.W.Write.contents c.loop-run.writer) c.args.account c.loop-run.place.after c.loop-run.counts c.loop-run.invariant.going
    c.in-Err.fault (found_after mid new c.args.account c.loop-run.place (split_denial {T = Option Piece} (Err c.in-Err.fault)) c.loop-run.invariant.seen c.in-Err.ensures.shows))
