use Rattle.std.proofs.Common.{rules, refl, ◌≡◌, ◌∷◌, Bor, ℕ, List, [], map, append_assoc, length-append, arith, IsErrAnd}
use Rattle.std.proofs.lemmas.List.{map-append, length-map}
use Rattle.goo_desk_lines.specs.Lines.{lines_of, lines_left}
use Rattle.goo_desk_lines.proofs.AnswerFacts.{lines-bound, none-stand, stands-next}
use Rattle.goo_desk_lines.proofs.DurableFacts.{answered_all, stopped_at}
use Rattle.goo_desk_lines.proofs.Staying.{leaves_both, leaves_failed, leaves_still}
use Rattle.goo_desk_lines.proofs.run.answer_lines.Goals as goal

pub loop-line-init : goal.loop-line-init
loop-line-init g c = rw c.into_iter-line-iterator.ensures.into_iter_gives (record {
  order = refl;
  count = omega arith;
  desk = leaves_still (g.D.Desk.seen c.args.desk.now) _;
  answered = λ below. none-stand (g.D.Desk.seen c.args.desk.now).state (g.W.Write.contents c.args.writer.now);
})

pub answer_next-requires : goal.answer_next-requires
answer_next-requires g c =
    let i = c.loop-line.invariant in
    let most = lines-bound c.args.input.now (map (λ (line : Bor (List ℕ)). line.now) c.loop-line.yielded) (lines_left c.loop-line.line-iterator.0) i.order in
    omega (arith, most, i.count, length-map c.loop-line.yielded (λ (line : Bor (List ℕ)). line.now), c.requires)

pub loop-line-preserved : goal.loop-line-preserved
loop-line-preserved g c =
    let i = c.loop-line.invariant in
    let made = c.in_ok-answer_next.ensures in
    let done : List (List ℕ) = map (λ (line : Bor (List ℕ)). line.now) c.loop-line.yielded in
    let order = rw c.in-Some.ensures.steps at i.order in
    rw (map-append (λ (line : Bor (List ℕ)). line.now) c.loop-line.yielded (c.in-Some.line ∷ [])) (record {
      order = rw (append_assoc done) order;
      count = omega (arith, made.count, i.count, length-append c.loop-line.yielded (c.in-Some.line ∷ []));
      desk = leaves_both (g.D.Desk.seen c.args.desk.now) (g.D.Desk.seen c.loop-line.desk) (g.D.Desk.seen c.answer_next.new.desk) _ _ _ i.desk made.desk;
      answered = λ below. stands-next (g.D.Desk.seen c.args.desk.now).state (g.D.Desk.seen c.loop-line.desk).state (g.D.Desk.seen c.answer_next.new.desk).state
          (g.W.Write.contents c.args.writer.now) (g.W.Write.contents c.loop-line.writer) (g.W.Write.contents c.answer_next.new.writer)
          done c.in-Some.line.now c.loop-line.tally c.answer_next.new.tally
          (i.answered (made.desk.corruptions_stay below)) (made.answered below);
    })

pub returns-in_err-answer_next-clause-answered : goal.returns-in_err-answer_next-clause-answered
returns-in_err-answer_next-clause-answered g c below =
    let i = c.loop-line.invariant in
    let order = rw c.in-Some.ensures.steps at i.order in
    let stopped = c.in_err-answer_next.ensures in
    let told : IsErrAnd c.from_residual.result (λ fault. fault ≡ c.in_err-answer_next.field-0.0) = search rules in
    let before = stopped.desk.corruptions_stay below in
    stopped_at (g.D.Desk.seen c.args.desk.now) (g.D.Desk.seen c.answer_next.new.desk) (g.D.Desk.seen c.loop-line.desk).state
    (g.W.Write.contents c.args.writer.now) (g.W.Write.contents c.loop-line.writer) (g.W.Write.contents c.answer_next.new.writer) (g.D.Desk.leaves c.answer_next.new.desk)
    (lines_of c.args.input.now) (map (λ (line : Bor (List ℕ)). line.now) c.loop-line.yielded) (lines_left c.next.new.self.0) c.in-Some.line.now c.loop-line.tally c.answer_next.new.tally
    order (i.answered before) c.from_residual.result c.in_err-answer_next.field-0.0 told (stopped.answered below) (λ sure. stopped.found below (i.desk.works before sure))

pub returns-in_err-answer_next-clause-desk : goal.returns-in_err-answer_next-clause-desk
returns-in_err-answer_next-clause-desk g c =
    let told : IsErrAnd c.from_residual.result (λ fault. fault ≡ c.in_err-answer_next.field-0.0) = search rules in
    leaves_failed (g.D.Desk.seen c.args.desk.now) (g.D.Desk.seen c.loop-line.desk) (g.D.Desk.seen c.answer_next.new.desk) _ c.in_err-answer_next.field-0.0 c.from_residual.result c.loop-line.invariant.desk c.in_err-answer_next.ensures.desk told

-- all were answered
pub returns-clause-answered : goal.returns-clause-answered
returns-clause-answered g c below =
    let i = c.loop-line.invariant in
    let none : lines_left c.loop-line.line-iterator.0 ≡ [] = search rules in
    let order = rw none at i.order in
    answered_all (g.D.Desk.seen c.args.desk.now) (g.D.Desk.seen c.loop-line.desk) (g.W.Write.contents c.args.writer.now) (g.W.Write.contents c.loop-line.writer) (g.D.Desk.leaves c.loop-line.desk)
    (lines_of c.args.input.now) (map (λ (line : Bor (List ℕ)). line.now) c.loop-line.yielded) c.loop-line.tally
    order (i.answered below) (λ sure. g.met.D.Desk.settled c.loop-line.desk (i.desk.works below sure))

pub returns-clause-desk : goal.returns-clause-desk
returns-clause-desk g c = c.loop-line.invariant.desk
