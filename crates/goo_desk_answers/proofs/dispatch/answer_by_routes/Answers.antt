use Rattle.std.proofs.Common.{rules, ◌≡◌, ◌≢◌, Err, IfOk, OnErr, subst, sym}
use Rattle.goo_desk_heads.specs.Requests.{seen as parts_seen}
use Rattle.goo_desk_answers.specs.Brought.{BringsIn, FindsLed, FindsLeft, MayBring}
use Rattle.goo_desk_answers.specs.Reliable.{StaysReliable}
use Rattle.goo_desk_answers.specs.Responds.{Responds, Fails}
use Rattle.goo_desk_answers.specs.declared.answered.Answer.{Answer}
use Rattle.goo_desk_answers.proofs.BroughtFacts.{keeps_promise}
use Rattle.goo_desk_answers.proofs.DurableFacts.{bytes_led, nothing_left}
use Rattle.goo_desk_answers.proofs.Probed.{same_state, reliable_after, reliable_failed, stops_still, answered_after, stopped_after}
use Rattle.goo_desk_answers.proofs.dispatch.answer_by_routes.Goals as goal

-- ---- the probe was answered

pub returns-clause-answered : goal.returns-clause-answered
returns-clause-answered g c honest =
    let old = g.D.Desk.seen c.args.desk.now in
    let mid = g.D.Desk.seen c.probe.new.self in
    let new = g.D.Desk.seen c.answer_request.new.desk in
    answered_after g.D.Backend.shows g.D.Backend.imports g.D.Backend.begins old.state mid.state new.state c.args.bytes.now (parts_seen c.request_in-request.result) c.request_in-request.ensures
    (same_state old mid c.in_ok-probe.ensures.probes (c.answer_request.ensures.reliable.corruptions_stay honest)) c.answer_request.result (c.answer_request.ensures.answered honest)

pub returns-clause-stopped : goal.returns-clause-stopped
returns-clause-stopped g c sure =
    let old = g.D.Desk.seen c.args.desk.now in
    let mid = g.D.Desk.seen c.probe.new.self in
    let new = g.D.Desk.seen c.answer_request.new.desk in
    stopped_after g.D.Backend.shows g.D.Backend.imports g.D.Backend.begins old.state mid.state new.state c.args.bytes.now (parts_seen c.request_in-request.result) c.request_in-request.ensures
    (c.in_ok-probe.ensures.probes.same (c.answer_request.ensures.reliable.defects_stay sure)) c.answer_request.result (c.answer_request.ensures.stopped sure)

pub returns-clause-reliable : goal.returns-clause-reliable
returns-clause-reliable g c =
    reliable_after (g.D.Desk.seen c.args.desk.now) (g.D.Desk.seen c.probe.new.self) (g.D.Desk.seen c.answer_request.new.desk) c.answer_request.result c.in_ok-probe.ensures.probes c.answer_request.ensures.reliable

pub returns-clause-promised : goal.returns-clause-promised
returns-clause-promised g c runs sound honest =
    keeps_promise g.D.Backend.shows g.D.Backend.imports g.D.Backend.begins runs (g.D.Desk.seen c.args.desk.now) (g.D.Desk.seen c.answer_request.new.desk) c.args.bytes.now c.answer_request.result sound
    (returns-clause-answered g c honest) (returns-clause-stopped g c)

pub returns-clause-crash : goal.returns-clause-crash
returns-clause-crash g c runs honest sure =
    let old = g.D.Desk.seen c.args.desk.now in
    let mid = g.D.Desk.seen c.probe.new.self in
    let leaves = g.D.Desk.leaves c.answer_request.new.desk in
    let d = parts_seen c.request_in-request.result in
    let late = c.answer_request.ensures.reliable.corruptions_stay honest in
    bytes_led leaves old.state c.args.bytes.now d c.request_in-request.ensures
    (subst (λ s. FindsLed leaves s (BringsIn MayBring d)) (same_state old mid c.in_ok-probe.ensures.probes late) (c.answer_request.ensures.crash runs honest (c.in_ok-probe.ensures.probes.works late)))

-- an answer would show that there was no defect
pub returns-clause-shut : goal.returns-clause-shut
returns-clause-shut g c honest bad = absurd (bad (c.in_ok-probe.ensures.probes.defects_stay (c.in_ok-probe.ensures.probes.works (c.answer_request.ensures.reliable.corruptions_stay honest))))

-- ---- it failed: nothing was done

pub returns-in_err-probe-clause-stopped : goal.returns-in_err-probe-clause-stopped
returns-in_err-probe-clause-stopped g c sure =
    let old = g.D.Desk.seen c.args.desk.now in
    let new = g.D.Desk.seen c.probe.new.self in
    let failed : c.from_residual.result ≡ Err c.in_err-probe.field-0.0 = search rules in
    let d = parts_seen c.request_in-request.result in
    subst (λ r. OnErr r (Fails g.D.Backend.imports g.D.Backend.begins old.state c.args.bytes.now new.state)) (sym failed)
    (d, c.request_in-request.ensures, stops_still g.D.Backend.imports g.D.Backend.begins old.state new.state d (c.in_err-probe.ensures.probes.same sure))

pub returns-in_err-probe-clause-reliable : goal.returns-in_err-probe-clause-reliable
returns-in_err-probe-clause-reliable g c =
    let old = g.D.Desk.seen c.args.desk.now in
    let new = g.D.Desk.seen c.probe.new.self in
    let failed : c.from_residual.result ≡ Err c.in_err-probe.field-0.0 = search rules in
    subst (λ r. StaysReliable old new r) (sym failed) (reliable_failed Answer old new c.in_err-probe.field-0.0 c.in_err-probe.ensures.probes)

pub returns-in_err-probe-clause-answered : goal.returns-in_err-probe-clause-answered
returns-in_err-probe-clause-answered g c honest =
    let old = g.D.Desk.seen c.args.desk.now in
    let new = g.D.Desk.seen c.probe.new.self in
    let failed : c.from_residual.result ≡ Err c.in_err-probe.field-0.0 = search rules in
    subst (λ r. IfOk r (λ answer. Responds g.D.Backend.shows g.D.Backend.imports old.state c.args.bytes.now answer.status answer.bytes.items new.state)) (sym failed) tt

pub returns-in_err-probe-clause-promised : goal.returns-in_err-probe-clause-promised
returns-in_err-probe-clause-promised g c runs sound honest =
    keeps_promise g.D.Backend.shows g.D.Backend.imports g.D.Backend.begins runs (g.D.Desk.seen c.args.desk.now) (g.D.Desk.seen c.probe.new.self) c.args.bytes.now c.from_residual.result sound
    (returns-in_err-probe-clause-answered g c honest) (returns-in_err-probe-clause-stopped g c)

pub returns-in_err-probe-clause-crash : goal.returns-in_err-probe-clause-crash
returns-in_err-probe-clause-crash g c runs honest sure =
    nothing_left (g.D.Desk.leaves c.probe.new.self) (g.D.Desk.seen c.args.desk.now).state c.args.bytes.now (λ o left. g.met.D.Desk.settled c.args.desk.now sure o (c.probe.ensures.crash honest o left))

pub returns-in_err-probe-clause-shut : goal.returns-in_err-probe-clause-shut
returns-in_err-probe-clause-shut g c honest bad = c.probe.ensures.crash honest
