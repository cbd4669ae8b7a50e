use Rattle.std.proofs.Common.{arith, length-drop, rules, ℕ}
use Rattle.goo_files_streams.proofs.AppendsFacts.{appends-next, rest-whole}
use Rattle.goo_desk_listener.proofs.sender.SenderOutlet.send.Goals as goal

pub loop-written-preserved : goal.loop-written-preserved
loop-written-preserved g c =
    let rest = rest-whole c.loop-written.written c.args.text.now in
    let bound = rw rest at c.in_ok-written.ensures.bound in
    let next = rw rest at c.in_ok-written.ensures.bytes in
    record {
      within = omega (arith, bound, length-drop {A = ℕ});
      appended = appends-next _ (g.S.Write.contents c.loop-written.self.stream) _ c.args.text.now _ _ c.loop-written.invariant.appended next;
      until = search rules;
    }
