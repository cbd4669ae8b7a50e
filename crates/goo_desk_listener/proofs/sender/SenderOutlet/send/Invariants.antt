use Rattle.std.proofs.Common.{◌≡◌, ◌≤◌, ◌-◌, IfSome, Some, take, length}
use Rattle.std.specs.Io.KnownBytes.{Appends}
use Rattle.goo_desk_listener.proofs.sender.SenderOutlet.send.Given as goal

abbrev pub invariant-loop-written : goal.invariant-loop-written
invariant-loop-written g l = record {
  within : l.written ≤ length l.text;
  appended : Appends (g.S.Write.contents l.initial.self.stream) (g.S.Write.contents l.self.stream) (take l.written l.text);
  until : IfSome l.initial.self.deadline.until (λ until. l.self.deadline.until ≡ Some until);
}

abbrev pub decreases-loop-written : goal.decreases-loop-written
decreases-loop-written g l = length l.text - l.written
