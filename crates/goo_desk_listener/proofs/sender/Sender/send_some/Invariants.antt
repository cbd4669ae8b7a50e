use Rattle.std.proofs.Common.{◌≡◌, IfSome, Some}
use Rattle.std.specs.Io.KnownBytes.{Keeps}
use Rattle.goo_desk_listener.proofs.sender.Sender.send_some.Given as goal

abbrev pub invariant-loop : goal.invariant-loop
invariant-loop g l = record {
  kept : Keeps (g.S.Write.contents l.initial.self.stream) (g.S.Write.contents l.self.stream);
  until : IfSome l.initial.self.deadline.until (λ until. l.self.deadline.until ≡ Some until);
}
