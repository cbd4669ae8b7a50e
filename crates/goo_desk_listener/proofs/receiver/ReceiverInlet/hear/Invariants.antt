use Rattle.std.proofs.Common.{◌≡◌, IfSome, Some}
use Rattle.std.specs.Io.KnownBytes.{Keeps}
use Rattle.goo_desk_listener.proofs.receiver.ReceiverInlet.hear.Given as goal

abbrev pub invariant-loop : goal.invariant-loop
invariant-loop g l = record {
  kept : Keeps (g.S.Read.remaining l.initial.self.stream) (g.S.Read.remaining l.self.stream);
  until : IfSome l.initial.self.deadline.until (λ until. l.self.deadline.until ≡ Some until);
}
