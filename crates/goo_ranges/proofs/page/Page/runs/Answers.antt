use Rattle.std.proofs.Common.{◌+◌, [], ◌∷◌, take, arith}
use Rattle.std.proofs.lemmas.List.{take_all}
use Rattle.goo_types.specs.Piece.{IsRising, at_of}
use Rattle.goo_ranges_pieces.proofs.Joining.{joining-self, joining-then, joining-append, rising-take, take-piece}
use Rattle.goo_spec.specs.Runs.{AreRunsOf}
use Rattle.goo_ranges.proofs.Fewest.{fewest}
use Rattle.goo_ranges.proofs.page.Page.runs.Goals as goal
use Rattle.goo_ranges.proofs.page.Page.runs.Goals.{After-loop-piece}

pub push_joined-requires : goal.push_joined-requires
push_joined-requires c =
    let items = c.deref-piece-items.result.now in
    let i = c.loop-piece.piece-index in
    let p = c.piece-item.result in
    let all : IsRising items = rw c.deref-piece-items.ensures.value c.self.invariant in
    let front = rw (take-piece items i p (omega arith) c.piece-item.is) at (rising-take items (i + 1) all) in
    (joining-append (take i items) c.loop-piece.runs.items (p ∷ []) c.loop-piece.invariant.joined).rising 0 front

pub loop-piece-init : goal.loop-piece-init
loop-piece-init c = rw c.new-runs.ensures.items (record { joined = joining-self []; apart = tt })

pub loop-piece-preserved : goal.loop-piece-preserved
loop-piece-preserved c =
    let items = c.deref-piece-items.result.now in
    let i = c.loop-piece.piece-index in
    let p = c.piece-item.result in
    let front = joining-append (take i items) c.loop-piece.runs.items (p ∷ []) c.loop-piece.invariant.joined in
    record {
      joined = rw (take-piece items i p (omega arith) c.piece-item.is) (joining-then _ _ _ front c.in_ok-push_joined.ensures.joined);
      apart = c.in_ok-push_joined.ensures.apart c.loop-piece.invariant.apart;
    }

the-runs : (c : After-loop-piece) → AreRunsOf (at_of c.args.self.now) c.loop-piece.runs.items
the-runs c =
    let items = c.deref-piece-items.result.now in
    let all : IsRising items = rw c.deref-piece-items.ensures.value c.self.invariant in
    let whole = take_all c.loop-piece.piece-index items (omega arith) in
    let joined = rw whole at c.loop-piece.invariant.joined in
    record {
      rising = joined.rising 0 all;
      maximal = c.loop-piece.invariant.apart;
      same = λ n. rw (← c.self.view_is, ← c.deref-piece-items.ensures.value) (joined.same 0 all n);
    }

pub returns : goal.returns
returns c = record { runs = the-runs c; fewest = λ ranges. fewest (at_of c.args.self.now) c.loop-piece.runs.items ranges (the-runs c); err = tt }
