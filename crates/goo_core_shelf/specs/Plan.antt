-- What a commit takes, and what it leaves.
use Rattle.std.specs.Prelude.{◌≡◌, ◌⊎◌, ◌≤◌, List, [], ◌∷◌, All, Option, Some, None, Result, OnOk, OnErr}
use Rattle.std.specs.FinMap.{get}
use Rattle.goo_types.specs.Notice.{NoticeContents}
use Rattle.goo_types.specs.Piece.{IsRising}
use Rattle.goo_types.specs.declared.command.Command.{Command}
use Rattle.goo_types.specs.declared.command.Command.TheVariants.{Export}
use Rattle.goo_types.specs.declared.fault.Fault.{Fault}
use Rattle.goo_types.specs.declared.outcome.Outcome.TheVariants.{Accepted}
use Rattle.goo_types.specs.declared.piece.Piece.{Piece}
use Rattle.goo_spec.specs.Export.{notice_of}
use Rattle.goo_spec.specs.Lots.{key_of}
use Rattle.goo_spec.specs.Sound.{IsSound}
use Rattle.goo_spec.specs.State.{State}
use Rattle.goo_spec.specs.Step.{outcome, accept}
use Rattle.goo_ranges.specs.declared.edits.Edit.{Edit}
use Rattle.goo_ranges_rows.specs.Plans.{IsTurned}
use Rattle.goo_ranges_rows.specs.Rows.{AreRowsOf, edited, edited_all}
use Rattle.goo_core_shelf.specs.Shelf.{Moment, IsTold, StaysSure}
use Rattle.goo_core_shelf.specs.declared.plan.Plan.{Plan}

-- the rows rise before, between and after the edits
abbrev pub StayRising : List Edit → List Piece → Type 0
StayRising [] rows = IsRising rows
StayRising (e ∷ es) rows = IsRising rows × StayRising es (edited e rows)

-- the state knows the lot of each piece that the edits insert
abbrev pub HaveKnownLots : State → List Edit → Type 0
HaveKnownLots s edits = All (λ e. All (λ p. get s.lots (key_of p.lot) ≡ Some p.lot) e.insert.items) edits

-- the notice that a command sends when it is accepted
abbrev pub notice_sent : State → Command → Option NoticeContents
notice_sent s (Export x) = Some (notice_of s x)
notice_sent s _ = None

-- a plan may be committed: its request is accepted here with its reply, its notice is the one that is sent, and its edits
-- turn the rows into those of the state after it, and into as few as can be where they were that; they insert pieces of lots
-- that the state after it knows
pub record Fits (s : State) (rows : List Piece) (plan : Plan) : Type 0 where
  pub sound : IsSound s
  pub before : AreRowsOf s.at rows
  pub accepted : outcome s plan.request ≡ Accepted plan.reply
  pub sent : plan.notice ≡ notice_sent s plan.request.command
  pub rising : StayRising plan.edits.items rows
  pub turned : IsTurned (accept s plan.request).at rows plan.edits.items
  pub known : HaveKnownLots (accept s plan.request) plan.edits.items

-- a crash finds one of two states
abbrev pub IsEither : Moment → State → State → Type 0
IsEither m s t = (o : Option State) → m.leaves o → (o ≡ Some s) ⊎ (o ≡ Some t)

-- the whole change or none, a fault is told, only a failed call brings a defect, and a crash finds the state before it or after it
pub record Commits (old new : Moment) (result : Result (Unit {0}) Fault) (plan : Plan) : Type 0 where
  pub done : new.defects ≡ 0 → OnOk result (new.state ≡ accept old.state plan.request)
  pub rows_done : new.defects ≡ 0 → OnOk result (new.rows ≡ edited_all plan.edits.items old.rows)
  pub undone : new.defects ≡ 0 → OnErr result (new.state ≡ old.state)
  pub rows_undone : new.defects ≡ 0 → OnErr result (new.rows ≡ old.rows)
  pub defects_stay : new.defects ≡ 0 → old.defects ≡ 0
  pub corruptions_stay : new.corruptions ≡ 0 → old.corruptions ≡ 0
  pub kept : old.refusals ≤ new.refusals
  pub told : IsTold result new.refusals
  pub works : OnOk result (new.corruptions ≡ 0 → new.defects ≡ 0)
  pub stays : new.corruptions ≡ 0 → old.defects ≡ 0 → StaysSure old new
  pub crash : new.corruptions ≡ 0 → old.defects ≡ 0 → IsEither new old.state (accept old.state plan.request)
