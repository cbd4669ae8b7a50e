-- What a command comes to under a key that isn't kept.
use Rattle.std.specs.Prelude.{◌≡◌, ℕ, ◌≤◌, List, length, Option, Some, None}
use Rattle.std.specs.FinMap.{get}
use Rattle.goo_types.specs.Notice.{NoticeContents}
use Rattle.goo_types.specs.Piece.{at_of}
use Rattle.goo_types.specs.Range.{Numbers}
use Rattle.goo_types.specs.declared.command.Command.{Command}
use Rattle.goo_types.specs.declared.piece.Piece.{Piece}
use Rattle.goo_types.specs.declared.refusal.Refusal.{Refusal}
use Rattle.goo_types.specs.declared.reply.Reply.{Reply}
use Rattle.goo_spec.specs.Lots.{Certificates}
use Rattle.goo_spec.specs.State.{State}
use Rattle.goo_spec.specs.Step.{refusal, reply_to, repeats, changed}
use Rattle.goo_ranges_rows.specs.Plans.{IsTurned}
use Rattle.goo_core_shelf.specs.Plan.{StayRising, notice_sent}
use Rattle.goo_core_moves.specs.Edits.{most_edits, edited_ranges}
use Rattle.goo_core_rules.specs.Changes.{AreSmall, AreOfLots, IsLotOf}
use Rattle.goo_core_rules.specs.declared.ruling.Change.{Change}
use Rattle.goo_core_rules.specs.declared.ruling.Ruling.{Ruling}
use Rattle.goo_core_rules.specs.declared.ruling.Ruling.TheVariants.{Refused, Repeated, Passed}

-- what a command's definitions say here: its repeat, its refusal, its reply, its notice, the certificates after it, how many edits of the rows it takes at most, and for which numbers
pub record Meaning : Type 0 where
  pub repeated : Option Reply
  pub refused : Option Refusal
  pub reply : Reply
  pub notice : Option NoticeContents
  pub after : Certificates
  pub most : List Piece → ℕ
  pub ranges : List Numbers

-- a change with the reply and the notice, whose edits turn the rows into those after it, are few, and insert pieces of lots that are there before or after
pub record IsPassed (meaning : Meaning) (rows : List Piece) (change : Change) : Type 0 where
  pub fresh : meaning.repeated ≡ None
  pub allowed : meaning.refused ≡ None
  pub answered : change.reply ≡ meaning.reply
  pub sent : change.notice ≡ meaning.notice
  pub rising : StayRising change.edits.items rows
  pub turned : IsTurned meaning.after rows change.edits.items
  pub few : length change.edits.items ≤ meaning.most rows
  pub small : AreSmall meaning.ranges rows change.edits.items
  pub lots : AreOfLots (IsLotOf (at_of rows) (get meaning.after)) change.edits.items

abbrev pub IsRuling : Meaning → List Piece → Ruling → Type 0
IsRuling meaning rows (Refused refusal) = (meaning.repeated ≡ None) × (meaning.refused ≡ Some refusal)
IsRuling meaning rows (Repeated reply) = meaning.repeated ≡ Some reply
IsRuling meaning rows (Passed change) = IsPassed meaning rows change

-- what its definitions say of a command that is never repeated by itself and sends nothing
abbrev pub plain_meaning : Option Refusal → Reply → Certificates → (List Piece → ℕ) → List Numbers → Meaning
plain_meaning refused reply after most ranges = record { repeated = None; refused = refused; reply = reply; notice = None; after = after; most = most; ranges = ranges }

abbrev pub meaning_of : State → List ℕ → Command → Meaning
meaning_of s caller command = record {
  repeated = repeats s caller command;
  refused = refusal s caller command;
  reply = reply_to s command;
  notice = notice_sent s command;
  after = (changed s command).at;
  most = λ rows. most_edits s rows command;
  ranges = edited_ranges s command;
}
