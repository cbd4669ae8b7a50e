-- The checks of an export in parts, and what it sends.
use Rattle.std.specs.Prelude.{◌≡◌, ◌⊎◌, ℕ, List, [], ◌∷◌, not, nat_lt, length, Option, Some, None}
use Rattle.std.specs.FinMap.{get, contains_key}
use Rattle.goo_types.specs.Day.{CalendarDay}
use Rattle.goo_types.specs.Notice.{NoticeContents, IsNotice, notice_contents}
use Rattle.goo_types.specs.Piece.{Label, at_of}
use Rattle.goo_types.specs.declared.command.Export.{Export}
use Rattle.goo_types.specs.declared.part.Part.{Part}
use Rattle.goo_types.specs.declared.piece.Piece.{Piece}
use Rattle.goo_types.specs.declared.place.Place.TheVariants as place
use Rattle.goo_types.specs.declared.refusal.Refusal.{Refusal}
use Rattle.goo_types.specs.declared.refusal.Refusal.TheVariants.{NotAllowed, UnknownPeer, TooManyParts, NumbersExhausted}
use Rattle.goo_types.specs.declared.reply.Reply.TheVariants as reply
use Rattle.goo_spec.specs.Checks.{first_refusal, when, is_holder}
use Rattle.goo_spec.specs.Maps.{count_of}
use Rattle.goo_spec.specs.Parts.{ArePartsOf}
use Rattle.goo_spec.specs.State.{State, last_act}
use Rattle.goo_spec.specs.Export.{export_refusal, export_reply, with_export, notice_of}
use Rattle.goo_core_moves.specs.Moves.{IsMove}
use Rattle.goo_core_moves.specs.Ruling.{Meaning}
use Rattle.goo_core_rules.specs.Trade.{trade_checks}
use Rattle.goo_core_rules.specs.declared.ruling.Ruling.{Ruling}
use Rattle.goo_core_rules.specs.declared.ruling.Ruling.TheVariants.{Refused, Repeated, Passed}

-- those before the ones over its range
abbrev pub entry_checks : State → List ℕ → Export → List (Option Refusal)
entry_checks s caller x =
    when (not (is_holder caller (get s.accounts x.giver))) NotAllowed
    ∷ when (not (contains_key s.peers x.peer)) UnknownPeer
    ∷ []

-- those of its parts, and of the next notice's number
abbrev pub sending_checks : List Part → ℕ → List (Option Refusal)
sending_checks parts next =
    when (nat_lt 100 (length parts)) TooManyParts
    ∷ when (nat_lt last_act next) NumbersExhausted
    ∷ []

-- the notice of these parts
abbrev pub notice_with : ℕ → ℕ → Export → List Part → NoticeContents
notice_with own next x parts = notice_contents own x.peer next x.account parts

-- why these parts aren't sent; the second case is met by no sound registry
abbrev pub IsUnsendable : ℕ → ℕ → Export → List Part → Refusal → Type 0
IsUnsendable own next x parts refusal =
    (first_refusal (sending_checks parts next) ≡ Some refusal)
    ⊎ ((first_refusal (sending_checks parts next) ≡ None) × (IsNotice (notice_with own next x parts) → ⊥))

-- the parts of its range can't be sent
pub record IsHeldBack (own next : ℕ) (x : Export) (at : ℕ → Option Label) (refusal : Refusal) : Type 0 where
  pub parts : List Part
  pub are : ArePartsOf at x.range parts
  pub why : IsUnsendable own next x parts refusal

-- the parts of its range are sent
pub record IsSentOut (own next : ℕ) (x : Export) (at : ℕ → Option Label) (sent : NoticeContents) : Type 0 where
  pub parts : List Part
  pub are : ArePartsOf at x.range parts
  pub free : first_refusal (sending_checks parts next) ≡ None
  pub says : sent ≡ notice_with own next x parts

-- what an export comes to on the rows that its range meets, once no earlier check fails
abbrev pub IsExportRuling : ℕ → ℕ → CalendarDay → Export → List Piece → Ruling → Type 0
IsExportRuling own next today x met (Refused refusal) =
    (first_refusal (trade_checks (at_of met) x.range x.giver today) ≡ Some refusal)
    ⊎ ((first_refusal (trade_checks (at_of met) x.range x.giver today) ≡ None) × IsHeldBack own next x (at_of met) refusal)
IsExportRuling own next today x met (Repeated kept) = ⊥
IsExportRuling own next today x met (Passed change) =
    (first_refusal (trade_checks (at_of met) x.range x.giver today) ≡ None)
    × ((sent : NoticeContents) × IsSentOut own next x (at_of met) sent × IsMove (reply.Exported next (count_of x.range)) (Some sent) x.range (place.Exported x.giver next) met change)

-- what its definitions say of an export
abbrev pub export_meaning : State → List ℕ → Export → Meaning
export_meaning s caller x = record { repeated = None; refused = export_refusal s caller x; reply = export_reply s x; notice = Some (notice_of s x); after = (with_export s x).at; most = λ rows. 1; ranges = x.range ∷ [] }
