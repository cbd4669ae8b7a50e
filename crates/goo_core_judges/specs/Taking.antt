-- The edits that take in what a notice brings.
use Rattle.std.specs.Prelude.{◌≡◌, ◌⊎◌, ℕ, ◌≤◌, List, [], ◌∷◌, length, map, Option, Some, None, Contains, Vec}
use Rattle.std.specs.Global.{Global}
use Rattle.goo_types.specs.Piece.{at_of}
use Rattle.goo_types.specs.Range.{Numbers}
use Rattle.goo_types.specs.declared.lot_fields.LotFields.{LotFields}
use Rattle.goo_types.specs.declared.piece.Piece.{Piece}
use Rattle.goo_types.specs.declared.place.Place.TheVariants.{Held}
use Rattle.goo_ranges.specs.Change.{set_to}
use Rattle.goo_ranges.specs.declared.edits.Edit.{Edit}
use Rattle.goo_ranges_rows.specs.Plans.{AreEditsOf, IsEditWithin}
use Rattle.goo_ranges_rows.specs.Rows.{meeting, edited, edited_all}
use Rattle.goo_types.specs.declared.reply.Reply.TheVariants.{Imported}
use Rattle.goo_spec.specs.Checks.{first_refusal}
use Rattle.goo_spec.specs.Lots.{lot_in}
use Rattle.goo_core_moves.specs.Arrivals.{numbers_checks}
use Rattle.goo_core_judges.specs.Import.{given}
use Rattle.goo_core_rules.specs.Changes.{AreSmall, AreOfLots}
use Rattle.goo_ranges.specs.Sparing.{IsSmall}
use Rattle.goo_core_rules.specs.declared.ruling.Ruling.{Ruling}
use Rattle.goo_core_rules.specs.declared.ruling.Ruling.TheVariants.{Refused, Repeated, Passed}
use Rattle.goo_core_moves.specs.declared.arriving.Arriving.{Arriving}

-- the numbers of each part
abbrev pub ranges_of : List Arriving → List Numbers
ranges_of arriving = map (λ (a : Arriving). a.part.range) arriving

-- the lot of each part
abbrev pub lots_of : List Arriving → List LotFields
lots_of arriving = map (λ (a : Arriving). a.part.lot) arriving

-- a number of the rows has the lot, or it is that of a part
abbrev pub IsLotTaken : List Piece → List Arriving → LotFields → Type 0
IsLotTaken rows arriving lot = ((n : ℕ) × (lot_in (at_of rows n) ≡ Some lot)) ⊎ Contains (lots_of arriving) lot

-- each part's book has the rows that its range meets
abbrev pub AreMet : List Piece → List Arriving → Type 0
AreMet rows [] = Unit {0}
AreMet rows (a ∷ more) = (a.book ≡ meeting a.part.range rows) × AreMet rows more

-- an edit of the rows near a part as the edits before left them, which gives its numbers the lot and the account
pub record IsPartEdit (rows : List Piece) (es : List Edit) (a : Arriving) (account : ℕ) (e : Edit) : Type 0 where
  pub forward : a.part.range.first ≤ a.part.range.last
  pub within : IsEditWithin a.part.range (meeting a.part.range (edited_all es rows)) e
  pub small : IsSmall a.part.range.first a.part.range.last (meeting a.part.range (edited_all es rows)) e
  pub changes : (n : ℕ) → at_of (edited e (meeting a.part.range (edited_all es rows))) n ≡ set_to a.part.range.first a.part.range.last (a.part.lot, Held account) n (at_of (meeting a.part.range (edited_all es rows)) n)

abbrev pub IsStepOf : List Piece → List Edit → Arriving → ℕ → Option Edit → Type 0
IsStepOf rows es a account None = ⊥
IsStepOf rows es a account (Some e) = IsPartEdit rows es a account e

-- edits of the rows that give all parts' numbers their lots and the account, one for each part, and insert pieces of the lots of rows and parts
pub record AreTaken (rows : List Piece) (arriving : List Arriving) (account : ℕ) (es : List Edit) : Type 0 where
  pub edits : AreEditsOf rows es
  pub changes : (n : ℕ) → at_of (edited_all es rows) n ≡ given arriving account n (at_of rows n)
  pub one_each : length es ≡ length arriving
  pub small : AreSmall (ranges_of arriving) rows es
  pub lots : AreOfLots (IsLotTaken rows arriving) es

abbrev pub IsTaking : List Piece → List Arriving → ℕ → Option (Vec Edit Global) → Type 0
IsTaking rows arriving account None = ⊥
IsTaking rows arriving account (Some es) = AreTaken rows arriving account es.items

-- what taking in the certificates comes to
abbrev pub IsTakeRuling : List Piece → List Arriving → ℕ → ℕ → ℕ → Ruling → Type 0
IsTakeRuling rows arriving own account count (Refused refusal) = first_refusal (numbers_checks own arriving) ≡ Some refusal
IsTakeRuling rows arriving own account count (Repeated kept) = ⊥
IsTakeRuling rows arriving own account count (Passed change) =
    (first_refusal (numbers_checks own arriving) ≡ None) × (change.reply ≡ Imported count) × (change.notice ≡ None) × AreTaken rows arriving account change.edits.items
