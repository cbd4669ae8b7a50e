-- From what met rows come to, to what all rows come to.
use Rattle.std.proofs.Common.{◌≡◌, ◌∙◌, ℕ, ◌≤◌, List, [], ◌∷◌, ◌++◌, false, Option, Some, None, refl, ap, sym, subst, arith}
use Rattle.std.specs.FinMap.{get}
use Rattle.goo_types.specs.Piece.{Label}
use Rattle.goo_types.specs.Range.{Numbers}
use Rattle.goo_types.specs.declared.piece.Piece.{Piece}
use Rattle.goo_types.specs.declared.place.Place.{Place}
use Rattle.goo_types.specs.declared.refusal.Refusal.{Refusal}
use Rattle.goo_spec.specs.Checks.{first_refusal}
use Rattle.goo_spec.specs.Lots.{Certificates}
use Rattle.goo_spec.specs.Maps.{each, place_each}
use Rattle.goo_spec.proofs.Mapping.{none_some}
use Rattle.goo_ranges.specs.Change.{inside, moved}
use Rattle.goo_ranges_rows.specs.Rows.{AreRowsOf, meeting}
use Rattle.goo_ranges_rows.proofs.Mapping.{get-move_each}
use Rattle.goo_core_rules.specs.Changes.{AreEditsFor, AreSmall}
use Rattle.goo_core_moves.specs.Moves.{IsChangeRuling, IsMoveRuling}
use Rattle.goo_core_moves.specs.Ruling.{Meaning, IsRuling}
use Rattle.goo_core_rules.specs.declared.ruling.Ruling.{Ruling}
use Rattle.goo_core_rules.specs.declared.ruling.Ruling.TheVariants.{Refused, Repeated, Passed}
use Rattle.goo_core_rules.proofs.Changing.{moved-outside}
use Rattle.goo_core_moves.proofs.Changing.{turned_by}

-- the first of some checks that fails is the first of all
pub failed_early : (early late : List (Option Refusal)) (r : Refusal) → first_refusal early ≡ Some r → first_refusal (early ++ late) ≡ Some r
failed_early [] late r is = none_some r is
failed_early (None ∷ early) late r is = failed_early early late r is
failed_early (Some q ∷ early) late r is = is

-- where none of them fails, the others decide
pub passed_early : (early late : List (Option Refusal)) → first_refusal early ≡ None → first_refusal (early ++ late) ≡ first_refusal late
passed_early [] late is = refl
passed_early (None ∷ early) late is = passed_early early late is
passed_early (Some q ∷ early) late is = none_some q (sym is)

-- a command that changes the certificates of its range
pub ruled_change : (meaning : Meaning) (at : Certificates) (rows met : List Piece) (refused : Option Refusal) (range : Numbers) (change : ℕ → Option Label → Option Label) (most : ℕ) (ruling : Ruling)
    → AreRowsOf at rows → met ≡ meeting range rows → meaning.repeated ≡ None → meaning.refused ≡ refused
    → ((n : ℕ) (o : Option Label) → inside range.first range.last n ≡ false → change n o ≡ o)
    → (range.first ≤ range.last → (n : ℕ) → get meaning.after n ≡ change n (get at n))
    → (range.first ≤ range.last → most ≤ meaning.most rows)
    → meaning.ranges ≡ range ∷ []
    → IsChangeRuling refused meaning.reply meaning.notice range change most met ruling → IsRuling meaning rows ruling
ruled_change meaning at rows met refused range change most (Refused r) kept is fresh same outside so few numbers ruled = (fresh, same ∙ ruled)
ruled_change meaning at rows met refused range change most (Repeated reply) kept is fresh same outside so few numbers ruled = absurd ruled
ruled_change meaning at rows met refused range change most (Passed made) kept is fresh same outside so few numbers ruled =
    let one = ruled.1 in
    let edits : AreEditsFor range (meeting range rows) change made.edits.items = subst (λ m. AreEditsFor range m change made.edits.items) is one.edits in
    let turned = turned_by at meaning.after rows range made.edits.items change one.up kept outside (so one.up) edits in
    record {
      fresh = fresh;
      allowed = same ∙ ruled.0;
      answered = one.answered;
      sent = one.sent;
      rising = turned.rising;
      turned = turned.turned;
      few = omega (arith, one.few, few one.up);
      small = subst (λ ranges. AreSmall ranges rows made.edits.items) (sym numbers) turned.small;
      lots = turned.lots;
    }

-- a command that puts the certificates of its range in a place
pub ruled_move : (meaning : Meaning) (at : Certificates) (rows met : List Piece) (refused : Option Refusal) (range : Numbers) (place : Place) (ruling : Ruling)
    → AreRowsOf at rows → met ≡ meeting range rows → meaning.repeated ≡ None → meaning.refused ≡ refused → meaning.after ≡ place_each (λ lot old. place) (each range) at → meaning.most rows ≡ 1 → meaning.ranges ≡ range ∷ []
    → IsMoveRuling refused meaning.reply meaning.notice range place met ruling → IsRuling meaning rows ruling
ruled_move meaning at rows met refused range place ruling kept is fresh same after one numbers ruled =
    ruled_change meaning at rows met refused range (moved range.first range.last place) 1 ruling kept is fresh same (moved-outside range place)
    (λ up n. ap (λ m. get m n) after ∙ get-move_each range place at n up) (λ up. omega (arith, one)) numbers ruled
