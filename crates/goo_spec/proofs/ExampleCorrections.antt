-- Declarations that are lowered: the last of three months takes a certificate back, and what is then declared gets a new number.
use Rattle.std.proofs.Common.{◌≡◌, ℕ, ◌+◌, [], ◌∷◌, Option, Some, None, refl, ap, ◌∙◌}
use Rattle.std.specs.Prelude.{codes, cond}
use Rattle.std.specs.FinMap.{get, insert, empty}
use Rattle.goo_types.specs.Day.{CalendarDay}
use Rattle.goo_types.specs.Range.{Numbers}
use Rattle.goo_types.specs.Place.{account_of}
use Rattle.goo_types.specs.declared.lot_fields.LotFields.{LotFields}
use Rattle.goo_types.specs.declared.place.Place.{Place}
use Rattle.goo_types.specs.declared.place.Place.TheVariants.{Held, Withdrawn}
use Rattle.goo_types.specs.declared.piece.Piece.{Piece}
use Rattle.goo_types.specs.declared.command.Correct.{Correct}
use Rattle.goo_types.specs.declared.command.Declare.{Declare}
use Rattle.goo_types.specs.declared.refusal.Refusal.TheVariants.{NotAllowed, UnknownDeclaration, OverCorrected, WrongCount, UnknownNumber, OtherDevice, NotHeld}
use Rattle.goo_types.specs.declared.reply.Reply.TheVariants.{Declared, Corrected}
use Rattle.goo_spec.specs.Lots.{Certificates, key_of}
use Rattle.goo_spec.specs.Maps.{numbers_from, each, is_within, give_each, place_each}
use Rattle.goo_spec.specs.State.{State}
use Rattle.goo_spec.specs.Energy.{total, lowered, remaining, due, carry}
use Rattle.goo_spec.specs.Checks.{issuer}
use Rattle.goo_spec.specs.Declare.{with_declaration, earned, declare_reply}
use Rattle.goo_spec.specs.Correct.{correctable, excess, correct_refusal, correct_reply, with_correction}
use Rattle.goo_spec.specs.Withdraw.{with_withdrawal}
use Rattle.goo_spec.specs.Pieces.{issued_by_pieces, corrected_by_pieces}
use Rattle.goo_spec.specs.Fate.{moved_one}
use Rattle.goo_spec.proofs.Fating.{fate_moved}
use Rattle.goo_spec.proofs.Numbers.{one_within}
use Rattle.goo_spec.proofs.Placing.{get-give_each}
use Rattle.goo_spec.proofs.ExampleRegistry.{day, gsrn, sun, base, device}
use Rattle.goo_spec.proofs.ExampleKeys.{numbers, january, january_lot, certificates, after_january, at_january}

abbrev february : Declare
february = record { device = gsrn; first_day = day 2025 2 1; last_day = day 2025 2 28; gross = 999999; aux = 0 }

abbrev march : Declare
march = record { device = gsrn; first_day = day 2025 3 1; last_day = day 2025 3 31; gross = 1; aux = 0 }

abbrev march_lot : LotFields
march_lot = record january_lot { first_day = day 2025 3 1; last_day = day 2025 3 31; issued_on = day 2025 4 5 }

-- the certificates ..0001 to ..1201
unfoldable pub all : Certificates
all = give_each (numbers_from 7000000001201 1) march_lot (Held 1) certificates

abbrev after_march : ℕ → Option (LotFields × Place)
after_march n = cond (is_within (numbers 1201 1201) n) (Some (march_lot, Held 1)) (after_january n)

map_all : get all ≡ after_march
unfolding all
map_all = λ i n. (
    get-give_each march_lot (Held 1) (numbers_from 7000000001201 1) certificates n
    ∙ ap (λ b. cond b (Some (march_lot, Held 1)) (get certificates n)) (one_within (numbers 1201 1201) n)
    ∙ ap (cond (is_within (numbers 1201 1201) n) (Some (march_lot, Held 1))) (at_january n)
    ) i

-- January, February and March are declared; it is 2025-04-05
abbrev declared : State
declared = record base {
  today = day 2025 4 5;
  next_serial = 1202;
  at = all;
  lots = insert (insert empty (key_of january_lot) january_lot) (key_of march_lot) march_lot;
  declarations = january ∷ february ∷ march ∷ [];
}

abbrev lowers : CalendarDay → ℕ → Option Numbers → Correct
lowers first_day less range = record { device = gsrn; first_day = first_day; less = less; range = range; reason = codes "meter read twice" }

-- ---- February is lowered to nothing

abbrev first : Correct
first = lowers (day 2025 2 1) 999999 (Some (numbers 1201 1201))

passes_first : correct_refusal declared issuer first ≡ None
unfolding correct_refusal correctable excess due remaining lowered total
passes_first = rw (device, map_all) refl

replies_first : correct_reply declared first ≡ Corrected 1 1 (Some 1)
unfolding correct_reply remaining lowered total
replies_first = refl

-- ..1201 is with the withdrawal, though it is of March
unfoldable pub less_one : Certificates
less_one = place_each (λ lot place. Withdrawn (account_of place) 1) (each (numbers 1201 1201)) all

abbrev after_first : ℕ → Option (LotFields × Place)
after_first n = moved_one (numbers 1201 1201) (λ lot place. Withdrawn (account_of place) 1) n (after_march n)

map_first : get less_one ≡ after_first
unfolding less_one
map_first = λ i n. (
    fate_moved (λ lot place. Withdrawn (account_of place) 1) (λ lot place. refl) (numbers 1201 1201) all n
    ∙ ap (moved_one (numbers 1201 1201) (λ lot place. Withdrawn (account_of place) 1) n) (λ j. map_all j n)
    ) i

abbrev after_one : State
after_one = record declared {
  at = less_one;
  corrections = record { device = gsrn; first_day = day 2025 2 1; less = 999999; withdrawal = Some 1 } ∷ [];
  withdrawals = insert empty 1 (record { range = numbers 1201 1201; reason = codes "meter read twice"; day = day 2025 4 5 });
  next_withdrawal = 2;
}

leaves_first : with_correction declared first ≡ after_one
unfolding with_correction with_withdrawal less_one
leaves_first = refl

-- ---- January by one watt-hour, which takes nothing back

abbrev second : Correct
second = lowers (day 2025 1 1) 1 None

passes_second : correct_refusal after_one issuer second ≡ None
unfolding correct_refusal correctable excess due remaining lowered total
passes_second = rw device refl

replies_second : correct_reply after_one second ≡ Corrected 0 0 None
unfolding correct_reply remaining lowered total
replies_second = refl

abbrev after_two : State
after_two = record after_one {
  corrections = record { device = gsrn; first_day = day 2025 2 1; less = 999999; withdrawal = Some 1 }
      ∷ record { device = gsrn; first_day = day 2025 1 1; less = 1; withdrawal = None } ∷ [];
}

leaves_second : with_correction after_one second ≡ after_two
unfolding with_correction
leaves_second = refl

-- ---- what is refused then

over : correct_refusal after_two issuer (lowers (day 2025 2 1) 1 None) ≡ Some OverCorrected
unfolding correct_refusal correctable
over = rw device refl

never_declared : correct_refusal after_two issuer (lowers (day 2025 1 2) 1 None) ≡ Some UnknownDeclaration
unfolding correct_refusal correctable
never_declared = rw device refl

two_for_one : correct_refusal after_two issuer (lowers (day 2025 1 1) 1000000 (Some (numbers 1 2))) ≡ Some WrongCount
unfolding correct_refusal correctable excess due remaining lowered total
two_for_one = rw device refl

none_for_one : correct_refusal after_two issuer (lowers (day 2025 1 1) 1000000 None) ≡ Some WrongCount
unfolding correct_refusal correctable excess due remaining lowered total
none_for_one = rw device refl

never_issued : correct_refusal after_two issuer (lowers (day 2025 1 1) 1000000 (Some (numbers 1202 1202))) ≡ Some (UnknownNumber 7000000001202)
unfolding correct_refusal correctable excess due remaining lowered total
never_issued = rw (device, map_first) refl

taken_before : correct_refusal after_two issuer (lowers (day 2025 1 1) 1000000 (Some (numbers 1201 1201))) ≡ Some (NotHeld 7000000001201)
unfolding correct_refusal correctable excess due remaining lowered total
taken_before = rw (device, map_first) refl

not_by_holder : correct_refusal after_two sun second ≡ Some NotAllowed
unfolding correct_refusal
not_by_holder = refl

-- ---- the sums, and the next serial

sums : (total after_two gsrn ≡ 1201000000) × (lowered after_two gsrn ≡ 1000000) × (due after_two gsrn ≡ 1200) × (carry after_two gsrn ≡ 0)
unfolding due carry remaining lowered total
sums = (refl, refl, refl, refl)

abbrev april : Declare
april = record { device = gsrn; first_day = day 2025 4 1; last_day = day 2025 4 4; gross = 1000000; aux = 0 }

-- the serial of a withdrawn certificate isn't used again
next_one : declare_reply after_two april ≡ Declared 0 (Some (numbers 1202 1202))
unfolding declare_reply carry earned due remaining lowered total with_declaration
next_one = refl

-- ---- a certificate of another device

abbrev other_lot : LotFields
other_lot = record january_lot { device = codes "500000000000000029" }

unfoldable pub with_both : Certificates
with_both = give_each (numbers_from 7000000001203 1) other_lot (Held 1) less_one

map_both : get with_both ≡ (λ n. cond (is_within (numbers 1203 1203) n) (Some (other_lot, Held 1)) (after_first n))
unfolding with_both
map_both = λ i n. (
    get-give_each other_lot (Held 1) (numbers_from 7000000001203 1) less_one n
    ∙ ap (λ b. cond b (Some (other_lot, Held 1)) (get less_one n)) (one_within (numbers 1203 1203) n)
    ∙ ap (cond (is_within (numbers 1203 1203) n) (Some (other_lot, Held 1))) (λ j. map_first j n)
    ) i

other_device : correct_refusal (record after_two { at = with_both }) issuer (lowers (day 2025 1 1) 1000000 (Some (numbers 1203 1203))) ≡ Some (OtherDevice 7000000001203)
unfolding correct_refusal correctable excess due remaining lowered total
other_device = rw (device, map_both) refl

-- ---- the certificates by pieces: 1,201 were issued, and a correction took one back

abbrev piece : ℕ → ℕ → LotFields → Place → Piece
piece first last lot place = record { first = 7000000000000 + first; last = 7000000000000 + last; lot = lot; place = place }

counted : (issued_by_pieces 7 gsrn (piece 1 1200 january_lot (Held 1) ∷ piece 1201 1201 march_lot (Withdrawn 1 1) ∷ []) ≡ 1201)
    × (corrected_by_pieces 7 gsrn after_two.corrections (piece 1 1200 january_lot (Held 1) ∷ piece 1201 1201 march_lot (Withdrawn 1 1) ∷ []) ≡ 1)
counted = (refl, refl)
