-- Corrections: what their entry comes to, and what they come to on the rows of their range.
use Rattle.std.proofs.Common.{◌≡◌, ◌∙◌, ℕ, ◌+◌, ◌-◌, ◌*◌, ◌/◌, ◌%◌, ◌≤◌, ◌==◌, List, [], ◌∷◌, Bool, true, false, not, ◌&&◌, if◌then◌else◌, Option, Some, None, Result, Ok, Err, refl, ap, sym, subst, arith}
use Rattle.std.specs.Prelude.{is_some, nat_lt}
use Rattle.std.specs.Option.{option_map, option_to_list}
use Rattle.std.specs.FinMap.{get}
use Rattle.std.proofs.lemmas.Bool.{ltb-false}
use Rattle.goo_types.specs.Piece.{Label, at_of}
use Rattle.goo_types.specs.Place.{account_of}
use Rattle.goo_types.specs.Range.{Numbers}
use Rattle.goo_types.specs.declared.command.Correct.{Correct}
use Rattle.goo_types.specs.declared.piece.Piece.{Piece}
use Rattle.goo_types.specs.declared.place.Place.TheVariants.{Withdrawn}
use Rattle.goo_types.specs.declared.refusal.Refusal.{Refusal}
use Rattle.goo_types.specs.declared.refusal.Refusal.TheVariants.{UnknownDevice, OverCorrected, WrongCount, UnknownNumber, OtherDevice, NotHeld, NumbersExhausted}
use Rattle.goo_types.specs.declared.reply.Reply.TheVariants as reply
use Rattle.goo_spec.specs.Checks.{first_refusal, when, naming, is_issuer}
use Rattle.goo_spec.specs.Correct.{correctable, excess, lowering_refusal, numbers_in, count_in, is_lot_of, correct_refusal, withdrawal_for, correct_reply, taken_out, with_correction}
use Rattle.goo_spec.specs.Energy.{certificate, remaining, carry}
use Rattle.goo_spec.specs.Lots.{Certificates, is_held}
use Rattle.goo_spec.specs.Maps.{count_of, least_absent, least_failing}
use Rattle.goo_spec.specs.Sound.{IsSound}
use Rattle.goo_spec.specs.State.{State, Device, last_act}
use Rattle.goo_spec.specs.Withdraw.{with_withdrawal}
use Rattle.goo_spec.proofs.Excess.{left_fits, excess_from_carry, carry_less}
use Rattle.goo_ranges.specs.Change.{inside}
use Rattle.goo_ranges_rows.specs.Rows.{AreRowsOf, meeting}
use Rattle.goo_ranges_rows.proofs.Framing.{absent-alike, failing-alike}
use Rattle.goo_ranges_rows.proofs.Mapping.{get-place_each-range}
use Rattle.goo_core_rules.specs.declared.ruling.Change.{Change}
use Rattle.goo_core_rules.specs.declared.ruling.Ruling.{Ruling}
use Rattle.goo_core_rules.specs.declared.ruling.Ruling.TheVariants.{Refused, Passed}
use Rattle.goo_core_moves.specs.AccountRuns.{account_runs, runs_in}
use Rattle.goo_core_judges.specs.Correct.{entry_checks, range_checks, entry_by, IsEntry}
use Rattle.goo_core_moves.specs.Moves.{IsChangeRuling}
use Rattle.goo_core_moves.specs.Ruling.{IsRuling, plain_meaning}
use Rattle.goo_core_moves.specs.Withdraw.{withdrawn}
use Rattle.goo_core_moves.proofs.AccountRuns.{met_runs}
use Rattle.goo_core_moves.proofs.Changing.{unturned}
use Rattle.goo_core_moves.proofs.Rulings.{passed_early, failed_early, ruled_change}
use Rattle.goo_core_moves.proofs.Withdrawing.{same_withdrawn}

-- the second of two checks that name a number fails
pub second_fails : (f g : ℕ → Refusal) (a b : Option ℕ) (n : ℕ) (rest : List (Option Refusal)) → a ≡ None → b ≡ Some n → first_refusal (naming f a ∷ naming g b ∷ rest) ≡ Some (g n)
second_fails f g a b n rest none is = λ i. first_refusal (naming f (none i) ∷ naming g (is i) ∷ rest)

-- ---- the entry

module _ (s : State) (caller : List ℕ) (x : Correct) (issuer : is_issuer caller ≡ true) where
  pub unknown_device : get s.devices x.device ≡ None → first_refusal (entry_checks s caller x) ≡ Some UnknownDevice
  unknown_device none = rw (issuer, none) refl

  module _ (sound : IsSound s) (device : Device) (known : get s.devices x.device ≡ Some device) where
    -- how many are in excess, by the carry
    abbrev beyond : ℕ
    beyond = (x.less + 999999 - carry s x.device) / certificate

    late : first_refusal (entry_checks s caller x) ≡ first_refusal (lowering_refusal x.less (correctable s x.device x.first_day) ∷ when (not (count_in x.range == excess s x)) WrongCount ∷ [])
    late = rw (issuer, known) refl

    by_count : (left : ℕ) → correctable s x.device x.first_day ≡ Some left → nat_lt left x.less ≡ false → (b : Bool) → (count_in x.range == beyond) ≡ b
        → IsEntry s caller x (if b then Ok (carry s x.device + beyond * certificate - x.less) else Err WrongCount)
    by_count left is enough b same = by b same
      where
        fits : x.less ≤ remaining s x.device
        fits = let a = left_fits s x.device x.first_day left sound is in let l = ltb-false left x.less enough in omega (arith, a, l)

        counted : (c : Bool) → (count_in x.range == beyond) ≡ c → (count_in x.range == excess s x) ≡ c
        counted c h = ap (λ (k : ℕ). count_in x.range == k) (excess_from_carry s x fits) ∙ h

        by : (c : Bool) → (count_in x.range == beyond) ≡ c → IsEntry s caller x (if c then Ok (carry s x.device + beyond * certificate - x.less) else Err WrongCount)
        by true h = (late ∙ rw (is, enough, counted true h) refl, ap (λ (k : ℕ). carry s x.device + k * certificate - x.less) (sym (excess_from_carry s x fits)) ∙ sym (carry_less s x fits))
        by false h = late ∙ rw (is, enough, counted false h) refl

    by_left : (o : Option ℕ) → correctable s x.device x.first_day ≡ o → IsEntry s caller x (entry_by (carry s x.device) o x)
    by_left None is = late ∙ rw is refl
    by_left (Some left) is = by (nat_lt left x.less) refl
      where
        by : (b : Bool) → nat_lt left x.less ≡ b
            → IsEntry s caller x (if b then Err OverCorrected else (if count_in x.range == beyond then Ok (carry s x.device + beyond * certificate - x.less) else Err WrongCount))
        by true h = late ∙ rw (is, h) refl
        by false h = by_count left is h (count_in x.range == beyond) refl

    pub entered : (c : ℕ) (left : Option ℕ) (result : Result ℕ Refusal) → c ≡ carry s x.device → left ≡ correctable s x.device x.first_day → result ≡ entry_by c left x → IsEntry s caller x result
    entered c left result carried is same =
        subst (IsEntry s caller x) (sym (same ∙ ap (λ (k : ℕ). entry_by k left x) carried)) (by_left left (sym is))

pub ruled_refused : (s : State) (rows : List Piece) (caller : List ℕ) (x : Correct) (r : Refusal) → first_refusal (entry_checks s caller x) ≡ Some r
    → IsRuling (plain_meaning (correct_refusal s caller x) (correct_reply s x) (with_correction s x).at (λ rows. runs_in (get s.at) x.range) (option_to_list x.range)) rows (Refused r)
unfolding correct_refusal
ruled_refused s rows caller x r fails = (
  refl,
  failed_early (entry_checks s caller x)
      (naming UnknownNumber (least_absent (get s.at) (numbers_in x.range))
      ∷ naming OtherDevice (least_failing (λ lot place. is_lot_of s.own x.device lot) (get s.at) (numbers_in x.range))
      ∷ naming NotHeld (least_failing (λ lot place. is_held place) (get s.at) (numbers_in x.range))
      ∷ when (is_some x.range && nat_lt last_act s.next_withdrawal) NumbersExhausted ∷ []) r fails,
)

-- ---- the ruling

module _ (s : State) (rows : List Piece) (caller : List ℕ) (x : Correct) (kept : AreRowsOf s.at rows) (passed : first_refusal (entry_checks s caller x) ≡ None) where
  abbrev tail : Option Numbers → List (Option Refusal)
  tail o =
      naming UnknownNumber (least_absent (get s.at) (numbers_in o))
      ∷ naming OtherDevice (least_failing (λ lot place. is_lot_of s.own x.device lot) (get s.at) (numbers_in o))
      ∷ naming NotHeld (least_failing (λ lot place. is_held place) (get s.at) (numbers_in o))
      ∷ when (is_some o && nat_lt last_act s.next_withdrawal) NumbersExhausted
      ∷ []

  refused_by : (o : Option Numbers) → x.range ≡ o → correct_refusal s caller x ≡ first_refusal (tail o)
  unfolding correct_refusal
  refused_by o is = passed_early (entry_checks s caller x) (tail x.range) passed ∙ ap (λ r. first_refusal (tail r)) is

  replied : (o : Option Numbers) → x.range ≡ o → (c : ℕ) → c ≡ (remaining s x.device - x.less) % certificate → reply.Corrected c (count_in o) (withdrawal_for s o) ≡ correct_reply s x
  unfolding correct_reply
  replied o is c carried = λ i. reply.Corrected (carried i) (count_in (sym is i)) (withdrawal_for s (sym is i))

  after_by : (o : Option Numbers) → x.range ≡ o → (with_correction s x).at ≡ (taken_out s x o).at
  unfolding with_correction
  after_by o is = ap (λ r. (taken_out s x r).at) is

  pub ruled_unranged : (change : Change) (c : ℕ) → x.range ≡ None → c ≡ (remaining s x.device - x.less) % certificate → change.reply ≡ reply.Corrected c 0 None → change.edits.items ≡ [] → change.notice ≡ None
      → IsRuling (plain_meaning (correct_refusal s caller x) (correct_reply s x) (with_correction s x).at (λ rows. runs_in (get s.at) x.range) (option_to_list x.range)) rows (Passed change)
  ruled_unranged change c is carried answered edits sent =
      let none = unturned [] s.at rows kept in
      record {
        fresh = refl;
        allowed = refused_by None is;
        answered = answered ∙ replied None is c carried;
        sent = sent;
        rising = rw edits none.rising;
        turned = rw (edits, after_by None is) none.turned;
        few = rw edits (omega arith);
        small = rw edits tt;
        lots = rw (edits, after_by None is) none.lots;
      }

  pub ruled_ranged : (met : List Piece) (range : Numbers) (own next c : ℕ) (ruling : Ruling) → x.range ≡ Some range → own ≡ s.own → next ≡ s.next_withdrawal → c ≡ (remaining s x.device - x.less) % certificate → met ≡ meeting range rows
      → IsChangeRuling (first_refusal (range_checks (at_of met) own next x.device range)) (reply.Corrected c (count_of range) (Some next)) None range (withdrawn range next) (account_runs (at_of met) range) met ruling
      → IsRuling (plain_meaning (correct_refusal s caller x) (correct_reply s x) (with_correction s x).at (λ rows. runs_in (get s.at) x.range) (option_to_list x.range)) rows ruling
  unfolding with_withdrawal
  ruled_ranged met range own next c ruling is code number carried near ruled =
      let act = s.next_withdrawal in
      let moved : IsChangeRuling (first_refusal (range_checks (at_of met) s.own act x.device range)) (reply.Corrected c (count_of range) (Some act)) None range (withdrawn range act) (account_runs (at_of met) range) met ruling
      = subst (λ (k : ℕ). IsChangeRuling (first_refusal (range_checks (at_of met) s.own k x.device range)) (reply.Corrected c (count_of range) (Some k)) None range (withdrawn range k) (account_runs (at_of met) range) met ruling) number
      (subst (λ (k : ℕ). IsChangeRuling (first_refusal (range_checks (at_of met) k next x.device range)) (reply.Corrected c (count_of range) (Some next)) None range (withdrawn range next) (account_runs (at_of met) range) met ruling) code ruled) in
      let here : IsChangeRuling (first_refusal (range_checks (at_of met) s.own act x.device range)) (correct_reply s x) None range (withdrawn range act) (account_runs (at_of met) range) met ruling
      = subst (λ r. IsChangeRuling (first_refusal (range_checks (at_of met) s.own act x.device range)) r None range (withdrawn range act) (account_runs (at_of met) range) met ruling) (replied (Some range) is c carried) moved in
      let alike : first_refusal (tail (Some range)) ≡ first_refusal (range_checks (at_of met) s.own act x.device range) =
      rw (near, ← absent-alike s.at rows range kept, ← failing-alike (λ lot place. is_lot_of s.own x.device lot) s.at rows range kept, ← failing-alike (λ lot place. is_held place) s.at rows range kept) refl in
      ruled_change (plain_meaning (correct_refusal s caller x) (correct_reply s x) (with_correction s x).at (λ rows. runs_in (get s.at) x.range) (option_to_list x.range)) s.at rows met (first_refusal (range_checks (at_of met) s.own act x.device range)) range (withdrawn range act) (account_runs (at_of met) range) ruling kept near refl
      (refused_by (Some range) is ∙ alike)
      (λ n o out. ap (λ (b : Bool). if b then option_map (λ (label : Label). (label.0, Withdrawn (account_of label.1) act)) o else o) out)
      (λ up n. ap (λ (m : Certificates). get m n) (after_by (Some range) is) ∙ get-place_each-range (λ lot place. Withdrawn (account_of place) act) (λ lot place. refl) range s.at n up ∙ same_withdrawn act (inside range.first range.last n) (get s.at n))
      (λ up. let same = met_runs s.at rows met range kept near in let runs : runs_in (get s.at) x.range ≡ account_runs (get s.at) range = ap (runs_in (get s.at)) is in omega (arith, same, runs))
      (ap option_to_list is)
      here
