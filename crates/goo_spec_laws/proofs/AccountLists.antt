-- The same of lists of requests.
use Rattle.std.proofs.Common.{◌≡◌, ℕ, true, cond, List, [], ◌∷◌, Some, None, refl, sym, ap, ◌∙◌, subst}
use Rattle.std.specs.Prelude.{is_some}
use Rattle.std.specs.FinMap.{get, contains_key}
use Rattle.std.proofs.lemmas.List.Elements.{All-head, All-tail}
use Rattle.goo_types.specs.declared.lot_fields.LotFields.{LotFields}
use Rattle.goo_types.specs.declared.place.Place.{Place}
use Rattle.goo_types.specs.declared.place.Place.TheVariants as place
use Rattle.goo_types.specs.declared.command.Command.TheVariants.{Advance}
use Rattle.goo_types.specs.declared.request.Request.{Request}
use Rattle.goo_spec.specs.Maps.{replaced}
use Rattle.goo_spec.specs.State.{State}
use Rattle.goo_spec.specs.Advance.{aged, with_day}
use Rattle.goo_spec.specs.Step.{next}
use Rattle.goo_spec.specs.Run.{final}
use Rattle.goo_spec.specs.Sound.{IsSound}
use Rattle.goo_spec.specs.Obeys.{Obeys, AllObey}
use Rattle.goo_spec.proofs.Fating.{fate_changed}
use Rattle.goo_spec.proofs.Stepping.{sound_next}
use Rattle.goo_spec_laws.specs.Ways.{Known}
use Rattle.goo_spec_laws.proofs.Dates.{over_final}
use Rattle.goo_spec_laws.specs.Agree.{AgreeOn, its_certificate}
use Rattle.goo_spec_laws.specs.Independent.{AreOfOthers, on_day, IsIndependent, OthersLeaveItAlone}
use Rattle.goo_spec_laws.proofs.Certificates.{its_next}
use Rattle.goo_spec_laws.proofs.AccountRecords.{LeavesRecords, left_so, left_on, leaves_next}

-- ---- on the day itself nothing is over that is held

held_today : (s : State) (lot : LotFields) (n : ℕ) (place : Place) → get s.at n ≡ Some (lot, place) → IsSound s → aged s.today lot place ≡ place
held_today s lot n (place.Held a) is sound = ap (λ b. cond b (place.Expired a) (place.Held a)) (sound.times.current n lot (place.Held a) is refl)
held_today s lot n (place.Cancelled a k) is sound = refl
held_today s lot n (place.Expired a) is sound = refl
held_today s lot n (place.Withdrawn a k) is sound = refl
held_today s lot n (place.Exported a k) is sound = refl

known_today : (s : State) (n : ℕ) (o : Known) → get s.at n ≡ o → IsSound s → replaced (aged s.today) o ≡ o
known_today s n None is sound = refl
known_today s n (Some known) is sound = ap (λ p. Some (known.0, p)) (held_today s known.0 n known.1 is sound)

-- ---- a list

module _ (account : ℕ) where
  still_there : (s t : State) → LeavesRecords account s t → contains_key s.accounts account ≡ true → contains_key t.accounts account ≡ true
  still_there s t left there = ap is_some left.row ∙ there

  left_final : (s : State) (qs : List Request) → AllObey qs → IsSound s → contains_key s.accounts account ≡ true → AreOfOthers account s qs → LeavesRecords account s (final s qs)
  left_final s [] obey sound there others = left_so account s
  left_final s (q ∷ qs) obey sound there others =
      let step = leaves_next account s q there sound others.0 in
      let after = sound_next s q (All-head (λ p. Obeys p.command) q qs obey) sound in
      left_on account s (next s q) (final (next s q) qs) step
      (left_final (next s q) qs (All-tail (λ p. Obeys p.command) q qs obey) after (still_there s (next s q) step there) others.1)

  its_final : (s : State) (qs : List Request) (n : ℕ) → AllObey qs → IsSound s → AreOfOthers account s qs
      → its_certificate account (get (final s qs).at n) ≡ its_certificate account (replaced (aged (final s qs).today) (get s.at n))
  its_final s [] n obey sound others = sym (ap (its_certificate account) (known_today s n (get s.at n) refl sound))
  its_final s (q ∷ qs) n obey sound others =
      let after = sound_next s q (All-head (λ p. Obeys p.command) q qs obey) sound in
      its_final (next s q) qs n (All-tail (λ p. Obeys p.command) q qs obey) after others.1
      ∙ its_next s q account (final (next s q) qs).today n sound after (λ lot over. over_final lot (next s q) qs over) others.0

  dated : (s : State) (qs : List Request) → AllObey qs → IsSound s → contains_key s.accounts account ≡ true → AreOfOthers account s qs → AgreeOn account (on_day s (final s qs).today) (final s qs)
  unfolding with_day
  dated s qs obey sound there others =
      let left = left_final s qs obey sound there others in
      record {
        code = left.code;
        row = left.row;
        certificates = λ n.
            its_final s qs n obey sound others ∙ sym (ap (its_certificate account) (fate_changed s (Advance (record { day = (final s qs).today })) n));
        cancellations = left.cancellations;
        notices = left.notices;
      }

  undated : (s : State) (qs : List Request) → AllObey qs → IsSound s → contains_key s.accounts account ≡ true → AreOfOthers account s qs → (final s qs).today ≡ s.today → AgreeOn account s (final s qs)
  undated s qs obey sound there others day =
      let left = left_final s qs obey sound there others in
      record {
        code = left.code;
        row = left.row;
        certificates = λ n.
            its_final s qs n obey sound others ∙ ap (λ d. its_certificate account (replaced (aged d) (get s.at n))) day
            ∙ ap (its_certificate account) (known_today s n (get s.at n) refl sound);
        cancellations = left.cancellations;
        notices = left.notices;
      }

pub independent : OthersLeaveItAlone
independent s qs obey sound = record {
  dated = λ account there others. dated account s qs obey sound there others;
  same = λ account there others day. undated account s qs obey sound there others day;
}

-- of a state that is the last of a run
pub left_alone : (s t : State) (qs : List Request) → AllObey qs → IsSound s → t ≡ final s qs → IsIndependent s qs t
left_alone s t qs obey sound is = subst (λ (u : State). IsIndependent s qs u) (sym is) (independent s qs obey sound)
