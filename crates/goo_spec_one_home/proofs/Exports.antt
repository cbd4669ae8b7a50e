-- An export sends the certificates of its range.
use Rattle.std.proofs.Common.{◌≡◌, ℕ, Bool, true, false, cond, List, Option, Some, None, refl, sym, ap, ◌∙◌}
use Rattle.std.specs.FinMap.{get}
use Rattle.goo_types.specs.declared.lot_fields.LotFields.{LotFields}
use Rattle.goo_types.specs.declared.place.Place.{Place}
use Rattle.goo_types.specs.declared.place.Place.TheVariants.{Exported}
use Rattle.goo_types.specs.declared.command.Export.{Export}
use Rattle.goo_spec.specs.State.{State, Sent}
use Rattle.std.specs.Cmp.{nat_cmp_total}
use Rattle.std.specs.Prelude.{◌==◌}
use Rattle.goo_spec.proofs.Mapping.{get_number}
use Rattle.goo_spec.specs.Lots.{is_absent, is_held_by, fails}
use Rattle.goo_spec.specs.Maps.{each, count_of}
use Rattle.goo_spec.specs.Export.{export_checks, export_refusal, notice_of, with_export}
use Rattle.goo_spec.proofs.Placing.{is_one_of, replaced, get-place_each, passed_over}
use Rattle.goo_spec.proofs.Checking.{none_fail, unfound}
use Rattle.goo_spec.specs.Import.{names}
use Rattle.goo_spec_one_home.specs.World.{notice_in, kept_notice, is_home}
use Rattle.goo_spec_one_home.proofs.Effects.{IsSend}
use Rattle.goo_spec_one_home.proofs.Quiets.{held_by_is_home, lot_placed}
use Rattle.goo_spec_one_home.proofs.Parts.{AreThere, are_there, has_parts, lots_parts}

home_held : (a : ℕ) (o : Option (LotFields × Place)) → is_absent o ≡ false → fails (λ lot place. is_held_by a place) o ≡ false → is_home o ≡ true
home_held a None there h = absurd cc
home_held a (Some known) there h = held_by_is_home a known.1 h

gone_away : (a k : ℕ) (o : Option (LotFields × Place)) → is_home (replaced (λ lot place. Exported a k) o) ≡ false
gone_away a k None = refl
gone_away a k (Some known) = refl

module _ (s : State) (caller : List ℕ) (x : Export) (none : export_refusal s caller x ≡ None) where
  there : AreThere s.at (each x.range)
  unfolding export_refusal
  there = let passed = none_fail (export_checks s caller x) none in are_there s.at (each x.range) (unfound _ _ passed.1.1.0)

  absent_not : (n : ℕ) → is_one_of (each x.range) n ≡ true → is_absent (get s.at n) ≡ false
  unfolding export_refusal
  absent_not = let passed = none_fail (export_checks s caller x) none in λ n one. passed_over (λ m. is_absent (get s.at m)) (each x.range) n (unfound _ _ passed.1.1.0) one

  held : (n : ℕ) → is_one_of (each x.range) n ≡ true → fails (λ lot place. is_held_by x.giver place) (get s.at n) ≡ false
  unfolding export_refusal
  held =
      let passed = none_fail (export_checks s caller x) none in
      λ n one. passed_over (λ m. fails (λ lot place. is_held_by x.giver place) (get s.at m)) (each x.range) n (unfound _ _ passed.1.1.1.0) one

  named : (n : ℕ) → names (notice_of s x) n ≡ is_one_of (each x.range) n
  unfolding notice_of
  named n = has_parts s.at (count_of x.range) x.range.first n there

  at_after : (n : ℕ) → get (with_export s x).at n ≡ cond (is_one_of (each x.range) n) (replaced (λ lot place. Exported x.giver s.next_notice) (get s.at n)) (get s.at n)
  unfolding with_export
  at_after n = get-place_each (λ lot place. Exported x.giver s.next_notice) (λ lot place. refl) (each x.range) s.at n

  abbrev after_by : ℕ → Bool → Option (LotFields × Place)
  after_by n b = cond b (replaced (λ lot place. Exported x.giver s.next_notice) (get s.at n)) (get s.at n)

  notice_by : (b : Bool) (kept : Sent) (o : Option Sent) → notice_in (cond b (Some kept) o) ≡ cond b (Some kept.notice) (notice_in o)
  notice_by true kept o = refl
  notice_by false kept o = refl

  kept_after : (k : ℕ) → kept_notice (with_export s x) k ≡ cond (k == s.next_notice) (Some (notice_of s x)) (kept_notice s k)
  unfolding with_export
  kept_after k =
      let kept : Sent = record { account = x.giver; notice = notice_of s x } in
      ap notice_in (get_number s.sent s.next_notice kept k nat_cmp_total) ∙ notice_by (k == s.next_notice) kept (get s.sent k)

  pub send_export : IsSend s (with_export s x) (notice_of s x)
  unfolding with_export notice_of
  send_export = record {
    own = refl;
    serial = refl;
    notice = refl;
    arrived = refl;
    sender = refl;
    number = refl;
    sent = kept_after;
    was = λ n is. let one = sym (named n) ∙ is in home_held x.giver (get s.at n) (absent_not n one) (held n one);
    gone = λ n is. let one = sym (named n) ∙ is in ap is_home (at_after n) ∙ ap (λ b. is_home (after_by n b)) one ∙ gone_away x.giver s.next_notice (get s.at n);
    other = λ n is. let one = sym (named n) ∙ is in ap is_home (at_after n) ∙ ap (λ b. is_home (after_by n b)) one;
    lot = lot_placed (λ lot place. Exported x.giver s.next_notice) (λ lot place. refl) (each x.range) s.at;
    lots = λ n. lots_parts s.at (count_of x.range) x.range.first n there;
  }
