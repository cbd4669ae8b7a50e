-- An import takes in the certificates of its notice.
use Rattle.std.proofs.Common.{◌≡◌, ℕ, ◌==◌, ◌&&◌, ◌||◌, Bool, true, false, cond, List, [], ◌∷◌, ◌++◌, map, Option, Some, None, refl, sym, ap, ◌∙◌, inl, inr}
use Rattle.std.specs.Prelude.{is_some, find, ◌⊎◌}
use Rattle.std.specs.Ordering.{nat_cmp, eq_by_cmp}
use Rattle.std.specs.Cmp.{IsTotalOrder, nat_cmp_total, then_total, on_total, tied_then, unsigned_ties}
use Rattle.std.specs.FinMap.{FinMap, get, insert, contains_key, get-insert}
use Rattle.std.proofs.lemmas.Bool.{true≢false, eqb-true, or_cases, not-false}
use Rattle.goo_types.specs.Notice.{NoticeContents}
use Rattle.goo_types.specs.declared.lot_fields.LotFields.{LotFields}
use Rattle.goo_types.specs.declared.place.Place.{Place}
use Rattle.goo_types.specs.declared.place.Place.TheVariants.{Held}
use Rattle.goo_types.specs.declared.part.Part.{Part}
use Rattle.goo_types.specs.declared.command.Import.{Import}
use Rattle.goo_types.specs.declared.refusal.Refusal.{Refusal}
use Rattle.goo_types.specs.declared.reply.Reply.{Reply}
use Rattle.goo_spec.specs.State.{State, notice_cmp}
use Rattle.goo_spec.specs.Lots.{Certificates, is_exported, fails}
use Rattle.goo_spec.specs.Maps.{each, give_each}
use Rattle.goo_spec.specs.Import.{numbered, number_of, is_other, is_arrived, entry_checks, import_checks, import_refusal, arrived_reply, import_repeats, taken, with_import}
use Rattle.goo_spec.proofs.Mapping.{none_some}
use Rattle.goo_spec.proofs.Placing.{is_one_of, get-give_each}
use Rattle.goo_spec.proofs.Checking.{none_fail, passes, holds, unfound}
use Rattle.goo_spec.specs.Maps.{is_within}
use Rattle.goo_spec.specs.Import.{names}
use Rattle.goo_spec_one_home.specs.World.{is_home, lot_of, HaveLot}
use Rattle.goo_spec_one_home.proofs.Effects.{has, is_called, IsTake}
use Rattle.goo_spec.proofs.Numbers.{one_within}
use Rattle.goo_spec_one_home.proofs.Parts.{has_number}

-- ---- what the certificates have after a notice

module _ (a n : ℕ) where
  abbrev given : Part → Bool → Certificates → Option (LotFields × Place)
  given p b at = cond b (Some (p.lot, Held a)) (get at n)

  abbrev with_part : Part → Certificates → Certificates
  with_part p at = give_each (each p.range) p.lot (Held a) at

  at_given : (p : Part) (at : Certificates) → get (with_part p at) n ≡ given p (is_within p.range n) at
  at_given p at = get-give_each p.lot (Held a) (each p.range) at n ∙ ap (λ b. given p b at) (one_within p.range n)

  other_by : (p : Part) (at : Certificates) (b c : Bool) → is_within p.range n ≡ b → (b || c) ≡ false → (c ≡ false) × (get (with_part p at) n ≡ get at n)
  other_by p at true c is none = absurd cc
  other_by p at false c is none = (none, at_given p at ∙ ap (λ b. given p b at) is)

  pub taken_other : (ps : List Part) (at : Certificates) → has_number ps n ≡ false → get (taken ps (Held a) at) n ≡ get at n
  taken_other [] at none = refl
  taken_other (p ∷ ps) at none =
      let parts = other_by p at (is_within p.range n) (has_number ps n) refl none in
      taken_other ps (with_part p at) parts.0 ∙ parts.1

  home_given : (p : Part) (b : Bool) (at : Certificates) → is_home (given p b at) ≡ (b || is_home (get at n))
  home_given p true at = refl
  home_given p false at = refl

  swapped : (l b h : Bool) → (l || (b || h)) ≡ ((b || l) || h)
  swapped true true h = refl
  swapped true false h = refl
  swapped false true h = refl
  swapped false false h = refl

  pub taken_home : (ps : List Part) (at : Certificates) → is_home (get (taken ps (Held a) at) n) ≡ (has_number ps n || is_home (get at n))
  taken_home [] at = refl
  taken_home (p ∷ ps) at =
      taken_home ps (with_part p at)
      ∙ ap (λ b. has_number ps n || b) (ap is_home (at_given p at) ∙ home_given p (is_within p.range n) at)
      ∙ swapped (has_number ps n) (is_within p.range n) (is_home (get at n))

  -- a number that has the lot already, or is named
  abbrev Comes : Option LotFields → List Part → Certificates → Type 0
  Comes o ps at = (has_number ps n ≡ true) ⊎ (lot_of (get at n) ≡ o)

  comes_by : (o : Option LotFields) (p : Part) (ps : List Part) (at : Certificates) (b : Bool) → is_within p.range n ≡ b → (b ≡ true → o ≡ Some p.lot)
      → ((b || has_number ps n) ≡ true) ⊎ (lot_of (get at n) ≡ o) → Comes o ps (with_part p at)
  comes_by o p ps at true is lot h = inr (ap lot_of (at_given p at ∙ ap (λ b. given p b at) is) ∙ sym (lot refl))
  comes_by o p ps at false is lot (inl named) = inl named
  comes_by o p ps at false is lot (inr was) = inr (ap lot_of (at_given p at ∙ ap (λ b. given p b at) is) ∙ was)

  pub taken_lot : (o : Option LotFields) (ps : List Part) (at : Certificates) → HaveLot o n ps → Comes o ps at → lot_of (get (taken ps (Held a) at) n) ≡ o
  taken_lot o [] at have (inl named) = absurd cc
  taken_lot o [] at have (inr was) = was
  taken_lot o (p ∷ ps) at have comes = taken_lot o ps (with_part p at) have.1 (comes_by o p ps at (is_within p.range n) refl have.0 comes)

-- ---- the numbers that the checks ask for

none_where : (o : Option (ℕ × LotFields)) → number_of o ≡ None → o ≡ None
none_where None h = refl
none_where (Some e) h = none_some _ (sym h)

module _ (f : ℕ → Bool) where
  abbrev test : ℕ × LotFields → Bool
  test e = f e.0

  found_none : (xs ys : List (ℕ × LotFields)) → find test (xs ++ ys) ≡ None → (find test xs ≡ None) × (find test ys ≡ None)
  found_none [] ys none = (refl, none)
  found_none (x ∷ xs) ys none =
      elim (test x) as (λ b. cond b (Some x) (find test (xs ++ ys)) ≡ None → (cond b (Some x) (find test xs) ≡ None) × (find test ys ≡ None)) [
        | true ↦ λ h. none_some x (sym h)
        | false ↦ λ h. found_none xs ys h
      ] none

  map_none : (lot : LotFields) (ns : List ℕ) (n : ℕ) → find test (map (λ m. (m, lot)) ns) ≡ None → is_one_of ns n ≡ true → f n ≡ false
  map_none lot [] n none one = absurd cc
  map_none lot (m ∷ ms) n none one =
      elim (f m) as (λ b. f m ≡ b → cond b (Some (m, lot)) (find test (map (λ m. (m, lot)) ms)) ≡ None → f n ≡ false) [
        | true ↦ λ is h. none_some (m, lot) (sym h)
        | false ↦ λ is h. elim (or_cases (n == m) (is_one_of ms n) one) [
          | inl here ↦ ap f (eqb-true n m here) ∙ is
          | inr later ↦ map_none lot ms n h later
        ]
      ] refl none

  -- a number of the parts that no check finds fails its test
  pub parts_none : (ps : List Part) (n : ℕ) → find test (numbered ps) ≡ None → has_number ps n ≡ true → f n ≡ false
  parts_none [] n none named = absurd cc
  parts_none (p ∷ ps) n none named =
      let parts = found_none (map (λ m. (m, p.lot)) (each p.range)) (numbered ps) none in
      elim (or_cases (is_within p.range n) (has_number ps n) named) [
        | inl here ↦ map_none p.lot (each p.range) n parts.0 (one_within p.range n ∙ here)
        | inr later ↦ parts_none ps n parts.1 later
      ]

away : (o : Option (LotFields × Place)) → fails (λ lot place. is_exported place) o ≡ false → is_home o ≡ false
away None h = refl
away (Some known) h = h

-- ---- the notices accepted

notice_total : IsTotalOrder notice_cmp
notice_total = then_total (on_total (λ (p : ℕ × ℕ). p.0) nat_cmp_total) (on_total (λ (p : ℕ × ℕ). p.1) nat_cmp_total)

is_some_cond : {X : Type 0} (b : Bool) (v : X) (o : Option X) → is_some (cond b (Some v) o) ≡ (b || is_some o)
is_some_cond true v o = refl
is_some_cond false v o = refl

pub has_inserted : (kept : FinMap notice_cmp NoticeContents) (m : NoticeContents) (a b : ℕ)
    → contains_key (insert kept (m.sender, m.number) m) (a, b) ≡ (is_called m a b || contains_key kept (a, b))
has_inserted kept m a b =
    ap is_some (get-insert notice_total kept (m.sender, m.number) m (a, b))
    ∙ is_some_cond _ m (get kept (a, b))
    ∙ ap (λ t. t || contains_key kept (a, b))
    (sym (tied_then (nat_cmp a m.sender) (nat_cmp b m.number))
    ∙ ap (λ t. t && eq_by_cmp nat_cmp b m.number) (sym (unsigned_ties a m.sender))
    ∙ ap (λ t. (a == m.sender) && t) (sym (unsigned_ties b m.number)))

not_kept : (m : NoticeContents) (o : Option NoticeContents) → is_other m o ≡ false → is_arrived m o ≡ false → is_some o ≡ false
not_kept m None other arrived = refl
not_kept m (Some kept) other arrived = absurd (true≢false (sym (not-false _ other) ∙ arrived))

not_arrived : (o : Option Refusal) (b : Bool) (r : Reply) → o ≡ None → arrived_reply o b r ≡ None → b ≡ false
not_arrived None true r none h = none_some r (sym h)
not_arrived None false r none h = refl
not_arrived (Some x) b r none h = none_some x (sym none)

module _ (s : State) (caller : List ℕ) (x : Import) (none : import_refusal s caller x ≡ None) (new : import_repeats s caller x ≡ None) where
  addressed : x.notice.addressee ≡ s.own
  unfolding import_refusal
  addressed =
      let passed = none_fail (import_checks s caller x) none in
      let entered = none_fail (entry_checks s caller x) passed.0 in
      eqb-true _ _ (holds _ _ entered.1.0)

  not_before : has s x.notice.sender x.notice.number ≡ false
  unfolding import_refusal import_repeats
  not_before =
      let passed = none_fail (import_checks s caller x) none in
      not_kept x.notice (get s.arrived (x.notice.sender, x.notice.number)) (passes _ _ passed.1.0) (not_arrived _ _ _ passed.0 new)

  was_away : (n : ℕ) → names x.notice n ≡ true → is_home (get s.at n) ≡ false
  unfolding import_refusal
  was_away =
      let passed = none_fail (import_checks s caller x) none in
      λ n named. away (get s.at n)
      (parts_none (λ m. fails (λ lot place. is_exported place) (get s.at m)) x.notice.parts n (none_where _ (unfound _ _ passed.1.1.1.1.1.0)) named)

  pub take_import : IsTake s (with_import s x) x.notice
  unfolding with_import
  take_import = record {
    own = refl;
    serial = refl;
    notice = refl;
    sent = refl;
    addressee = addressed;
    new = not_before;
    arrived = has_inserted s.arrived x.notice;
    away = was_away;
    came = λ n named. taken_home x.notice.account n x.notice.parts s.at ∙ ap (λ b. b || is_home (get s.at n)) named;
    other = λ n unnamed. taken_other x.notice.account n x.notice.parts s.at unnamed;
    lot = λ n lot named have. taken_lot x.notice.account n lot x.notice.parts s.at have (inl named);
  }
