-- An import brings no own certificate that wasn't known, and none with another lot.
use Rattle.std.proofs.Common.{◌≡◌, ℕ, ◌==◌, ◌&&◌, Bool, true, false, cond, List, [], ◌∷◌, Option, Some, None, refl, sym, ap, ◌∙◌, arith}
use Rattle.std.specs.Prelude.{count_by, All}
use Rattle.std.specs.FinMap.{get, entries}
use Rattle.std.proofs.lemmas.Bool.{eqb-true}
use Rattle.std.proofs.lemmas.List.Elements.{All-head, All-tail}
use Rattle.goo_types.specs.Number.{code_of}
use Rattle.goo_types.specs.declared.lot_fields.LotFields.{LotFields}
use Rattle.goo_types.specs.declared.place.Place.{Place}
use Rattle.goo_types.specs.declared.part.Part.{Part}
use Rattle.goo_spec.specs.Lots.{Certificates, lot_in}
use Rattle.goo_spec.specs.Maps.{each, count_of, give_each}
use Rattle.goo_spec.specs.State.{State}
use Rattle.goo_spec.specs.Import.{taken}
use Rattle.goo_spec.proofs.Counting.{one, one_at}
use Rattle.goo_spec.proofs.Giving.{count-give_each}
use Rattle.goo_spec.proofs.Importable.{HasLot, PartFits, one_of}
use Rattle.goo_spec.proofs.Placing.{is_one_of, get-give_each}
use Rattle.goo_spec_laws.specs.Classes.{Class, is_of}

module _ (s : State) (class : Class) (place : Place) where
  -- own certificates have the lots that they had
  abbrev SameLots : Certificates → Type 0
  SameLots at = (n : ℕ) → code_of n ≡ s.own → lot_in (get at n) ≡ lot_in (get s.at n)

  lot_there : (lot : LotFields) (o : Option (LotFields × Place)) → HasLot o lot → lot_in o ≡ Some lot
  lot_there lot None has = absurd has
  lot_there lot (Some known) has = ap Some has

  one_as : (n : ℕ) (lot : LotFields) (o : Option (LotFields × Place)) → lot_in o ≡ Some lot → one (is_of s.own class) (n, (lot, place)) ≡ one_at (is_of s.own class) n o
  one_as n lot None has = absurd (cc)
  one_as n lot (Some known) has = let same : known.0 ≡ lot = cc in ap (λ (l : LotFields). cond ((code_of n == s.own) && class l) 1 0) (sym same)

  one_other : (n : ℕ) (lot : LotFields) (o : Option (LotFields × Place)) → (code_of n == s.own) ≡ false → one (is_of s.own class) (n, (lot, place)) ≡ one_at (is_of s.own class) n o
  one_other n lot None other = ap (λ b. cond (b && class lot) 1 0) other
  one_other n lot (Some known) other = ap (λ b. cond (b && class lot) 1 0) other ∙ sym (ap (λ b. cond (b && class known.0) 1 0) other)

  one_by : (n : ℕ) (lot : LotFields) (o : Option (LotFields × Place)) (b : Bool) → (code_of n == s.own) ≡ b → (code_of n ≡ s.own → lot_in o ≡ Some lot) → one (is_of s.own class) (n, (lot, place)) ≡ one_at (is_of s.own class) n o
  one_by n lot o true own has = one_as n lot o (has (eqb-true (code_of n) s.own own))
  one_by n lot o false own has = one_other n lot o own

  given_lots : (p : Part) (at : Certificates) → PartFits s s.at s.lots p → SameLots at → SameLots (give_each (each p.range) p.lot place at)
  given_lots p at fits same n own = ap lot_in (get-give_each p.lot place (each p.range) at n) ∙ by (is_one_of (each p.range) n) refl
    where
      by : (b : Bool) → is_one_of (each p.range) n ≡ b → lot_in (cond b (Some (p.lot, place)) (get at n)) ≡ lot_in (get s.at n)
      by true one = sym (lot_there p.lot (get s.at n) (fits.own n one own))
      by false one = same n own

  pub same_after : (ps : List Part) (at : Certificates) → All (PartFits s s.at s.lots) ps → SameLots at → count_by (is_of s.own class) (entries (taken ps place at)) ≡ count_by (is_of s.own class) (entries at)
  same_after [] at fit same = refl
  same_after (p ∷ ps) at fit same =
      let fits = All-head (PartFits s s.at s.lots) p ps fit in
      let added = count-give_each (is_of s.own class) p.lot place 0 (count_of p.range) p.range.first at (λ n low high.
      let one_n = one_by n p.lot (get at n) (code_of n == s.own) refl (λ own. same n own ∙ lot_there p.lot (get s.at n) (fits.own n (one_of (count_of p.range) p.range.first n low high) own)) in
      omega (arith, one_n)) in
      let rest = same_after ps (give_each (each p.range) p.lot place at) (All-tail (PartFits s s.at s.lots) p ps fit) (given_lots p at fits same) in
      omega (arith, added, rest)
