-- Whether one piece follows another is a test.
use Rattle.std.proofs.Common.{◌≡◌, ◌==◌, ◌+◌, ◌∙◌, ℕ, cond, refl, ap, sym}
use Rattle.std.proofs.lemmas.Bool.Decides.{Decides-eqb}
use Rattle.std.specs.Bool.{Decides}
use Rattle.goo_types.specs.Equality.{same_lot}
use Rattle.goo_types.specs.Place.{account_of}
use Rattle.goo_types.specs.declared.place.Place.{Place}
use Rattle.goo_types.specs.declared.place.Place.TheVariants.{Held, Cancelled, Expired, Withdrawn, Exported}
use Rattle.goo_types.specs.declared.piece.Piece.{Piece}
use Rattle.goo_types.specs.Piece.{Follows}
use Rattle.goo_types.proofs.BoolLemmas.{Decides-and}
use Rattle.goo_types.proofs.LotLemmas.{Decides-same_lot}
use Rattle.goo_spec_runs.specs.Joined.{kind_of, act_of, same_place, follows}

-- the place of a kind, an account and an act
abbrev place_by : ℕ → ℕ → ℕ → Place
place_by kind account act =
    cond (kind == 1) (Held account) (cond (kind == 2) (Cancelled account act) (cond (kind == 3) (Expired account) (cond (kind == 4) (Withdrawn account act) (Exported account act))))

its_own : (p : Place) → place_by (kind_of p) (account_of p) (act_of p) ≡ p
its_own (Held a) = refl
its_own (Cancelled a k) = refl
its_own (Expired a) = refl
its_own (Withdrawn a k) = refl
its_own (Exported a k) = refl

pub Decides-same_place : (a b : Place) → Decides (same_place a b) (a ≡ b)
Decides-same_place a b =
    let d = Decides-and (kind_of a == kind_of b) _ (Decides-eqb (kind_of a) (kind_of b)) (Decides-and (account_of a == account_of b) _ (Decides-eqb (account_of a) (account_of b)) (Decides-eqb (act_of a) (act_of b))) in (
      λ e. let p = d.0 e in sym (its_own a) ∙ (λ i. place_by (p.0 i) (p.1.0 i) (p.1.1 i)) ∙ its_own b,
      λ e. d.1 (ap kind_of e, (ap account_of e, ap act_of e)),
    )

pub Decides-follows : (p q : Piece) → Decides (follows p q) (Follows p q)
Decides-follows p q =
    let d = Decides-and (p.last + 1 == q.first) _ (Decides-eqb (p.last + 1) q.first) (Decides-and (same_lot p.lot q.lot) _ (Decides-same_lot p.lot q.lot) (Decides-same_place p.place q.place)) in (
      λ e. let f = d.0 e in (f.0, λ i. (f.1.0 i, f.1.1 i)),
      λ f. d.1 (f.0, (ap (λ l. l.0) f.1, ap (λ l. l.1) f.1)),
    )
