-- What a look-up that failed says.
use Rattle.std.proofs.Common.{◌≡◌, ◌∙◌, ℕ, arith, Result, Ok, Err, IsErrAnd, sym, subst}
use Rattle.std.specs.Prelude.{⊤}
use Rattle.goo_types.specs.declared.fault.Fault.{Fault}
use Rattle.goo_types.specs.declared.fault.Fault.TheVariants.{Memory, Store}
use Rattle.goo_core_shelf.specs.Shelf.{Moment, Looks, IsTold, IsSafe}
use Rattle.goo_core_shelf.proofs.Looking.{stays_on}

told_too : (T U : Type 0) (e f : Fault) (n : ℕ) → f ≡ e → IsTold {T = T} (Err e) n → IsTold {T = U} (Err f) n
told_too T U Store f n is h = subst (λ (g : Fault). IsTold {T = U} (Err g) n) (sym is) h
told_too T U Memory f n is h = subst (λ (g : Fault). IsTold {T = U} (Err g) n) (sym is) h

-- a fault that is handed on
pub looked_failed : {T U : Type 0} (a b : Moment) (e : Fault) (r : Result U Fault) (first : T → Type 0) (right : U → Type 0) → IsErrAnd r (λ f. f ≡ e) → Looks {T = T} a b (Err e) first → Looks a b r right
looked_failed a b e (Ok y) first right is look = absurd is
looked_failed {T} {U} a b e (Err f) first right is look = record {
  found = λ none. tt;
  same = look.same;
  rows_same = look.rows_same;
  defects_stay = look.defects_stay;
  corruptions_stay = look.corruptions_stay;
  kept = look.kept;
  told = told_too T U e f b.refusals is look.told;
  works = tt;
  stays = look.stays;
  crash = look.crash;
}

-- want of memory after a look-up
pub looked_full : {T U : Type 0} (a b : Moment) (x : T) (r : Result U Fault) (first : T → Type 0) (right : U → Type 0) → IsErrAnd r (λ f. f ≡ Memory) → Looks a b (Ok x) first → Looks a b r right
looked_full a b x (Ok y) first right is look = absurd is
looked_full {T} {U} a b x (Err f) first right is look = record {
  found = λ none. tt;
  same = look.same;
  rows_same = look.rows_same;
  defects_stay = look.defects_stay;
  corruptions_stay = look.corruptions_stay;
  kept = look.kept;
  told = subst (λ (g : Fault). IsTold {T = U} (Err g) b.refusals) (sym is) look.told;
  works = tt;
  stays = look.stays;
  crash = look.crash;
}

-- a look-up after one that was answered, whatever they found
pub looked_on : {T U : Type 0} (a b c : Moment) (x : T) (y : U) (first : T → Type 0) (second : U → Type 0) → Looks a b (Ok x) first → Looks b c (Ok y) second → Looks a c (Ok y) (λ _. ⊤)
looked_on a b c x y first second one two = record {
  found = λ none. tt;
  same = λ none. two.same none ∙ one.same (two.defects_stay none);
  rows_same = λ none. two.rows_same none ∙ one.rows_same (two.defects_stay none);
  defects_stay = λ none. one.defects_stay (two.defects_stay none);
  corruptions_stay = λ none. one.corruptions_stay (two.corruptions_stay none);
  kept = omega (arith, one.kept, two.kept);
  told = two.told;
  works = two.works;
  stays = stays_on a b c x first one two.corruptions_stay two.stays;
  crash = λ late none. let well = one.works (two.corruptions_stay late) in subst (IsSafe c) (one.same well) (two.crash late well);
}

-- a fault of the second of two look-ups that is handed on
pub looked_past : {T U V : Type 0} (a b c : Moment) (x : T) (e : Fault) (r : Result V Fault) (first : T → Type 0) (second : U → Type 0) (right : V → Type 0) → IsErrAnd r (λ f. f ≡ e) → Looks a b (Ok x) first → Looks {T = U} b c (Err e) second → Looks a c r right
looked_past {T} {U} {V} a b c x e (Ok y) first second right is one two = absurd is
looked_past {T} {U} {V} a b c x e (Err f) first second right is one two = record {
  found = λ none. tt;
  same = λ none. two.same none ∙ one.same (two.defects_stay none);
  rows_same = λ none. two.rows_same none ∙ one.rows_same (two.defects_stay none);
  defects_stay = λ none. one.defects_stay (two.defects_stay none);
  corruptions_stay = λ none. one.corruptions_stay (two.corruptions_stay none);
  kept = omega (arith, one.kept, two.kept);
  told = told_too U V e f c.refusals is two.told;
  works = tt;
  stays = stays_on a b c x first one two.corruptions_stay two.stays;
  crash = λ late none. let well = one.works (two.corruptions_stay late) in subst (IsSafe c) (one.same well) (two.crash late well);
}
