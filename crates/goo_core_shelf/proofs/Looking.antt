-- What follows from look-ups, one after another.
use Rattle.std.proofs.Common.{◌≡◌, ◌∙◌, arith, List, Result, Ok, Err, IfOk, IfErr, refl, subst, sym}
use Rattle.goo_types.specs.declared.fault.Fault.{Fault}
use Rattle.goo_types.specs.declared.fault.Fault.TheVariants.{Memory}
use Rattle.goo_types.specs.declared.piece.Piece.{Piece}
use Rattle.goo_spec.specs.State.{State}
use Rattle.goo_core_shelf.specs.Shelf.{Moment, Looks, IsTold, IsReady, IsSafe, StaysSure}

-- nothing was called
pub stays_still : (m : Moment) → m.defects ≡ 0 → StaysSure m m
stays_still m none = record { counts = omega arith; sure = λ _. none }

-- one call after another
pub stays_both : (a b c : Moment) → StaysSure a b → StaysSure b c → StaysSure a c
stays_both a b c one two = record {
  counts = omega (arith, one.counts, two.counts);
  sure = λ unfailed. two.sure (λ failed. unfailed (omega (arith, one.counts, failed)));
}

-- a call after a look-up that was answered
pub stays_on : {T : Type 0} (a b c : Moment) (x : T) (first : T → Type 0) → Looks a b (Ok x) first → (c.corruptions ≡ 0 → b.corruptions ≡ 0) → (c.corruptions ≡ 0 → b.defects ≡ 0 → StaysSure b c) → c.corruptions ≡ 0 → a.defects ≡ 0 → StaysSure a c
stays_on a b c x first one corruptions_stay two late none = stays_both a b c (one.stays (corruptions_stay late) none) (two late (one.works (corruptions_stay late)))

-- a shelf that is ready, with what is known without another look-up
pub still : {T : Type 0} (m : Moment) (x : T) (right : T → Type 0) → IsReady m → (m.defects ≡ 0 → right x) → Looks m m (Ok x) right
still m x right ready so = record {
  found = so;
  same = λ none. refl;
  rows_same = λ none. refl;
  defects_stay = λ none. none;
  corruptions_stay = λ none. none;
  kept = omega arith;
  told = ready.told;
  works = ready.works;
  stays = λ late none. stays_still m none;
  crash = λ late none. ready.settled none;
}

-- an answer that follows from the one found, where there was no defect after the look-up
pub looks_as : {T U : Type 0} (a b : Moment) (x : T) (y : U) (first : T → Type 0) (right : U → Type 0) → Looks a b (Ok x) first → (b.defects ≡ 0 → first x → right y) → Looks a b (Ok y) right
looks_as a b x y first right look so = record {
  found = λ none. so none (look.found none);
  same = look.same;
  rows_same = look.rows_same;
  defects_stay = look.defects_stay;
  corruptions_stay = look.corruptions_stay;
  kept = look.kept;
  told = look.told;
  works = look.works;
  stays = look.stays;
  crash = look.crash;
}

-- the same, where there was no defect before it
pub looked : {T U : Type 0} (a b : Moment) (x : T) (y : U) (first : T → Type 0) (right : U → Type 0) → Looks a b (Ok x) first → (a.defects ≡ 0 → first x → right y) → Looks a b (Ok y) right
looked a b x y first right look so = looks_as a b x y first right look (λ none is. so (look.defects_stay none) is)

-- the same for a call that can only fail for want of memory
pub looked_or_full : {T U : Type 0} (a b : Moment) (x : T) (r : Result U Fault) (first : T → Type 0) (made right : U → Type 0) → Looks a b (Ok x) first
    → IfErr r (λ fault. fault ≡ Memory) → IfOk r made → (a.defects ≡ 0 → first x → (y : U) → made y → right y) → Looks a b r right
looked_or_full a b x (Ok y) first made right look memory is so = looked a b x y first right look (λ none found. so none found y is)
looked_or_full {T} {U} a b x (Err e) first made right look memory is so = record {
  found = λ none. tt;
  same = look.same;
  rows_same = look.rows_same;
  defects_stay = look.defects_stay;
  corruptions_stay = look.corruptions_stay;
  kept = look.kept;
  told = subst (λ f. IsTold {T = U} (Err f) b.refusals) (sym memory) look.told;
  works = tt;
  stays = look.stays;
  crash = look.crash;
}

-- a look-up after one that was answered
pub looked_then : {T U : Type 0} (a b c : Moment) (x : T) (r : Result U Fault) (first : T → Type 0) (second : State → List Piece → U → Type 0) → Looks a b (Ok x) first → Looks b c r (second b.state b.rows)
    → Looks a c r (λ y. first x × second a.state a.rows y)
looked_then a b c x (Ok y) first second one two = record {
  found = λ none.
      let mid = two.defects_stay none in
      (one.found mid, subst (λ s. second s a.rows y) (one.same mid) (subst (λ rows. second b.state rows y) (one.rows_same mid) (two.found none)));
  same = λ none. two.same none ∙ one.same (two.defects_stay none);
  rows_same = λ none. two.rows_same none ∙ one.rows_same (two.defects_stay none);
  defects_stay = λ none. one.defects_stay (two.defects_stay none);
  corruptions_stay = λ none. one.corruptions_stay (two.corruptions_stay none);
  kept = omega (arith, one.kept, two.kept);
  told = two.told;
  works = two.works;
  stays = stays_on a b c x first one two.corruptions_stay two.stays;
  crash = λ late none. let well = one.works (two.corruptions_stay late) in subst (IsSafe c) (one.same well) (two.crash late well);
}
looked_then a b c x (Err e) first second one two = record {
  found = λ none. tt;
  same = λ none. two.same none ∙ one.same (two.defects_stay none);
  rows_same = λ none. two.rows_same none ∙ one.rows_same (two.defects_stay none);
  defects_stay = λ none. one.defects_stay (two.defects_stay none);
  corruptions_stay = λ none. one.corruptions_stay (two.corruptions_stay none);
  kept = omega (arith, one.kept, two.kept);
  told = two.told;
  works = two.works;
  stays = stays_on a b c x first one two.corruptions_stay two.stays;
  crash = λ late none. let well = one.works (two.corruptions_stay late) in subst (IsSafe c) (one.same well) (two.crash late well);
}

-- two look-ups that were answered, and what follows from both
pub looked_both : {T U V : Type 0} (a b c : Moment) (x : T) (y : U) (z : V) (first : T → Type 0) (second : State → List Piece → U → Type 0) (right : V → Type 0) → Looks a b (Ok x) first → Looks b c (Ok y) (second b.state b.rows)
    → (a.defects ≡ 0 → first x → second a.state a.rows y → right z) → Looks a c (Ok z) right
looked_both a b c x y z first second right one two so =
    looked a c y z (λ w. first x × second a.state a.rows w) right (looked_then a b c x (Ok y) first second one two) (λ none is. so none is.0 is.1)

-- a shelf whose last call was answered is ready for the next
pub ready_after : {T : Type 0} (a b : Moment) (x : T) (first : T → Type 0) → Looks a b (Ok x) first → (b.defects ≡ 0 → IsSafe b b.state) → IsReady b
ready_after a b x first look settled = record { told = look.told; works = look.works; settled = settled }

-- an answer, if there is one, put in other words
pub looked_as : {T : Type 0} (a b : Moment) (r : Result T Fault) (first right : T → Type 0) → Looks a b r first → (a.defects ≡ 0 → (x : T) → first x → right x) → Looks a b r right
looked_as a b (Ok x) first right look so = looked a b x x first right look (λ none is. so none x is)
looked_as {T} a b (Err e) first right look so = record {
  found = λ none. tt;
  same = look.same;
  rows_same = look.rows_same;
  defects_stay = look.defects_stay;
  corruptions_stay = look.corruptions_stay;
  kept = look.kept;
  told = look.told;
  works = tt;
  stays = look.stays;
  crash = look.crash;
}
