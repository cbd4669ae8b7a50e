-- What becomes of a desk, call after call.
use Rattle.std.proofs.Common.{◌≡◌, ℕ, arith, Result, Ok, Err, IsErrAnd, sym, subst}
use Rattle.goo_core_shelf.specs.Desk.{Seen, StaysSure}
use Rattle.goo_desk_lines.specs.Stops.{IsToldIn, LeavesDesk}
use Rattle.goo_desk_lines.specs.declared.lines_fault.LinesFault.{LinesFault}
use Rattle.goo_desk_lines.specs.declared.lines_fault.LinesFault.TheVariants.{Read, Write, Store, Memory}

-- nothing was called
pub stays_still : (m : Seen) → m.defects ≡ 0 → StaysSure m m
stays_still m none = record { counts = omega arith; sure = λ _. none }

-- one call after another
pub stays_both : (a b c : Seen) → StaysSure a b → StaysSure b c → StaysSure a c
stays_both a b c one two = record {
  counts = omega (arith, one.counts, two.counts);
  sure = λ unfailed. two.sure (λ failed. unfailed (omega (arith, one.counts, failed)));
}

pub leaves_still : {T : Type 0} (m : Seen) (x : T) → LeavesDesk m m (Ok x)
leaves_still m x = record { corruptions_stay = λ below. below; told = λ none. none; works = λ below sure. sure; stays = λ below sure. stays_still m sure }

pub leaves_both : {S T U : Type 0} (a b c : Seen) (x : S) (y : T) (z : U) → LeavesDesk a b (Ok x) → LeavesDesk b c (Ok y) → LeavesDesk a c (Ok z)
leaves_both a b c x y z one two = record {
  corruptions_stay = λ below. one.corruptions_stay (two.corruptions_stay below);
  told = λ none. two.told (one.told none);
  works = λ below sure. two.works below (one.works (two.corruptions_stay below) sure);
  stays = λ below sure. let before = two.corruptions_stay below in stays_both a b c (one.stays before sure) (two.stays below (one.works before sure));
}

told_as : (T U : Type 0) (e : LinesFault) (refusals : ℕ) → IsToldIn {T = T} (Err e) refusals → IsToldIn {T = U} (Err e) refusals
told_as T U Store refusals told = told
told_as T U Memory refusals told = told
told_as T U Read refusals told = told
told_as T U Write refusals told = told

-- the second call failed
pub leaves_failed : {S T U : Type 0} (a b c : Seen) (x : S) (e : LinesFault) (r : Result U LinesFault) → LeavesDesk a b (Ok x) → LeavesDesk {T = T} b c (Err e) → IsErrAnd r (λ f. f ≡ e) → LeavesDesk a c r
leaves_failed a b c x e (Ok y) one two is = absurd is
leaves_failed {T = T} {U = U} a b c x e (Err f) one two is = subst (λ g. LeavesDesk {T = U} a c (Err g)) (sym is) (record {
  corruptions_stay = λ below. one.corruptions_stay (two.corruptions_stay below);
  told = λ none. told_as T U e c.refusals (two.told (one.told none));
  works = λ below sure. tt;
  stays = λ below sure. let before = two.corruptions_stay below in stays_both a b c (one.stays before sure) (two.stays below (one.works before sure));
})
