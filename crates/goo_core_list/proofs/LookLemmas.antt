-- What a look-up of the shelf in memory says.
use Rattle.std.proofs.Common.{◌≡◌, refl, sym, subst, arith}
use Rattle.std.specs.Prelude.{Result, Ok, Err, IfOk, IfErr}
use Rattle.goo_types.specs.declared.fault.Fault.{Fault}
use Rattle.goo_types.specs.declared.fault.Fault.TheVariants.{Memory}
use Rattle.goo_core_shelf.specs.Shelf.{IsTold, Looks}
use Rattle.goo_core_shelf.proofs.Looking.{stays_still}
use Rattle.goo_core_list.specs.Moments.{seen_in}
use Rattle.goo_core_list.specs.declared.list_shelf.ListShelf.{ListShelf}

-- a look-up that fails for want of memory alone, if at all
pub looks : {T : Type 0} (s : ListShelf) (r : Result T Fault) (right : T → Type 0) → IfOk r right → IfErr r (λ fault. fault ≡ Memory) → Looks (seen_in s) (seen_in s) r right
looks s (Ok x) right found memory = record {
  found = λ _. found;
  same = λ _. refl;
  rows_same = λ _. refl;
  defects_stay = λ _. refl;
  corruptions_stay = λ _. refl;
  kept = omega arith;
  told = refl;
  works = λ _. refl;
  stays = λ _ _. stays_still (seen_in s) refl;
  crash = λ _ _ o left. absurd left;
}
looks {T = T} s (Err fault) right found memory = record {
  found = λ _. tt;
  same = λ _. refl;
  rows_same = λ _. refl;
  defects_stay = λ _. refl;
  corruptions_stay = λ _. refl;
  kept = omega arith;
  told = subst (λ f. IsTold {T = T} (Err f) 0) (sym memory) refl;
  works = tt;
  stays = λ _ _. stays_still (seen_in s) refl;
  crash = λ _ _ o left. absurd left;
}

-- a look-up that takes no memory
pub looks_up : {T : Type 0} (s : ListShelf) (x : T) (right : T → Type 0) → right x → Looks (seen_in s) (seen_in s) (Ok x) right
looks_up s x right found = looks s (Ok x) right found tt
