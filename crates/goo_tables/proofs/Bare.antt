-- What is read without its carrier has none.
use Rattle.std.proofs.Common.{◌≡◌, ℕ, List, [], ◌∷◌, map, Option, Some, None, refl, ap₂}
use Rattle.sqlite.specs.declared.types.Value.TheVariants.{Null, Text}
use Rattle.sqlite_typed.specs.Columns.{or_null}

pub none_of : (o : Option (List ℕ)) → Null ≡ or_null Text o → o ≡ None
none_of None is = refl
none_of (Some word) is = absurd cc

pub bare_found : {X D K : Type 0} (decode : X → D) (bare : D → D) (carrier : X → Option (List ℕ)) → ((x : X) → carrier x ≡ None → decode x ≡ bare (decode x)) → (xs : List X) (ks : List K)
    → map carrier xs ≡ map (λ _. None) ks → map decode xs ≡ map bare (map decode xs)
bare_found decode bare carrier same [] ks none = refl
bare_found decode bare carrier same (x ∷ xs) [] none = absurd cc
bare_found decode bare carrier same (x ∷ xs) (k ∷ ks) none =
    let first : carrier x ≡ None = cc in
    let rest : map carrier xs ≡ map (λ _. None) ks = cc in
    ap₂ ◌∷◌ (same x first) (bare_found decode bare carrier same xs ks rest)
