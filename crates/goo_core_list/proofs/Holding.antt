-- Whether one of the rows passes a test, over pages one after another.
use Rattle.std.proofs.Common.{◌≡◌, ◌∙◌, List, ◌++◌, Bool, true, false, ◌||◌, refl, ap, sym}
use Rattle.std.specs.List.{list_any}
use Rattle.std.proofs.lemmas.List.Folds.{list_any-append}
use Rattle.goo_types.specs.declared.piece.Piece.{Piece}

or-true : (b : Bool) → (b || true) ≡ true
or-true true = refl
or-true false = refl

-- one of a page is one of all
pub any_of_page : (test : Piece → Bool) (front page rest all : List Piece) → (front ++ page) ++ rest ≡ all → list_any test page ≡ true → list_any test all ≡ true
any_of_page test front page rest all is hit =
    sym (ap (list_any test) is) ∙ list_any-append test (front ++ page) rest
    ∙ ap (λ b. b || list_any test rest) (list_any-append test front page ∙ ap (λ b. list_any test front || b) hit ∙ or-true (list_any test front))

-- none before, and none of this page
pub none_so_far : (test : Piece → Bool) (front page more : List Piece) → front ++ page ≡ more → list_any test front ≡ false → list_any test page ≡ false → list_any test more ≡ false
none_so_far test front page more is none miss = sym (ap (list_any test) is) ∙ list_any-append test front page ∙ (λ k. none k || miss k)
