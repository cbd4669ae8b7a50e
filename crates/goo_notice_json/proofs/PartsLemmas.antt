-- The texts of parts are read back.
use Rattle.std.proofs.Common.{All, ◌≡◌, ◌≤◌, Bool, false, List, [], ◌∷◌, map, Some, Ok, refl, arith}
use Rattle.std.proofs.lemmas.List.Elements.{All-head, All-tail}
use Rattle.std.proofs.lemmas.Bool.{or_from}
use Rattle.json.specs.Tree as tree
use Rattle.serde_json.specs.Read.{of_json, of_items}
use Rattle.serde_json.specs.View.{items_of}
use Rattle.serde_json.specs.Written.{has_float, items_have_float, outline, items_outline}
use Rattle.goo_types.specs.declared.part.Part.{Part}
use Rattle.goo_notice_json.specs.Parts.{part_data, IsStatedPart, part_shape, parts_shape, part_of, parts_of}
use Rattle.goo_notice_json.proofs.FieldLemmas.{range_of-texts}
use Rattle.goo_notice_json.proofs.StatedLotLemmas as lot

-- ---- one part

part_no_float : (b : Bool) (p : Part) → has_float (part_data b p) ≡ false
unfolding part_data
part_no_float b p = rw (lot.no_float b p.lot) refl

part_depth : (b : Bool) (p : Part) → tree.depth (outline (part_data b p)) ≡ 2
unfolding part_data
part_depth b p = rw (lot.depth b p.lot) refl

part_numbers : (b : Bool) (p : Part) → IsStatedPart p → tree.HasNumbers (outline (part_data b p))
unfolding part_data
part_numbers b p h = (tt, (tt, (lot.numbers b p.lot h.lot, tt)))

part_again : (b : Bool) (p : Part) → IsStatedPart p → of_json (outline (part_data b p)) ≡ Some (part_data b p)
unfolding part_data
part_again b p h = rw (lot.again b p.lot h.lot) refl

one_shape : (b : Bool) (p : Part) → part_shape (Some b) (part_data b p) ≡ Ok (lot.size_of b)
unfolding part_shape part_data
one_shape b p = rw (lot.shape b p.lot) refl

one_stated : (b : Bool) (p : Part) → IsStatedPart p → lot.IsTold b p.lot → part_of b (part_data b p) ≡ Ok p
unfolding part_of part_data
one_stated b p h told = rw (range_of-texts p.range h.first h.last h.range, lot.stated b p.lot h.lot told) refl

-- ---- all of them

pub no_float : (b : Bool) (ps : List Part) → items_have_float (items_of (map (part_data b) ps)) ≡ false
no_float b [] = refl
no_float b (p ∷ ps) = or_from _ _ (part_no_float b p) (no_float b ps)

pub depth : (b : Bool) (ps : List Part) → tree.items_depth (items_outline (items_of (map (part_data b) ps))) ≤ 2
depth b [] = omega arith
depth b (p ∷ ps) = let one = part_depth b p in omega (arith, one, depth b ps)

pub numbers : (b : Bool) (ps : List Part) → All IsStatedPart ps → tree.ItemsHaveNumbers (items_outline (items_of (map (part_data b) ps)))
numbers b [] h = tt
numbers b (p ∷ ps) h = (part_numbers b p (All-head IsStatedPart p ps h), numbers b ps (All-tail IsStatedPart p ps h))

pub again : (b : Bool) (ps : List Part) → All IsStatedPart ps → of_items (items_outline (items_of (map (part_data b) ps))) ≡ Some (items_of (map (part_data b) ps))
again b [] h = refl
again b (p ∷ ps) h = rw (part_again b p (All-head IsStatedPart p ps h), again b ps (All-tail IsStatedPart p ps h)) refl

pub shape : (b : Bool) (ps : List Part) → parts_shape (Some b) (items_of (map (part_data b) ps)) ≡ Ok 0
unfolding parts_shape
shape b [] = refl
shape b (p ∷ ps) = rw (one_shape b p, shape b ps) refl

pub stated : (b : Bool) (ps : List Part) → All IsStatedPart ps → All (λ p. lot.IsTold b p.lot) ps → parts_of b (items_of (map (part_data b) ps)) ≡ Ok ps
unfolding parts_of
stated b [] h told = refl
stated b (p ∷ ps) h told =
    rw (one_stated b p (All-head IsStatedPart p ps h) (All-head (λ q. lot.IsTold b q.lot) p ps told), stated b ps (All-tail IsStatedPart p ps h) (All-tail (λ q. lot.IsTold b q.lot) p ps told)) refl
