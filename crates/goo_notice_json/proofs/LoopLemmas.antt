-- Going over the parts, one at a time.
use Rattle.std.proofs.Common.{◌≡◌, ℕ, Bool, Option, ◌+◌, ◌<◌, ◌≤◌, List, [], ◌∷◌, ◌++◌, length, get_or, map, take, drop, All, Result, Ok, Err, refl, sym, ap, subst, ◌∙◌, append_assoc, append-nil, add-one, drop-cons}
use Rattle.std.proofs.lemmas.List.{drop_all, map_push, take_more}
use Rattle.std.proofs.lemmas.List.Elements.{All-more}
use Rattle.serde_json.specs.Data.{Data, Items, item}
use Rattle.serde_json.specs.View.{view, items_view}
use Rattle.serde_json.specs.declared.value.Value.{Value}
use Rattle.goo_notice_json.specs.declared.value_fault.ValueFault.{ValueFault}
use Rattle.goo_notice_json.specs.declared.value_fault.ValueFault.TheVariants as fault
use Rattle.goo_types.specs.declared.part.Part.{Part}
use Rattle.goo_notice_json.specs.Faults.{◌>>=◌, Fails}
use Rattle.goo_notice_json.specs.Parts.{part_data, IsStatedPart, part_shape, parts_shape, part_of, parts_of}

next_value : (vs : List Value) (i : ℕ) (v : Value) → i < length vs → v ≡ get_or vs i v → items_view (drop i vs) ≡ item (view v) (items_view (drop (i + 1) vs))
next_value vs i v lt is = ap items_view (drop-cons vs i v lt) ∙ rw (← is, add-one i) refl

-- ---- the shapes

shapes_next : (o : Option Bool) (d : Data) (ds : Items) (size : ℕ) → part_shape o d ≡ Ok size → parts_shape o (item d ds) ≡ parts_shape o ds
unfolding parts_shape
shapes_next o d ds size e = rw e

pub shapes_on : (o : Option Bool) (vs : List Value) (i : ℕ) (v : Value) (size : ℕ) (total : Result ℕ ValueFault) → i < length vs → v ≡ get_or vs i v → part_shape o (view v) ≡ Ok size → parts_shape o (items_view (drop i vs)) ≡ total
    → parts_shape o (items_view (drop (i + 1) vs)) ≡ total
shapes_on o vs i v size total lt is e so_far = sym (ap (parts_shape o) (next_value vs i v lt is) ∙ shapes_next o _ _ size e) ∙ so_far

fails_after : {A B : Type 0} (e : ValueFault) (r : Result A ValueFault) (f : A → Result B ValueFault) → Fails e r → Fails e (r >>= f)
fails_after fault.Shape r f h = ap (λ x. x >>= f) h
fails_after fault.Field r f h = ap (λ x. x >>= f) h
fails_after fault.Memory r f h = tt

shapes_fail : (o : Option Bool) (d : Data) (ds : Items) (e : ValueFault) → Fails e (part_shape o d) → Fails e (parts_shape o (item d ds))
unfolding parts_shape
shapes_fail o d ds e h = fails_after e (part_shape o d) (λ size. parts_shape o ds) h

pub shapes_err : (o : Option Bool) (vs : List Value) (i : ℕ) (v : Value) (e : ValueFault) (total : Result ℕ ValueFault) → i < length vs → v ≡ get_or vs i v → Fails e (part_shape o (view v)) → parts_shape o (items_view (drop i vs)) ≡ total → Fails e total
shapes_err o vs i v e total lt is h so_far = subst (λ (r : Result ℕ ValueFault). Fails e r) (sym (ap (parts_shape o) (next_value vs i v lt is)) ∙ so_far) (shapes_fail o (view v) _ e h)

pub shapes_end : (o : Option Bool) (vs : List Value) (i : ℕ) (total : Result ℕ ValueFault) → length vs ≤ i → parts_shape o (items_view (drop i vs)) ≡ total → total ≡ Ok 0
unfolding parts_shape
shapes_end o vs i total le so_far = sym so_far ∙ ap (λ l. parts_shape o (items_view l)) (drop_all i vs le)

-- ---- the parts

abbrev pub with_front : List Part → Result (List Part) ValueFault → Result (List Part) ValueFault
with_front front r = r >>= (λ x. Ok (front ++ x))

regroup : (front : List Part) (p : Part) (r : Result (List Part) ValueFault) → with_front front (r >>= (λ x. Ok (p ∷ x))) ≡ with_front (front ++ p ∷ []) r
regroup front p (Ok x) = ap Ok (sym (append_assoc front (p ∷ []) x))
regroup front p (Err e) = refl

parts_next : (b : Bool) (front : List Part) (d : Data) (ds : Items) (p : Part) → part_of b d ≡ Ok p → with_front front (parts_of b (item d ds)) ≡ with_front (front ++ p ∷ []) (parts_of b ds)
unfolding parts_of
parts_next b front d ds p e = rw e (regroup front p (parts_of b ds))

pub parts_on : (b : Bool) (front : List Part) (vs : List Value) (i : ℕ) (v : Value) (p : Part) (total : Result (List Part) ValueFault) → i < length vs → v ≡ get_or vs i v → part_of b (view v) ≡ Ok p
    → with_front front (parts_of b (items_view (drop i vs))) ≡ total → with_front (front ++ p ∷ []) (parts_of b (items_view (drop (i + 1) vs))) ≡ total
parts_on b front vs i v p total lt is e so_far = sym (ap (λ ds. with_front front (parts_of b ds)) (next_value vs i v lt is) ∙ parts_next b front _ _ p e) ∙ so_far

parts_fail : (b : Bool) (front : List Part) (d : Data) (ds : Items) (e : ValueFault) → Fails e (part_of b d) → Fails e (with_front front (parts_of b (item d ds)))
unfolding parts_of
parts_fail b front d ds e h = fails_after e (part_of b d >>= λ part. parts_of b ds >>= λ parts. Ok (part ∷ parts)) (λ x. Ok (front ++ x)) (fails_after e (part_of b d) (λ part. parts_of b ds >>= λ parts. Ok (part ∷ parts)) h)

pub parts_err : (b : Bool) (front : List Part) (vs : List Value) (i : ℕ) (v : Value) (e : ValueFault) (total : Result (List Part) ValueFault) → i < length vs → v ≡ get_or vs i v → Fails e (part_of b (view v))
    → with_front front (parts_of b (items_view (drop i vs))) ≡ total → Fails e total
parts_err b front vs i v e total lt is h so_far =
    subst (λ (r : Result (List Part) ValueFault). Fails e r) (sym (ap (λ ds. with_front front (parts_of b ds)) (next_value vs i v lt is)) ∙ so_far) (parts_fail b front (view v) _ e h)

pub parts_end : (b : Bool) (front : List Part) (vs : List Value) (i : ℕ) (total : Result (List Part) ValueFault) → length vs ≤ i → with_front front (parts_of b (items_view (drop i vs))) ≡ total → total ≡ Ok front
unfolding parts_of
parts_end b front vs i total le so_far = sym so_far ∙ ap (λ l. with_front front (parts_of b (items_view l))) (drop_all i vs le) ∙ ap Ok (append-nil front)

pub parts_begin : (r : Result (List Part) ValueFault) → with_front [] r ≡ r
parts_begin (Ok x) = refl
parts_begin (Err e) = refl

-- ---- the values of parts

pub values_on : (b : Bool) (vs : List Value) (ps : List Part) (i : ℕ) (v : Value) (p : Part) → i < length ps → p ≡ get_or ps i p → view v ≡ part_data b p
    → map view vs ≡ map (part_data b) (take i ps) → map view (vs ++ v ∷ []) ≡ map (part_data b) (take (i + 1) ps)
values_on b vs ps i v p lt is e so_far =
    map_push view vs v ∙ ap (λ l. l ++ view v ∷ []) so_far ∙ ap (λ d. map (part_data b) (take i ps) ++ d ∷ []) (e ∙ ap (part_data b) is)
    ∙ sym (map_push (part_data b) (take i ps) (get_or ps i p)) ∙ ap (map (part_data b)) (sym (take_more ps i p lt))

pub limits_on : (ps : List Part) (i : ℕ) (p : Part) → i < length ps → p ≡ get_or ps i p → IsStatedPart p → All IsStatedPart (take i ps) → All IsStatedPart (take (i + 1) ps)
limits_on ps i p lt is h so_far = All-more IsStatedPart ps i p lt so_far (subst (λ q. IsStatedPart q) is h)
