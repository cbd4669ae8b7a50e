-- Parts that JSON values state are within their limits.
use Rattle.std.proofs.Common.{◌≡◌, Bool, List, All, codes, Ok, subst}
use Rattle.std.proofs.lemmas.List.Elements.{All-nil, All-cons}
use Rattle.serde_json.specs.Data.{Data, Items, no_items, item}
use Rattle.goo_types.specs.declared.part.Part.{Part}
use Rattle.goo_notice_json.specs.Members.{string_at, member_at}
use Rattle.goo_notice_json.specs.Fields.{range_of}
use Rattle.goo_notice_json.specs.Lot.{lot_of}
use Rattle.goo_notice_json.specs.Parts.{IsStatedPart, part_of, parts_of}
use Rattle.goo_notice_json.proofs.FieldLimits.{bind_ok, ok_same, range_numbers}
use Rattle.goo_notice_json.proofs.LotLimits.{lot}

part : (b : Bool) (d : Data) (p : Part) → part_of b d ≡ Ok p → IsStatedPart p
unfolding part_of
part b d p e =
    let a0 = bind_ok (string_at (codes "first") d) _ p e in
    let a1 = bind_ok (string_at (codes "last") d) _ p a0.2 in
    let a2 = bind_ok (member_at (codes "lot") d) _ p a1.2 in
    let a3 = bind_ok (range_of a0.0 a1.0) _ p a2.2 in
    let a4 = bind_ok (lot_of b a2.0) _ p a3.2 in
    let numbers = range_numbers a0.0 a1.0 a3.0 a3.1 in
    subst (λ x. IsStatedPart x) (ok_same _ p a4.2) (record {
      first = numbers.0;
      last = numbers.1;
      range = numbers.2;
      lot = lot b a2.0 a4.0 a4.1;
    })

pub parts : (b : Bool) (ds : Items) (ps : List Part) → parts_of b ds ≡ Ok ps → All IsStatedPart ps
unfolding parts_of
parts b no_items ps e = subst (λ x. All IsStatedPart x) (ok_same _ ps e) (All-nil IsStatedPart)
parts b (item d ds) ps e =
    let a = bind_ok (part_of b d) _ ps e in
    let c = bind_ok (parts_of b ds) _ ps a.2 in
    subst (λ x. All IsStatedPart x) (ok_same _ ps c.2) (All-cons IsStatedPart a.0 c.0 (part b d a.0 a.1) (parts b ds c.0 c.1))
