-- A correction that a JSON value states is within its limits.
use Rattle.std.proofs.Common.{◌≡◌, ◌+◌, ◌&&◌, Bool, true, false, if◌then◌else◌, ℕ, List, Option, None, codes, Ok, subst}
use Rattle.serde_json.specs.Data.{Data}
use Rattle.serde_json.specs.Find.{as_object}
use Rattle.goo_types.specs.Codes.{name_reading}
use Rattle.goo_types.specs.Day.{day_reading}
use Rattle.goo_types.specs.Gsrn.{gsrn_reading}
use Rattle.goo_types.specs.Range.{Numbers}
use Rattle.goo_types.specs.declared.command.Correct.{Correct}
use Rattle.goo_notice.specs.Correct.{IsRangeIfAny, IsCorrect, is_empty, some_range, range_if_any, correct_of}
use Rattle.goo_notice_json.specs.Members.{of_size, string_at, integer_at}
use Rattle.goo_notice_json.specs.Fields.{as_field, integer_in, range_of}
use Rattle.goo_notice_json.proofs.LimitLemmas.{IsDay-reading}
use Rattle.goo_notice_json.proofs.FieldLimits.{bind_ok, field_ok, ok_same, within_limits, name_again, gsrn_again, range_numbers}

of_some : (first last : List ℕ) (o : Option Numbers) → some_range first last ≡ Ok o → IsRangeIfAny o
of_some first last o e =
    let a = bind_ok (range_of first last) _ o e in
    let numbers = range_numbers first last a.0 a.1 in
    subst IsRangeIfAny (ok_same _ o a.2) (numbers.0, numbers.1, numbers.2)

by : (b : Bool) (first last : List ℕ) (o : Option Numbers) → (if b then Ok None else some_range first last) ≡ Ok o → IsRangeIfAny o
by true first last o e = subst IsRangeIfAny (ok_same None o e) tt
by false first last o e = of_some first last o e

range : (first last : List ℕ) (o : Option Numbers) → range_if_any first last ≡ Ok o → IsRangeIfAny o
range first last o e = by (is_empty first && is_empty last) first last o e

pub correct : (others : ℕ) (d : Data) (c : Correct) → correct_of others d ≡ Ok c → IsCorrect c
unfolding correct_of
correct others d c e =
    let a0 = bind_ok (of_size (7 + others) (as_object d)) _ c e in
    let a1 = bind_ok (string_at (codes "device") d) _ c a0.2 in
    let a2 = bind_ok (string_at (codes "first") d) _ c a1.2 in
    let a3 = bind_ok (string_at (codes "first_day") d) _ c a2.2 in
    let a4 = bind_ok (string_at (codes "last") d) _ c a3.2 in
    let a5 = bind_ok (integer_at (codes "less_wh") d) _ c a4.2 in
    let a6 = bind_ok (string_at (codes "reason") d) _ c a5.2 in
    let a7 = bind_ok (as_field (gsrn_reading a1.0)) _ c a6.2 in
    let a8 = bind_ok (as_field (day_reading a3.0)) _ c a7.2 in
    let a9 = bind_ok (integer_in 0 1000000000000000 a5.0) _ c a8.2 in
    let a10 = bind_ok (range_if_any a2.0 a4.0) _ c a9.2 in
    let a11 = bind_ok (as_field (name_reading a6.0)) _ c a10.2 in
    subst (λ x. IsCorrect x) (ok_same _ c a11.2) (record {
      device = gsrn_again a1.0 a7.0 (field_ok (gsrn_reading a1.0) a7.0 a7.1);
      first_day = IsDay-reading a3.0 a8.0 (field_ok (day_reading a3.0) a8.0 a8.1);
      less = within_limits 0 1000000000000000 a5.0 a9.0 a9.1;
      range = range a2.0 a4.0 a10.0 a10.1;
      reason = name_again a6.0 a11.0 (field_ok (name_reading a6.0) a11.0 a11.1);
    })
