use Rattle.std.proofs.Common.{rules, arith, true, ◌≡◌, ◌<◌, length}
use Rattle.std.specs.Char.{is_ascii_digit}
use Rattle.std.specs.List.{list_all}
use Rattle.goo_desk_heads.proofs.Lengths.{length-parsed, digits-utf8}
use Rattle.goo_desk_heads.proofs.fields.length_in.Goals as goal

pub returns-in_default : goal.returns-in_default
returns-in_default c = let digits : list_all is_ascii_digit c.args.value.now ≡ true = search rules in absurd (search (rules, digits-utf8))

pub returns-in-Err : goal.returns-in-Err
returns-in-Err c =
    let digits : list_all is_ascii_digit c.args.value.now ≡ true = search rules in
    let same : c.in-Ok.text.now ≡ c.args.value.now = search rules in
    let some : 0 < length c.args.value.now = search rules in
    let parsed = rw same at c.parse.ensures.value.0 in
    let read = length-parsed c.args.value.now c.parse.result parsed digits some (omega arith) in
    cc (read, c.in-Err.is)
