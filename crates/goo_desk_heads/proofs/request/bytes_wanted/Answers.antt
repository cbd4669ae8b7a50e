use Rattle.std.proofs.Common.{◌∙◌, ◌+◌, ◌≤◌, length, arith, sym}
use Rattle.httparse.specs.Grammar.{print_request}
use Rattle.std.proofs.lemmas.Bool.Decides.{nat_tests}
use Rattle.std.proofs.lemmas.List.{length-drop}
use Rattle.goo_desk_heads.specs.Heads.{after_head}
use Rattle.goo_desk_heads.proofs.HeadFacts.{refused-sure, whole-sure}
use Rattle.goo_desk_heads.proofs.request.bytes_wanted.Goals as goal

pub returns-then-wanted-bytes-clause-sure : goal.returns-then-wanted-bytes-clause-sure
returns-then-wanted-bytes-clause-sure c =
    let begins = rw c.in-Head.is at c.requires in
    let bytes = c.args.bytes.now in
    let ended : c.in-Head.head.end + c.in-Ok.length ≤ length bytes = grind (arith, nat_tests, c.if-wanted-bytes.true) in
    let few : c.in-Ok.length ≤ length (after_head bytes begins.0) = omega (arith, ended, begins.2.ends, length-drop c.in-Head.head.end bytes, length-drop (length (print_request begins.0)) bytes) in
    whole-sure bytes begins.0 c.in-Ok.length begins.1 (sym begins.2.size ∙ c.in-Ok.is) few

pub returns-in-Err-clause-sure : goal.returns-in-Err-clause-sure
returns-in-Err-clause-sure c =
    let begins = rw c.in-Head.is at c.requires in
    refused-sure c.args.bytes.now begins.0 c.in-Err.field-0 begins.1 (sym begins.2.size ∙ c.in-Err.is)
