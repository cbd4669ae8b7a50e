use Rattle.std.proofs.Common.{sym, subst, ◌∙◌}
use Rattle.std.specs.Str.{IsUtf8}
use Rattle.goo_types.proofs.NumberLemmas.{IsUtf8-number_text}
use Rattle.goo_desk_outcome.proofs.pushes.digits_of.Goals as goal

pub unwrap-requires : goal.unwrap-requires
unwrap-requires c = c.from_byte_string.ensures.variant.1 (subst (λ bytes. IsUtf8 bytes) (sym c.write.ensures.text) (IsUtf8-number_text c.args.number))

pub returns : goal.returns
returns c = (rw c.unwrap.ensures at c.from_byte_string.ensures.ok) ∙ c.write.ensures.text
