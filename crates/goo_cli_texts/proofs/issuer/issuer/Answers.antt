use Rattle.std.proofs.Common.{◌≡◌, ◌∙◌, Ok, Err, ap, sym}
use Rattle.goo_types.specs.Codes.{holder_reading}
use Rattle.goo_spec.specs.Checks.{issuer}
use Rattle.goo_cli_texts.proofs.Callers.{is_read}
use Rattle.goo_cli_texts.proofs.issuer.issuer.Goals as goal

pub unreachable-requires : goal.unreachable-requires
unreachable-requires c = let clash : Ok issuer ≡ Err c.in-Err.field-0 = sym is_read ∙ sym (ap holder_reading c.as_bytes.ensures.value) ∙ sym c.read.ensures ∙ c.in-Err.is in cc

pub returns : goal.returns
returns c = let same : Ok c.in-Ok.code ≡ Ok issuer = sym c.in-Ok.is ∙ c.read.ensures ∙ ap holder_reading c.as_bytes.ensures.value ∙ is_read in cc
