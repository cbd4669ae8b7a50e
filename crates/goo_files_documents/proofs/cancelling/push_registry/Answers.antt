use Rattle.std.proofs.Common.{append_assoc, refl}
use Rattle.goo_files_documents.proofs.cancelling.push_registry.Goals as goal

pub returns-clause-bytes : goal.returns-clause-bytes
returns-clause-bytes c = rw (c.push_code.ensures.bytes, c.push_str-2.ensures.bytes, c.push_integer.ensures.bytes, c.push_str.ensures.bytes, c.get.ensures.value) (simp append_assoc refl)
