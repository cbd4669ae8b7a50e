use Rattle.std.proofs.Common.{rules}
use Rattle.goo_notice_text.proofs.notice_value.shaped_fields.Goals as goal

pub returns : goal.returns
returns c = search rules
