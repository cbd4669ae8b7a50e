use Rattle.std.proofs.Common.{rules}
use Rattle.goo_notice_text.proofs.notice_value.with_addressee.Goals as goal

pub returns : goal.returns
returns c = search rules
