use Rattle.std.proofs.Common.{rules}
use Rattle.goo_notice_text.proofs.notice_text.is_text.Goals as goal

pub returns : goal.returns
returns c = search rules
