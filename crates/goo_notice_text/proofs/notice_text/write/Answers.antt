use Rattle.goo_notice_text.proofs.NoticeTextLemmas.{text_is_read}
use Rattle.goo_notice_text.proofs.notice_text.write.Goals as goal

pub returns-clause-reads_back : goal.returns-clause-reads_back
returns-clause-reads_back c = text_is_read _ _ c.in_ok-written.ensures.text c.in_ok-written.ensures.limits
