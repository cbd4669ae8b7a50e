use Rattle.std.proofs.Common.{rules}
use Rattle.goo_notice_text.specs.Notice.{notice_of}
use Rattle.goo_notice_text.proofs.notice_value.stated_notice.Goals as goal

pub returns-in_err-account : goal.returns-in_err-account
unfolding notice_of
returns-in_err-account c = search rules

pub returns-in_err-addressee : goal.returns-in_err-addressee
unfolding notice_of
returns-in_err-addressee c = search rules

pub returns-in_err-number : goal.returns-in_err-number
unfolding notice_of
returns-in_err-number c = search rules

pub returns-in_err-items : goal.returns-in_err-items
unfolding notice_of
returns-in_err-items c = search rules

pub returns-in_err-sender : goal.returns-in_err-sender
unfolding notice_of
returns-in_err-sender c = search rules

pub returns-in_err-version : goal.returns-in_err-version
unfolding notice_of
returns-in_err-version c = search rules

pub returns : goal.returns
unfolding notice_of
returns c = search rules
