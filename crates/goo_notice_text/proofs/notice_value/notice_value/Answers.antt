use Rattle.goo_notice_text.specs.Notice.{notice_data}
use Rattle.goo_notice_text.proofs.notice_value.notice_value.Goals as goal

pub returns-clause-value : goal.returns-clause-value
unfolding notice_data
returns-clause-value c =
    simp (c.account.ensures, c.addressee.ensures, c.number.ensures, c.sender.ensures, c.get.ensures.value, c.get-2.ensures.value, c.get-3.ensures.value, c.from.ensures, c.from-2.ensures, c.from-3.ensures, c.parts.ensures.value, c.parts-2.ensures.value, c.are_carried-carried.ensures, c.in_ok-parts.ensures.values)
    at (c.object_of.ensures _ (c.with_version-members.ensures _ (c.with_integer-members-3.ensures _ (c.with_items-members.ensures _ (c.with_integer-members-2.ensures _ (c.with_addressee-members.ensures _ (c.with_integer-members.ensures _ c.nothing-members.ensures)))))))
