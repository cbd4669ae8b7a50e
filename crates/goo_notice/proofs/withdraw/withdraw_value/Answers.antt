use Rattle.goo_notice.proofs.withdraw.withdraw_value.Goals as goal

pub returns-clause-value : goal.returns-clause-value
returns-clause-value c =
    simp (c.as_str.ensures.value, c.as_str-2.ensures.value, c.text.ensures.value, c.text-first.ensures.text, c.first.ensures.value, c.text-last.ensures.text, c.last.ensures.value)
    at (c.object_of.ensures _ (c.with_text-members-4.ensures _ (c.with_text-members-3.ensures _ (c.with_text-members-2.ensures _ (c.with_text-members.ensures _ c.nothing-members.ensures)))))
