use Rattle.goo_notice.proofs.declare.declare_value.Goals as goal

pub returns-clause-value : goal.returns-clause-value
returns-clause-value c =
    simp (c.get.ensures.value, c.text.ensures.value, c.as_str.ensures.value, c.get-2.ensures.value, c.as_str-2.ensures.value, c.text-first_day.ensures.text, c.text-last_day.ensures.text)
    at (c.object_of.ensures _ (c.with_text-members-4.ensures _ (c.with_integer-members-2.ensures _ (c.with_text-members-3.ensures _ (c.with_text-members-2.ensures _ (c.with_text-members.ensures _ (c.with_integer-members.ensures _ c.nothing-members.ensures)))))))
