use Rattle.goo_notice.proofs.correct.correct_value.Goals as goal

pub returns-clause-value : goal.returns-clause-value
returns-clause-value c =
    simp (c.text.ensures.value, c.as_str.ensures.value, c.as_str-2.ensures.value, c.as_str-3.ensures.value, c.get.ensures.value, c.text-2.ensures.value, c.ends_of-first.ensures.first, c.ends_of-first.ensures.last, c.text-first_day.ensures.text)
    at (c.object_of.ensures _ (c.with_text-members-6.ensures _ (c.with_integer-members.ensures _ (c.with_text-members-5.ensures _ (c.with_text-members-4.ensures _ (c.with_text-members-3.ensures _ (c.with_text-members-2.ensures _ (c.with_text-members.ensures _ c.nothing-members.ensures))))))))
