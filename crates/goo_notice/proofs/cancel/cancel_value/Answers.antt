use Rattle.goo_notice.proofs.cancel.cancel_value.Goals as goal

pub returns-clause-value : goal.returns-clause-value
returns-clause-value c =
    simp (c.get.ensures.value, c.from.ensures, c.text.ensures.value, c.as_str.ensures.value, c.as_str-2.ensures.value, c.as_str-3.ensures.value, c.as_str-4.ensures.value, c.text-first.ensures.text, c.first.ensures.value, c.text-last.ensures.text, c.last.ensures.value, c.text-use_first.ensures.text, c.text-use_last.ensures.text)
    at (c.object_of.ensures _ (c.with_text-members-6.ensures _ (c.with_text-members-5.ensures _ (c.with_text-members-4.ensures _ (c.with_text-members-3.ensures _ (c.with_text-members-2.ensures _ (c.with_text-members.ensures _ (c.with_integer-members.ensures _ c.nothing-members.ensures))))))))
