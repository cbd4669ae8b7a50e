use Rattle.goo_notice.proofs.export.export_value.Goals as goal

pub returns-clause-value : goal.returns-clause-value
returns-clause-value c =
    simp (c.get.ensures.value, c.from.ensures, c.as_str.ensures.value, c.get-2.ensures.value, c.from-2.ensures, c.as_str-2.ensures.value, c.get-3.ensures.value, c.from-3.ensures, c.text-first.ensures.text, c.first.ensures.value, c.text-last.ensures.text, c.last.ensures.value)
    at (c.object_of.ensures _ (c.with_integer-members-3.ensures _ (c.with_text-members-3.ensures _ (c.with_integer-members-2.ensures _ (c.with_text-members-2.ensures _ (c.with_text-members.ensures _ (c.with_integer-members.ensures _ c.nothing-members.ensures)))))))
