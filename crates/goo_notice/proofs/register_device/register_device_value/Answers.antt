use Rattle.goo_notice.proofs.register_device.register_device_value.Goals as goal

pub returns-clause-value : goal.returns-clause-value
returns-clause-value c =
    simp (c.get.ensures.value, c.from.ensures, c.get-2.ensures.value, c.as_str.ensures.value, c.text.ensures.value, c.text-2.ensures.value, c.text-3.ensures.value, c.text-4.ensures.value, c.word.ensures.value, c.is_other-stated.ensures, c.text-5.ensures.value, c.text-commissioned.ensures.text)
    at (c.object_of.ensures _ (c.with_carrier-members.ensures _ (c.with_text-members-8.ensures _ (c.with_text-members-7.ensures _ (c.with_text-members-6.ensures _ (c.with_text-members-5.ensures _ (c.with_text-members-4.ensures _ (c.with_text-members-3.ensures _ (c.with_text-members-2.ensures _ (c.with_text-members.ensures _ (c.with_integer-members-2.ensures _ (c.with_integer-members.ensures _ c.nothing-members.ensures))))))))))))
