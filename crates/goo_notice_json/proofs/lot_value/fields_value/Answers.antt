use Rattle.goo_notice_json.specs.Lot.{lot_data}
use Rattle.goo_notice_json.proofs.lot_value.fields_value.Goals as goal

pub returns-clause-value : goal.returns-clause-value
unfolding lot_data
returns-clause-value c =
    simp (c.get.ensures.value, c.as_str.ensures.value, c.text.ensures.value, c.text-2.ensures.value, c.as_str-2.ensures.value, c.as_str-3.ensures.value, c.as_str-4.ensures.value, c.get-2.ensures.value, c.from.ensures, c.text-3.ensures.value, c.text-4.ensures.value, c.word.ensures.value, c.text-5.ensures.value, c.text-commissioned.ensures.text, c.text-first_day.ensures.text, c.text-issued_on.ensures.text, c.text-last_day.ensures.text)
    at (c.object_of.ensures _ (c.with_carrier-members.ensures _ (c.with_text-members-10.ensures _ (c.with_text-members-9.ensures _ (c.with_text-members-8.ensures _ (c.with_text-members-7.ensures _ (c.with_integer-members-2.ensures _ (c.with_text-members-6.ensures _ (c.with_text-members-5.ensures _ (c.with_text-members-4.ensures _ (c.with_text-members-3.ensures _ (c.with_text-members-2.ensures _ (c.with_text-members.ensures _ (c.with_integer-members.ensures _ c.nothing-members.ensures))))))))))))))
