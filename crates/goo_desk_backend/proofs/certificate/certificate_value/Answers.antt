use Rattle.goo_desk_backend.specs.Certificates.{certificate_data}
use Rattle.goo_desk_backend.proofs.certificate.certificate_value.Goals as goal

pub returns : goal.returns
unfolding certificate_data
returns c =
    simp (c.account.ensures, c.get.ensures.value, c.from.ensures, c.act_of.ensures, c.as_str.ensures.value, c.text-text.ensures.text, c.place_word.ensures)
    at (c.object_of.ensures _ (c.with_text-members-2.ensures _ (c.with_text-members.ensures _ (c.with_lot-members.ensures _ (c.with_integer-members-2.ensures _ (c.with_integer-members.ensures _ c.nothing-members.ensures))))))
