use Rattle.std.proofs.Common.{drop, ap, ◌∙◌}
use Rattle.std.proofs.lemmas.List.{take_rest}
use Rattle.goo_core_pages.proofs.page.RowPage.halve.Goals as goal

pub returns-clause-upper : goal.returns-clause-upper
returns-clause-upper c =
    let put = rw (c.unwrap.ensures, c.clear.ensures.items, c.deref.ensures.value) at c.extend_from_slice-put.ensures.items in
    put ∙ take_rest c.self.inside.rows.items 32 ∙ ap (drop 32) c.self.view_is
