use Rattle.goo_ranges.proofs.books.Book.reassign.Goals as goal

pub returns-clause-few : goal.returns-clause-few
returns-clause-few c = rw (c.first.ensures.value, c.last.ensures.value, c.make_pages.ensures) at c.reassign_between.ensures.few

pub returns-clause-spares : goal.returns-clause-spares
returns-clause-spares c = rw (c.first.ensures.value, c.last.ensures.value, c.make_pages.ensures) at c.reassign_between.ensures.spares
