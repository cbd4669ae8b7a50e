-- What a change of a book does to each number, as the crates above cite it.
pub use Rattle.goo_ranges_pieces.specs.Change.{inside, moved, set_to, meets, one_if}
