pub mod AccountQueries
pub mod PieceQueries
pub mod NetQueries
