pub mod RowsOf
pub mod NewPlaces
pub mod Bare
