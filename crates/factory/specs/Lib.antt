pub mod Factory
pub mod Rises
pub mod Sheet
