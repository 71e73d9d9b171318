pub mod Children
pub mod NextSiblings
pub mod WordReads
pub mod Belows
pub mod Walks
