pub mod Below
pub mod Children
pub mod Next
pub mod Planned
pub mod Ranks
