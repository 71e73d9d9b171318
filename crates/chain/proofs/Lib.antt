pub mod Hooks
pub mod Reset
pub mod Walks
