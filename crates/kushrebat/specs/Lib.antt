pub mod Carrying
pub mod Grammar
pub mod Lines
pub mod Numerals
pub mod Places
pub mod Reasons
pub mod Refusals
