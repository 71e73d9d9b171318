pub mod Fault
pub mod Places
pub mod Plans
pub mod Widths
