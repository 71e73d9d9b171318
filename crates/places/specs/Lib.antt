pub mod Checked
pub mod Checks
pub mod Fault
