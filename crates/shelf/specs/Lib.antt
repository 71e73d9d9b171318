pub mod Changes
pub mod Fault
pub mod Rows
pub mod Scan
pub mod States
pub mod Stretch
pub mod Tables
