-- What the contracts of this crate cite.
pub mod Bounds
pub mod Fault
pub mod Firing
pub mod Menu
pub mod Reading
pub mod FiringWords
pub mod Ranges
pub mod Readings
pub mod StepKinds
pub mod MenuWords
