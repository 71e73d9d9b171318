pub mod Chains
pub mod Links
