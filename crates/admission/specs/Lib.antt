pub mod Refusals
pub mod Target
