pub mod Tally
pub mod Private
