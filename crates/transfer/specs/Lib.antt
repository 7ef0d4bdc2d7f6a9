pub mod Transfer
pub mod Named
pub mod Private
