pub mod HandOver
pub mod State
pub mod Private
