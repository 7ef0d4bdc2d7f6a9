pub mod Cache
pub mod Private
pub mod Marks
