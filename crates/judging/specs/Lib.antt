pub mod Judging
pub mod Promised
pub mod Private
