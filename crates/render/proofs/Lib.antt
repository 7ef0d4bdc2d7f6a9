pub mod Listed
pub mod Example
