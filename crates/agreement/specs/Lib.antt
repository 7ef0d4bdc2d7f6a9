pub mod Plain
pub mod Agree
pub mod Refused
pub mod Example
