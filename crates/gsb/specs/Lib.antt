pub mod Walk
pub mod First
pub mod Message
pub mod Lookup
pub mod Join
pub mod Private
