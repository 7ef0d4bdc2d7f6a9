pub mod Moving
pub mod Registers
pub mod Filled
pub mod Accepted
pub mod Named
pub mod Messages
pub mod Joined
